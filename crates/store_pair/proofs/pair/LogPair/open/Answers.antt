use Rattle.std.proofs.Common.{sym, subst, arith}
use Rattle.store_log.specs.Log.{HasTexts}
use Rattle.store_pair.specs.Pair.{AreClean, AreUntouched, AreUsable, LeavePair}
use Rattle.store_pair.proofs.Ordered.{after_untouched, after_usable, both_settled, both_usable, clean_before, counted_texts, leave_repaired, left_older, not_blank, opened_pair}
use Rattle.store_pair.proofs.Pairs.{clean_both, clean_parts, leave_pair, leave_read}
use Rattle.store_pair.proofs.pair.LogPair.open.Goals as goal

pub returns-in-Err-clause-crash : goal.returns-in-Err-clause-crash
returns-in-Err-clause-crash g c clean head texts has = leave_read g.D.Disk.seen g.D.Disk.may_leave c.args.files c.in-Err.refused.1 c.in-Err.ensures.untouched c.requires.settled head texts has

pub returns-in-Err-clause-sound : goal.returns-in-Err-clause-sound
returns-in-Err-clause-sound g c clean refusal head texts has kinds = c.in-Err.ensures.sound clean refusal head texts has

pub open-requires : goal.open-requires
open-requires g c = record { usable = (both_usable c.in-Ok.ensures.ordered).0; durable = (both_settled c.in-Ok.ensures.ordered c.requires.settled).0 }

pub invariant_of-pair : goal.invariant_of-pair
invariant_of-pair g c =
    let log = c.in-Ok-open.log in
    let found = c.in-Ok.found in
    record {
      leaves = λ runs clean. c.in-Ok-open.ensures.kept clean;
      older = λ runs clean other.
          let was = clean_both g.D.Disk.is_clean found.0 found.1 found.2 (c.in-Ok-open.ensures.clean clean) (c.close.ensures.clean other) in
          c.close.ensures.older log.head.generation other (left_older c.in-Ok.ensures.ordered c.requires.settled was log.head log.texts (c.in-Ok-open.ensures.opened clean));
    }

pub returns-in-Ok-open-clause-opened : goal.returns-in-Ok-open-clause-opened
returns-in-Ok-open-clause-opened g c clean =
    let found = c.in-Ok.found in
    let parts = clean_parts g.D.Disk.is_clean found.0 c.in-Ok-open.log.disk c.close.new.spare clean in
    let was = clean_both g.D.Disk.is_clean found.0 found.1 found.2 (c.in-Ok-open.ensures.clean parts.0) (c.close.ensures.clean parts.1) in
    opened_pair c.in-Ok.ensures.ordered c.requires.settled was c.in-Ok-open.log.head c.in-Ok-open.log.texts (c.in-Ok-open.ensures.opened parts.0)

pub returns-in-Ok-open-clause-bytes : goal.returns-in-Ok-open-clause-bytes
returns-in-Ok-open-clause-bytes g c clean =
    let log = c.in-Ok-open.log in
    let parts = clean_parts g.D.Disk.is_clean c.in-Ok.found.0 log.disk c.close.new.spare clean in
    subst (HasTexts log.head log.texts) (sym (c.in-Ok-open.ensures.bytes parts.0)) (c.in-Ok-open.ensures.opened parts.0)

pub returns-in-Ok-open-clause-clean : goal.returns-in-Ok-open-clause-clean
returns-in-Ok-open-clause-clean g c clean =
    let found = c.in-Ok.found in
    let parts = clean_parts g.D.Disk.is_clean found.0 c.in-Ok-open.log.disk c.close.new.spare clean in
    c.in-Ok.ensures.ordered.clean (clean_both g.D.Disk.is_clean found.0 found.1 found.2 (c.in-Ok-open.ensures.clean parts.0) (c.close.ensures.clean parts.1))

pub returns-in-Ok-open-clause-kept : goal.returns-in-Ok-open-clause-kept
returns-in-Ok-open-clause-kept g c clean =
    let log = c.in-Ok-open.log in
    let found = c.in-Ok.found in
    let parts = clean_parts g.D.Disk.is_clean found.0 log.disk c.close.new.spare clean in
    let was = clean_both g.D.Disk.is_clean found.0 found.1 found.2 (c.in-Ok-open.ensures.clean parts.0) (c.close.ensures.clean parts.1) in
    let older = left_older c.in-Ok.ensures.ordered c.requires.settled was log.head log.texts (c.in-Ok-open.ensures.opened parts.0) in
    leave_pair g.D.Disk.may_leave found.0 log.disk c.close.new.spare log.head log.texts (c.in-Ok-open.ensures.kept parts.0) (c.close.ensures.older log.head.generation parts.1 older)

-- the file that counts was refused
pub returns-in-Err-open-clause-sound : goal.returns-in-Err-open-clause-sound
returns-in-Err-open-clause-sound g c clean refusal head texts has kinds =
    let files = subst (AreClean g.D.Disk.is_clean) c.of.ensures clean in
    let parts = clean_parts g.D.Disk.is_clean c.in-Ok.found.0 c.in-Err-open.disk c.in-Ok.found.2 files in
    let was = clean_before c.in-Ok.ensures.ordered c.in-Err-open.disk c.in-Err-open.ensures.clean_err files in
    c.in-Err-open.ensures.sound parts.0 refusal head texts (counted_texts c.in-Ok.ensures.ordered c.requires.settled was head texts has) kinds (omega arith)

pub returns-in-Err-open-clause-usable : goal.returns-in-Err-open-clause-usable
returns-in-Err-open-clause-usable g c refusal = subst (AreUsable g.D.Disk.is_usable) (sym c.of.ensures) (after_usable c.in-Ok.ensures.ordered c.in-Err-open.disk (c.in-Err-open.ensures.usable refusal))

pub returns-in-Err-open-clause-untouched : goal.returns-in-Err-open-clause-untouched
returns-in-Err-open-clause-untouched g c refusal =
    subst (AreUntouched g.D.Disk.seen g.D.Disk.may_leave c.args.files) (sym c.of.ensures) (after_untouched c.in-Ok.ensures.ordered c.in-Err-open.disk (c.in-Err-open.ensures.untouched refusal))

pub returns-in-Err-open-clause-blank : goal.returns-in-Err-open-clause-blank
returns-in-Err-open-clause-blank g c clean is =
    let files = subst (AreClean g.D.Disk.is_clean) c.of.ensures clean in
    let parts = clean_parts g.D.Disk.is_clean c.in-Ok.found.0 c.in-Err-open.disk c.in-Ok.found.2 files in
    absurd (not_blank c.in-Ok.ensures.ordered c.requires.settled (clean_before c.in-Ok.ensures.ordered c.in-Err-open.disk c.in-Err-open.ensures.clean_err files) (c.in-Err-open.ensures.blank parts.0 is))

pub returns-in-Err-open-clause-crash : goal.returns-in-Err-open-clause-crash
returns-in-Err-open-clause-crash g c clean head texts has =
    let files = subst (AreClean g.D.Disk.is_clean) c.of.ensures clean in
    let parts = clean_parts g.D.Disk.is_clean c.in-Ok.found.0 c.in-Err-open.disk c.in-Ok.found.2 files in
    let was = clean_before c.in-Ok.ensures.ordered c.in-Err-open.disk c.in-Err-open.ensures.clean_err files in
    let leaves = c.in-Err-open.ensures.crash parts.0 head texts (counted_texts c.in-Ok.ensures.ordered c.requires.settled was head texts has) in
    subst (λ left. LeavePair g.D.Disk.may_leave head texts left) (sym c.of.ensures) (leave_repaired c.in-Ok.ensures.ordered c.requires.settled was head texts c.in-Err-open.disk has leaves)

pub returns-in-Err-open-clause-clean_err : goal.returns-in-Err-open-clause-clean_err
returns-in-Err-open-clause-clean_err g c clean = c.in-Ok.ensures.ordered.clean (clean_before c.in-Ok.ensures.ordered c.in-Err-open.disk c.in-Err-open.ensures.clean_err (subst (AreClean g.D.Disk.is_clean) c.of.ensures clean))
