use Rattle.std.proofs.Common.{◌≡◌, ◌⊎◌, ◌≤◌, inl, inr, ℕ, List, [], ◌∷◌, ◌++◌, false, true, refl, sym, ◌∙◌, ap, subst, arith, IsTrue, Err}
use Rattle.std.proofs.lemmas.Bool.Decides.{nat_tests}
use Rattle.store_codec.specs.Records.{record_at}
use Rattle.store_log.specs.Head.{HasKinds}
use Rattle.store_log.specs.Log.{HasTexts}
use Rattle.store_pair.specs.Pair.{AreClean, MayHold, held_in}
use Rattle.tree_store.specs.Changes.{HaveRecords, Leads}
use Rattle.tree_store.specs.Store.{HasSaved, Leave, StandFor, store_of}
use Rattle.tree_store.proofs.Noted.{just_saved, leads_have}
use Rattle.tree_store.proofs.Saved.{pair_once, leave, stand}
use Rattle.tree_node.proofs.Common.{fits}
use Rattle.tree_store.proofs.store.TreeStore.open.Goals as goal

pub returns-in-Err-clause-sound : goal.returns-in-Err-clause-sound
returns-in-Err-clause-sound g c clean refuses pairs s =
    c.in-Err.ensures.sound clean refuses s.head s.texts s.has (s.are.0 ∙ sym c.kind.ensures, s.are.1 ∙ sym c.kind-2.ensures)

pub returns-in-Err-clause-blank : goal.returns-in-Err-clause-blank
returns-in-Err-clause-blank g c clean is = c.in-Err.ensures.blank clean (cc is)

pub returns-in-Err-clause-crash : goal.returns-in-Err-clause-crash
returns-in-Err-clause-crash g c clean pairs s left may =
    record { head = s.head; are = s.are; texts = s.texts; has = c.in-Err.ensures.crash clean s.head s.texts s.has left may; leads = s.leads }

pub invariant_of-result : goal.invariant_of-result
invariant_of-result g c =
    let cmp = g.K.Ord.cmp in
    let key = g.K.Encode.seen in
    let value = g.V.Encode.seen in
    let read = record_at g.K.Encode.value_at g.V.Encode.value_at in
    let kinds : ℕ × ℕ = (g.K.Encode.kind_number, g.V.Encode.kind_number) in
    let log = c.in-Ok.opened.0 in
    let kinds_are : HasKinds log.head kinds = (c.in-Ok.ensures.kinds.0 ∙ c.kind.ensures, c.in-Ok.ensures.kinds.1 ∙ c.kind-2.ensures) in
    record {
      are = kinds_are;
      leaves = λ runs clean. c.in-Ok.ensures.kept clean;
      goes_on = λ runs clean.
          let has = subst (HasTexts log.head log.texts) (sym c.deref.ensures.value) (c.in-Ok.ensures.bytes clean) in
          just_saved cmp key value read log.texts c.new.result.items c.in-Ok-replayed.index.pairs (c.in-Ok-replayed.ensures.led log.head log.texts has) c.new.ensures.items;
    }

pub returns-in-Ok-replayed-clause-opened : goal.returns-in-Ok-replayed-clause-opened
returns-in-Ok-replayed-clause-opened g c clean =
    let cmp = g.K.Ord.cmp in
    let key = g.K.Encode.seen in
    let value = g.V.Encode.seen in
    let read = record_at g.K.Encode.value_at g.V.Encode.value_at in
    let kinds : ℕ × ℕ = (g.K.Encode.kind_number, g.V.Encode.kind_number) in
    let log = c.in-Ok.opened.0 in
    let has = c.in-Ok.ensures.opened clean in
    let led = c.in-Ok-replayed.ensures.led log.head log.texts (subst (HasTexts log.head log.texts) (sym c.deref.ensures.value) (c.in-Ok.ensures.bytes clean)) in
    record { head = log.head; are = (c.in-Ok.ensures.kinds.0 ∙ c.kind.ensures, c.in-Ok.ensures.kinds.1 ∙ c.kind-2.ensures); texts = log.texts; has = has; leads = led }

pub returns-in-Ok-replayed-clause-saved : goal.returns-in-Ok-replayed-clause-saved
returns-in-Ok-replayed-clause-saved g c clean =
    let log = c.in-Ok.opened.0 in
    c.in-Ok-replayed.ensures.led log.head log.texts (subst (HasTexts log.head log.texts) (sym c.deref.ensures.value) (c.in-Ok.ensures.bytes clean))

pub returns-in-Ok-replayed-clause-leaves : goal.returns-in-Ok-replayed-clause-leaves
returns-in-Ok-replayed-clause-leaves g c clean left may =
    let log = c.in-Ok.opened.0 in
    let led = c.in-Ok-replayed.ensures.led log.head log.texts (subst (HasTexts log.head log.texts) (sym c.deref.ensures.value) (c.in-Ok.ensures.bytes clean)) in
    record { head = log.head; are = (c.in-Ok.ensures.kinds.0 ∙ c.kind.ensures, c.in-Ok.ensures.kinds.1 ∙ c.kind-2.ensures); texts = log.texts; has = c.in-Ok.ensures.kept clean left may; leads = led }

pub returns-in-Err-Memory-clause-crash : goal.returns-in-Err-Memory-clause-crash
returns-in-Err-Memory-clause-crash g c clean pairs s left may =
    let cmp = g.K.Ord.cmp in
    let key = g.K.Encode.seen in
    let value = g.V.Encode.seen in
    let read = record_at g.K.Encode.value_at g.V.Encode.value_at in
    let kinds : ℕ × ℕ = (g.K.Encode.kind_number, g.V.Encode.kind_number) in
    let log = c.in-Ok.opened.0 in
    let clean_log = subst (λ (f : _). AreClean g.D.Disk.is_clean f) c.into_files.ensures clean in
    let may_log = subst (λ (f : _). MayHold g.D.Disk.may_leave f left) c.into_files.ensures may in
    let texts = (pair_once (held_in g.D.Disk.seen c.args.files) log.head s.head log.texts s.texts (c.in-Ok.ensures.opened clean_log) s.has).0 in
    stand cmp key value read kinds log.head (c.in-Ok.ensures.kinds.0 ∙ c.kind.ensures, c.in-Ok.ensures.kinds.1 ∙ c.kind-2.ensures) log.texts left pairs (c.in-Ok.ensures.kept clean_log left may_log) (subst (λ (t : List (List ℕ)). Leads cmp key value read t [] pairs) (sym texts) s.leads)

pub returns-clause-crash : goal.returns-clause-crash
returns-clause-crash g c clean pairs s left may =
    let cmp = g.K.Ord.cmp in
    let key = g.K.Encode.seen in
    let value = g.V.Encode.seen in
    let read = record_at g.K.Encode.value_at g.V.Encode.value_at in
    let kinds : ℕ × ℕ = (g.K.Encode.kind_number, g.V.Encode.kind_number) in
    let log = c.in-Ok.opened.0 in
    let clean_log = subst (λ (f : _). AreClean g.D.Disk.is_clean f) c.into_files-in-Err-Unreadable.ensures clean in
    let may_log = subst (λ (f : _). MayHold g.D.Disk.may_leave f left) c.into_files-in-Err-Unreadable.ensures may in
    let texts = (pair_once (held_in g.D.Disk.seen c.args.files) log.head s.head log.texts s.texts (c.in-Ok.ensures.opened clean_log) s.has).0 in
    stand cmp key value read kinds log.head (c.in-Ok.ensures.kinds.0 ∙ c.kind.ensures, c.in-Ok.ensures.kinds.1 ∙ c.kind-2.ensures) log.texts left pairs (c.in-Ok.ensures.kept clean_log left may_log) (subst (λ (t : List (List ℕ)). Leads cmp key value read t [] pairs) (sym texts) s.leads)

pub returns-clause-sound : goal.returns-clause-sound
returns-clause-sound g c clean refuses pairs s =
    let cmp = g.K.Ord.cmp in
    let key = g.K.Encode.seen in
    let value = g.V.Encode.seen in
    let read = record_at g.K.Encode.value_at g.V.Encode.value_at in
    let kinds : ℕ × ℕ = (g.K.Encode.kind_number, g.V.Encode.kind_number) in
    let log = c.in-Ok.opened.0 in
    let clean_log = subst (λ (f : _). AreClean g.D.Disk.is_clean f) c.into_files-in-Err-Unreadable.ensures clean in
    let has = c.in-Ok.ensures.opened clean_log in
    let texts = (pair_once (held_in g.D.Disk.seen c.args.files) log.head s.head log.texts s.texts has s.has).0 in
    let have = subst (HaveRecords read) (sym texts) (leads_have cmp key value read s.texts [] pairs s.leads) in
    c.in-Err-Unreadable.ensures.sound (ap (λ x. Err x) c.in-Err-Unreadable.field-0-is) log.head log.texts (subst (HasTexts log.head log.texts) (sym c.deref.ensures.value) (c.in-Ok.ensures.bytes clean_log)) have

pub replayed-requires : goal.replayed-requires
replayed-requires g c = search fits

pub returns-in-Err-Memory-clause-clean_err : goal.returns-in-Err-Memory-clause-clean_err
returns-in-Err-Memory-clause-clean_err g c clean = c.in-Ok.ensures.clean (subst (λ (f : _). AreClean g.D.Disk.is_clean f) c.into_files.ensures clean)

pub returns-clause-clean_err : goal.returns-clause-clean_err
returns-clause-clean_err g c clean = c.in-Ok.ensures.clean (subst (λ (f : _). AreClean g.D.Disk.is_clean f) c.into_files-in-Err-Unreadable.ensures clean)
