use Rattle.std.proofs.Common.{◌≡◌, sym, ◌∙◌, ap, subst}
use Rattle.std.specs.Prelude.{Err}
use Rattle.store_pair.specs.Pair.{AreBlank, AreClean, AreUntouched, AreUsable, HavePair, Held, IsCounted, counted_in, held_in, other_in}
use Rattle.store_pair.proofs.Pairs.{held_of, held_same}
use Rattle.store_pair.proofs.inspect.ordered.Goals as goal

pub returns-in-Ok-second_counts-clause-ordered : goal.returns-in-Ok-second_counts-clause-ordered
returns-in-Ok-second_counts-clause-ordered g c = record {
  untouched = subst (AreUntouched g.D.Disk.seen g.D.Disk.may_leave c.args.files) c.in_order-disk.ensures c.read_both.ensures.untouched;
  usable = subst (AreUsable g.D.Disk.is_usable) c.in_order-disk.ensures c.read_both.ensures.usable;
  clean = λ clean. c.read_both.ensures.clean (subst (AreClean g.D.Disk.is_clean) (sym c.in_order-disk.ensures) clean);
  counted = λ clean.
      let swapped = c.in-Ok-second_counts.swapped in
      let read = subst (AreClean g.D.Disk.is_clean) (sym c.in_order-disk.ensures) clean in
      let held : Held = held_of c.deref.result.now c.deref-2.result.now in
      let are : held_in g.D.Disk.seen c.args.files ≡ held = c.in-Ok.ensures.bytes read ∙ held_same _ _ _ _ (sym c.deref.ensures.value) (sym c.deref-2.ensures.value) in
      subst (λ (h : Held). IsCounted (counted_in swapped h) (other_in swapped h)) (sym are) c.in-Ok-second_counts.ensures.found;
}

pub returns-clause-sound : goal.returns-clause-sound
returns-clause-sound g c clean refusal head texts has =
    let held : Held = held_of c.deref.result.now c.deref-2.result.now in
    let are : held_in g.D.Disk.seen c.args.files ≡ held = c.in-Ok.ensures.bytes clean ∙ held_same _ _ _ _ (sym c.deref.ensures.value) (sym c.deref-2.ensures.value) in
    c.in-Err-second_counts.ensures.refused head texts (subst (HavePair head texts) are has)

pub returns-clause-blank : goal.returns-clause-blank
returns-clause-blank g c clean is =
    let held : Held = held_of c.deref.result.now c.deref-2.result.now in
    let are : held_in g.D.Disk.seen c.args.files ≡ held = c.in-Ok.ensures.bytes clean ∙ held_same _ _ _ _ (sym c.deref.ensures.value) (sym c.deref-2.ensures.value) in
    subst AreBlank (sym are) (c.in-Err-second_counts.ensures.blank (ap (λ x. Err x) is))
