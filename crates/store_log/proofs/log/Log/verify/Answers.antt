use Rattle.std.proofs.Common.{◌≡◌, ◌<◌, ◌≤◌, ℕ, List, refl, sym, ◌∙◌, ap, subst, arith, IsTrue}
use Rattle.std.proofs.lemmas.Bool.Decides.{nat_tests}
use Rattle.store_log.specs.Log.{Contents, HasTexts, end_of, texts_of}
use Rattle.store_log.proofs.Texts.{kept_has}
use Rattle.store_log.proofs.log.Log.verify.Goals as goal

pub returns-clause-sound : goal.returns-clause-sound
returns-clause-sound g c refusal clean =
    let seen = g.D.Disk.seen in
    let head = c.self.inside.head in
    let file = c.self.inside.file in
    let some : 0 < file.room = grind (arith, nat_tests) in
    let was : IsTrue (g.D.Disk.is_clean file.disk) = subst (λ (v : Contents g.row.D.Denot). IsTrue (g.D.Disk.is_clean v.disk)) (sym c.self.view_is) (c.read.ensures.clean clean) in
    let k = c.self.invariant.kept some was in
    let bytes : c.deref.result.now ≡ seen file.disk = c.deref.ensures.value ∙ c.in-Ok.ensures.bytes clean ∙ ap (λ (v : Contents g.row.D.Denot). seen v.disk) (sym c.self.view_is) in
    let reaches : file.end ≤ end_of (seen file.disk) = omega (arith, k.rest.end) in
    c.in-Err-examine.ensures.refused head (texts_of (seen file.disk)) (subst (HasTexts head (texts_of (seen file.disk))) (sym bytes) (kept_has seen g.D.Disk.may_leave head file k)) (refl, refl)
    (subst (λ (f : List ℕ). file.end ≤ end_of f) (sym bytes) reaches)
