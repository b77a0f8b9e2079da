use Rattle.std.proofs.Common.{[], ◌++◌, ◌-◌, ◌^◌, ◌∙◌, length, min, ap, refl}
use Rattle.std.proofs.KnownBytes.{Appends-nil}
use Rattle.storetool.specs.Printing.{figures}
use Rattle.storetool.proofs.Figures.{prints_same}
use Rattle.storetool.proofs.stat.stat.Goals as goal

pub returns-in-Ok : goal.returns-in-Ok
returns-in-Ok g c =
    let put = c.in-Ok.ensures in
    let lines = figures (min (length c.args.store.now.pairs) (2 ^ 64 - 1)) put.0 put.1 put.2 c.args.store.now.saved.head.generation in
    (put.0, put.1, put.2, prints_same c.write_out.result _ lines _ _ (c.deref.ensures.value ∙ put.3 ∙ ap (λ t. t ++ lines) c.new-text.ensures.items) c.write_out.ensures)

-- nothing was written
pub returns : goal.returns
returns g c = (0, 0, 0, ([], _, Appends-nil _, refl))
