use Rattle.tree_node.proofs.Common.{fits}
use Rattle.std.proofs.Common.{◌≡◌, Some, refl, ap, ◌∙◌, option_map}
use Rattle.tree_index.proofs.index.TreeIndexOf.peek_or_insert.Goals as goal

pub returns : goal.returns
returns g c =
    let made = c.in_ok-key.ensures in
    let got : Some c.in-Some.value.now ≡ Some made.0.1 = c.in-Some.ensures.found ∙ ap (option_map (λ p. p.1)) made.1 in
    let same : c.in-Some.value.now ≡ made.0.1 = cc in
    ((refl, λ _. tt, rw same made.2), tt)

pub make_present-requires : goal.make_present-requires
make_present-requires g c = search fits

pub peek-requires : goal.peek-requires
peek-requires g c = search fits
