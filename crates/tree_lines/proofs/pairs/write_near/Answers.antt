use Rattle.std.proofs.Common.{sym, subst, ◌∙◌, nat_cmp}
use Rattle.tree_model.proofs.Common.{IsAscending}
use Rattle.tree_node.proofs.Common.{fits}
use Rattle.tree_model.specs.declared.proximity.ProximityOf.TheVariants.{Exact, Between, Smaller, Larger, Empty}
use Rattle.tree_lines.proofs.Located.{tells_near}
use Rattle.tree_lines.proofs.pairs.write_near.Goals as goal

pub returns-in-Exact : goal.returns-in-Exact
returns-in-Exact g c =
    let near = tells_near c.args.index.now.pairs c.args.key (Exact c.in-Exact.found) (sym c.in-Exact.is ∙ c.locate.ensures) (λ same. subst (IsAscending nat_cmp) same c.get.ensures.ascending) in
    rw (← near, ← c.get.ensures.pair) c.write_told.ensures

pub returns-in-Between : goal.returns-in-Between
returns-in-Between g c =
    let near = tells_near c.args.index.now.pairs c.args.key (Between c.in-Between.found) (sym c.in-Between.is ∙ c.locate.ensures) (λ same. subst (IsAscending nat_cmp) same c.get_back.ensures.ascending) in
    rw (← near, ← c.get-in-Between.ensures.pair, ← c.get_back.ensures.pair) c.write_told-in-Between.ensures

pub returns-in-Smaller : goal.returns-in-Smaller
returns-in-Smaller g c =
    let near = tells_near c.args.index.now.pairs c.args.key (Smaller c.in-Smaller.found) (sym c.in-Smaller.is ∙ c.locate.ensures) (λ same. subst (IsAscending nat_cmp) same c.get_back-in-Smaller.ensures.ascending) in
    rw (← near, ← c.get_back-in-Smaller.ensures.pair) c.write_told-in-Smaller.ensures

pub returns-in-Larger : goal.returns-in-Larger
returns-in-Larger g c =
    let near = tells_near c.args.index.now.pairs c.args.key (Larger c.in-Larger.found) (sym c.in-Larger.is ∙ c.locate.ensures) (λ same. subst (IsAscending nat_cmp) same c.get-in-Larger.ensures.ascending) in
    rw (← near, ← c.get-in-Larger.ensures.pair) c.write_told-in-Larger.ensures

pub locate-requires : goal.locate-requires
locate-requires g c = (search fits, (search fits, (search fits, search fits)))

pub get-requires : goal.get-requires
get-requires g c = (search fits, (search fits, search fits))

pub returns-in-Empty : goal.returns-in-Empty
returns-in-Empty g c =
    let near = tells_near c.args.index.now.pairs c.args.key Empty (sym c.in-Empty.is ∙ c.locate.ensures) (λ same. rw same tt) in
    rw (← near) c.write_whole.ensures

pub get-requires-in-Between : goal.get-requires-in-Between
get-requires-in-Between g c = (search fits, (search fits, search fits))

pub get_back-requires : goal.get_back-requires
get_back-requires g c = (search fits, (search fits, search fits))

pub get_back-requires-in-Smaller : goal.get_back-requires-in-Smaller
get_back-requires-in-Smaller g c = (search fits, (search fits, search fits))

pub get-requires-in-Larger : goal.get-requires-in-Larger
get-requires-in-Larger g c = (search fits, (search fits, search fits))
