use Rattle.std.proofs.Common.{◌≡◌, ◌≢◌, ◌∷◌, ◌++◌, [], length, arith}
use Rattle.std.specs.List.{AllByRecursion}
use Rattle.std.specs.declared.cmp.Ordering.TheVariants.{Less}
use Rattle.tree_node.proofs.Bare.{some_slots}
use Rattle.tree_node.proofs.Cuts.{all_behind, ascending_front, smaller_front}
use Rattle.tree_node.proofs.Sizes.{fits}
use Rattle.tree_root.specs.Runs.{Gathers}
use Rattle.tree_root.specs.Trees.{pairs_of}
use Rattle.tree_root.proofs.Runs.{none_gathered, one_pushed}
use Rattle.tree_root.proofs.tree.Tree.gather.Goals.{then-is_full+in_ok-append_run, else-is_full}
use Rattle.tree_root.proofs.tree.Tree.gather.Goals as goal

pub append_run-requires : goal.append_run-requires
append_run-requires g c = (search fits, (search fits, (c.requires.len, (c.requires.whole, ascending_front g.K.Ord.cmp _ _ c.requires.ascending))))

pub push-requires : goal.push-requires
push-requires g c =
    let room : length c.if-is_full.run ≢ g.row.LEN = elim c.if-is_full.branch [
      | then-is_full+in_ok-append_run w ↦ rw (w.run-is, w.in_ok-append_run.ensures.left) (λ all. omega (arith, some_slots g.row.LEN c.requires.len, all))
      | else-is_full w ↦ rw w.run-is (λ all. let full = c.is_full.ensures.1 all in let not = w.if-is_full.false in cc)
    ] in
    let smaller = smaller_front g.K.Ord.cmp (pairs_of c.args.self.now ++ c.args.run.now) (c.args.key, c.args.val) [] c.requires.ascending in
    let larger : AllByRecursion (λ p. g.K.Ord.cmp p.0 c.args.key ≡ Less) c.if-is_full.run = elim c.if-is_full.branch [
      | then-is_full+in_ok-append_run w ↦ rw (w.run-is, w.in_ok-append_run.ensures.left) tt
      | else-is_full w ↦ rw w.run-is (all_behind _ (pairs_of c.args.self.now) c.args.run.now smaller)
    ] in
    (search fits, (room, larger))

pub returns : goal.returns
returns g c =
    let gathers : Gathers g.K.Ord.cmp c.args.self.now c.if-is_full.self c.args.run.now c.if-is_full.run [] = elim c.if-is_full.branch [
      | then-is_full+in_ok-append_run w ↦ rw (w.self-is, w.run-is, w.in_ok-append_run.ensures.left) w.in_ok-append_run.ensures.gathers
      | else-is_full w ↦ rw (w.self-is, w.run-is) (none_gathered c.args.self.now c.args.run.now c.requires.whole)
    ] in
    rw c.push.ensures (one_pushed c.args.self.now c.args.run.now c.if-is_full.self (c.args.key, c.args.val) c.if-is_full.run gathers)
