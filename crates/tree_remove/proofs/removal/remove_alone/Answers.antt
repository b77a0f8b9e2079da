use Rattle.tree_remove.proofs.Common.{fits, ◌∙◌}
use Rattle.tree_remove.proofs.EmptiedLeaves.{emptied_by, goes_as_said}
use Rattle.tree_remove.proofs.Ways.{led_to, removes_on_way, settled_on_way}
use Rattle.tree_remove.proofs.removal.remove_alone.Goals as goal

pub remove_in_leaf-requires : goal.remove_in_leaf-requires
remove_in_leaf-requires g c =
    let led = led_to g.met.K.Ord.total c.args.key.now c.args.level c.requires.node c.args.arenas.now c.args.id c.requires.way.0 c.args.leaf c.requires.way.1 in
    (search fits, (search fits, (led.there, rw led.found at c.requires.callable)))

pub drop_emptied-requires : goal.drop_emptied-requires
drop_emptied-requires g c =
    let emptied = emptied_by c.requires.way.0 c.requires.way.1 c.in-Retired.ensures.removes in
    (search fits, (search fits, (c.requires.node, (c.args.arenas.now, emptied))))

pub returns-in-Retired : goal.returns-in-Retired
returns-in-Retired g c =
    let led = led_to g.met.K.Ord.total c.args.key.now c.args.level c.requires.node c.args.arenas.now c.args.id c.requires.way.0 c.args.leaf c.requires.way.1 in
    let out = c.in-Retired.ensures.removes.pairs.0 in
    let drops = c.drop_emptied.ensures c.args.arenas.now (emptied_by c.requires.way.0 c.requires.way.1 c.in-Retired.ensures.removes) in
    record {
      removes = goes_as_said g.K.Ord.cmp _ c.args.level c.args.arenas.now _ c.args.id c.args.key.now out.pair (led.found ∙ out.was) out.said _ drops.removes;
      settled = drops.settled;
    }

pub returns-in_default : goal.returns-in_default
returns-in_default g c =
    let removes = c.remove_in_leaf.ensures.removes in
    record {
      removes = removes_on_way g.met.K.Ord.total _ c.in_default.not-Retired removes c.args.level c.requires.node c.args.id c.requires.way.0 c.requires.way.1;
      settled = λ one success. settled_on_way g.met.K.Ord.total c.args.key.now c.args.arenas.now c.remove_in_leaf.new.arenas c.args.level c.args.id
          c.requires.way.0 c.args.leaf one c.requires.way.1 removes.replaces (c.remove_in_leaf.ensures.settled success);
    }
