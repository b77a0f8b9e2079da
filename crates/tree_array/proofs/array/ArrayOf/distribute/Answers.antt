use Rattle.std.proofs.Common.{◌≡◌, ◌-◌, drop, length, min, refl, ◌∙◌, ap, rules, arith, length-drop, take_all}
use Rattle.std.proofs.lemmas.List.{drop_min, take_min}
use Rattle.tree_array.proofs.Lemmas.{in_order, emptied_all, count_seen, entries_seen, fields, emptied_fields, none_left}
use Rattle.tree_array.proofs.array.ArrayOf.distribute.Goals as goal

pub move_places-requires : goal.move_places-requires
move_places-requires g c =
    let a = fields refl c.counts-count.ensures.entries refl c.self.invariant c.self.view_is in
    (search rules, (search rules, (omega arith, ((_, _, _, a.it.table, omega arith, none_left _ _ _), c.requires.low))))

pub move_places-requires-2 : goal.move_places-requires-2
move_places-requires-2 g c =
    let a = fields refl c.counts-count.ensures.entries refl c.self.invariant c.self.view_is in
    let first = c.move_places.ensures.moved _ _ _ a.it.table (omega arith) (none_left _ _ _) in
    (search rules, (search rules, (omega arith, ((_, _, _, a.it.table, omega arith, first.0), c.requires.high))))

pub invariant_of-self : goal.invariant_of-self
invariant_of-self g c =
    let a = fields refl c.counts-count.ensures.entries refl c.self.invariant c.self.view_is in
    let first = c.move_places.ensures.moved _ _ _ a.it.table (omega arith) (none_left _ _ _) in
    let second = c.move_places-2.ensures.moved _ _ _ a.it.table (omega arith) first.0 in
    let kept = c.set_entries.ensures in
    let whole = c.move_places-2.ensures.whole ∙ c.move_places.ensures.whole ∙ a.it.table.whole in
    rw (kept.pairs, kept.entries, kept.arrivals, c.move_places-2.ensures.counts, c.move_places.ensures.counts) (emptied_fields a _ (emptied_all g.met.K.Ord.total a.it.table second.0 refl) whole).it

pub returns : goal.returns
returns g c =
    let a = fields refl c.counts-count.ensures.entries refl c.self.invariant c.self.view_is in
    let cut = c.min-cut.result in
    let first = c.move_places.ensures.moved _ _ _ a.it.table (omega arith) (none_left _ _ _) in
    let second = c.move_places-2.ensures.moved _ _ _ a.it.table (omega arith) first.0 in
    let kept = c.set_entries.ensures in
    let whole = c.move_places-2.ensures.whole ∙ c.move_places.ensures.whole ∙ a.it.table.whole in
    let few = count_seen a in
    let is : min c.args.boundary (length c.args.self.now.entries) ≡ cut = omega (arith, few) in
    let all : cut - 0 ≡ cut = omega arith in
    record {
      low = rw (all, ← entries_seen a) at first.1 ∙ ap in_order (rw is at (take_min c.args.boundary c.args.self.now.entries));
      high = rw (← entries_seen a) at second.1 ∙ ap in_order (take_all _ (drop cut c.args.self.now.entries) (omega (arith, length-drop cut c.args.self.now.entries, few)) ∙ rw is at (drop_min c.args.boundary c.args.self.now.entries));
      left = rw (kept.pairs, kept.entries, kept.arrivals, c.move_places-2.ensures.counts, c.move_places.ensures.counts) (emptied_fields a _ (emptied_all g.met.K.Ord.total a.it.table second.0 refl) whole).view;
    }
