use Rattle.tree_array.proofs.Lemmas.{◌+◌, refl, sym, ◌∙◌, add-one, rules, arith, drop_all, slice_get_past, parted, count_seen, fields, kept}
use Rattle.tree_array.proofs.array.ArrayOf.take_place.Goals as goal

pub returns-then-place-counts : goal.returns-then-place-counts
returns-then-place-counts g c =
    let few = count_seen (fields refl refl refl c.self.invariant c.self.view_is) in
    record {
      taken = sym (slice_get_past c.args.self.now.entries c.args.place (omega (arith, few, c.if-place-counts.true)));
      low = refl;
      high = drop_all c.args.place c.args.self.now.entries (omega (arith, few, c.if-place-counts.true)) ∙ sym (drop_all (c.args.place + 1) c.args.self.now.entries (omega (arith, few, c.if-place-counts.true)));
      arrivals = refl;
    }

pub take_at-key-requires : goal.take_at-key-requires
take_at-key-requires g c = (search rules, omega (arith, count_seen (fields refl refl refl c.self.invariant c.self.view_is), c.if-place-counts.false))

pub returns-clause-low : goal.returns-clause-low
returns-clause-low g c =
    let sound = kept (fields refl refl refl c.self.invariant c.self.view_is) g.met.K.Ord.total in
    rw c.take_at-key.ensures.left (parted g.met.K.Ord.total c.args.place c.args.self.now.entries _ sound.ascending c.take_at-key.ensures.pair).0

pub returns-clause-high : goal.returns-clause-high
returns-clause-high g c =
    let sound = kept (fields refl refl refl c.self.invariant c.self.view_is) g.met.K.Ord.total in
    rw (c.take_at-key.ensures.left, add-one c.args.place) (parted g.met.K.Ord.total c.args.place c.args.self.now.entries _ sound.ascending c.take_at-key.ensures.pair).1
