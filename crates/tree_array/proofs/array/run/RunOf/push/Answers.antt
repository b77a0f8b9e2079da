use Rattle.tree_array.proofs.Lemmas.{rules, arith, len_small, pushed}
use Rattle.tree_array.proofs.Runs.{early}
use Rattle.tree_array.proofs.array.run.RunOf.push.Goals as goal

pub push-requires : goal.push-requires
push-requires g c =
    let it = c.self.invariant in
    (search rules, rw it.all (early it (rw c.self.view_is c.requires.room), (len_small g.row.LEN it.table.is_len, it.table.unmade _ (omega (arith, it.all)))))

pub invariant_of-self : goal.invariant_of-self
invariant_of-self g c = rw (c.push.ensures.pairs, c.push.ensures.entries, c.push.ensures.arrivals, c.counts-count.ensures.arrivals, c.self.invariant.all) (pushed c.self.invariant (rw c.self.view_is c.requires.room) g.met.K.Ord.total c.args.key c.args.val (rw c.self.view_is c.requires.larger)).0

pub returns : goal.returns
returns g c = rw (c.push.ensures.pairs, c.push.ensures.entries, c.counts-count.ensures.arrivals, c.self.invariant.all, ← c.self.view_is) (pushed c.self.invariant (rw c.self.view_is c.requires.room) g.met.K.Ord.total c.args.key c.args.val (rw c.self.view_is c.requires.larger)).1
