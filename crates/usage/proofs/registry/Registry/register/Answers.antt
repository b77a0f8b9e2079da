use Rattle.std.proofs.Common.{◌<◌, length, arith}
use Rattle.usage.proofs.Registered.{few_more}
use Rattle.usage.proofs.registry.Registry.register.Goals as goal

-- there was room for one more name
pub invariant_of-self : goal.invariant_of-self
invariant_of-self g c =
    let room : length c.args.self.now.owners.pairs < g.row.MOST = omega (arith, c.len.ensures, g.MOST.fits, c.if-len.true) in
    record { few = few_more _ _ _ _ _ _ c.insert_sync.ensures.pairs room }
