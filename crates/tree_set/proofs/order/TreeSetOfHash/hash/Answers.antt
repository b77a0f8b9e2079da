use Rattle.tree_node.proofs.Common.{fits}
use Rattle.std.proofs.Common.{refl, ◌∙◌, ap, [], fold}
use Rattle.std.specs.Hash.{HashWrites}
use Rattle.tree_set.proofs.Parts.{keys_counted}
use Rattle.tree_set.proofs.order.TreeSetOfHash.hash.Goals as goal

pub hash-requires : goal.hash-requires
hash-requires g c = search fits

pub returns : goal.returns
returns g c = rw (← c.self.view_is) (c.hash.ensures ∙ ap (λ (w : HashWrites). fold g.H.Hasher.write c.args.state.now w) (keys_counted g.K.Hash.hash_input (λ v. []) (λ v. refl) c.self.inside.index.pairs))
