use Rattle.std.proofs.Common.{◌≡◌, ℕ, List, Option, Some, ap, inl, refl}
use Rattle.tree_model.proofs.Common.{Unbounded}
use Rattle.tree_lines.specs.declared.requests.Request.{Request}
use Rattle.tree_lines.specs.declared.requests.Request.TheVariants.{Iter}
use Rattle.tree_lines.specs.Lines.{inside, pairs_text}
use Rattle.tree_lines.proofs.Pieces.{within_open}
use Rattle.storetool.specs.Answers.{Responds}
use Rattle.storetool.proofs.session.respond.Goals as goal

-- all pairs are within open bounds
responds_all : (old : List (ℕ × ℕ)) (asked : Option Request) (request : Request) → asked ≡ Some request → request ≡ Iter → Responds old asked (pairs_text (inside Unbounded Unbounded old)) old
responds_all old asked request is same = rw (is, same) (inl (ap pairs_text (within_open old), refl))

pub returns-in-Some-Iter-clause-responds : goal.returns-in-Some-Iter-clause-responds
returns-in-Some-Iter-clause-responds g c = responds_all c.args.store.now.pairs c.args.request c.in-Some-Iter.field-0 c.in-Some-Iter.is (rw c.in-Some-Iter.is at c.in-Some-Iter.field-0-is)
