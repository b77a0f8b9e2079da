use Rattle.std.proofs.Common.{refl, sym, ◌∙◌}
use Rattle.tree_parts.proofs.InTurn.{all_back}
use Rattle.tree_parts.proofs.children.Children+ArrayOf+K+I+LEN+I+D.new.Goals as goal

pub returns-in-On : goal.returns-in-On
returns-in-On g c = rw (sym c.way.ensures ∙ c.in-On.is, c.new-slots.ensures.slots) refl

pub returns-in-Back : goal.returns-in-Back
returns-in-Back g c = rw (sym c.way.ensures ∙ c.in-Back.is) (all_back c.args.keyed.now c.new-slots.result _ c.new-slots.ensures.slots c.args.unbounded)
