use Rattle.tree_cells.proofs.Lemmas.{sym, rules, arith, halved_down, halved_up, middle_stands, window_equal, window_greater, window_less}
use Rattle.tree_cells.proofs.search.halve.Goals as goal

pub key-stored-requires : goal.key-stored-requires
key-stored-requires g c = (search rules, middle_stands g.met.K.Ord.total c.requires.slots _ _ c.requires.window c.slot_at.ensures)

pub returns-then-is_gt-clause-window : goal.returns-then-is_gt-clause-window
returns-then-is_gt-clause-window g c =
    rw (c.is_eq.ensures, c.ask-answer.ensures.same_key) (halved_up g.met.K.Ord.total c.requires.slots _ _ c.requires.window c.slot_at.ensures c.key-stored.ensures.1 _ c.ask-answer.ensures.answer (sym c.if-is_gt.ensures))

pub returns-else-is_gt-clause-window : goal.returns-else-is_gt-clause-window
returns-else-is_gt-clause-window g c =
    rw (c.is_eq.ensures, c.ask-answer.ensures.same_key) (halved_down g.met.K.Ord.total c.requires.slots _ _ c.requires.window c.slot_at.ensures c.key-stored.ensures.1 _ c.ask-answer.ensures.answer (sym c.if-is_gt.ensures))

pub returns-in-Less-clause-window : goal.returns-in-Less-clause-window
returns-in-Less-clause-window g c =
    rw c.ask-answer.ensures.same_key (window_less g.met.K.Ord.total c.requires.slots _ _ c.requires.window c.slot_at.ensures c.key-stored.ensures.1 (sym c.in-Less.ensures.answer))

pub returns-in-Equal-clause-window : goal.returns-in-Equal-clause-window
returns-in-Equal-clause-window g c =
    rw c.ask-answer.ensures.same_key (window_equal g.met.K.Ord.total c.requires.slots _ _ c.requires.window c.slot_at.ensures c.key-stored.ensures.1 (sym c.in-Equal.ensures.answer))

pub returns-in-Greater-clause-window : goal.returns-in-Greater-clause-window
returns-in-Greater-clause-window g c =
    rw c.ask-answer.ensures.same_key (window_greater g.met.K.Ord.total c.requires.slots _ _ c.requires.window c.slot_at.ensures c.key-stored.ensures.1 (sym c.in-Greater.ensures.answer))

pub overflow_add-met : goal.overflow_add-met
overflow_add-met g c = grind (arith, c.requires.window.few)
