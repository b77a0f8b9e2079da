use Rattle.tree_texts.proofs.peek.peek_text.Given as goal

abbrev pub ghosts-text_by : goal.ghosts-text_by
ghosts-text_by g a = record { name = a.blank.name; parts = a.blank.parts }
