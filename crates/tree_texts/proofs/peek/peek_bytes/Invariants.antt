use Rattle.tree_texts.proofs.peek.peek_bytes.Given as goal

abbrev pub ghosts-bytes_by : goal.ghosts-bytes_by
ghosts-bytes_by g a = record { name = a.blank.name; parts = a.blank.parts }
