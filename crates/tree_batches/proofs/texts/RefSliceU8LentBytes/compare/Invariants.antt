use Rattle.tree_batches.proofs.texts.RefSliceU8LentBytes.compare.Given as goal

abbrev pub ghosts-compare_bytes : goal.ghosts-compare_bytes
ghosts-compare_bytes a = record { name = a.blank.name; parts = a.blank.parts }
