use Rattle.std.proofs.Common.{◌≡◌, ℕ, List, [], Option, Result, Err, refl, subst}
use Rattle.tree_lines.specs.declared.lines.ToolFault.{ToolFault}
use Rattle.tree_lines.specs.Runs.{RunsLines}
use Rattle.treetool.proofs.tool.answer_over.Goals as goal

-- the index was empty
over_empty : (LEN : ℕ) (old new : List (ℕ × ℕ)) (remaining remaining' contents contents' : Option (List ℕ)) (result : Result (Unit {0}) ToolFault) → old ≡ [] → RunsLines LEN old new remaining remaining' contents contents' result
    → RunsLines LEN [] new remaining remaining' contents contents' result
over_empty LEN old new remaining remaining' contents contents' result empty runs = subst (λ (start : List (ℕ × ℕ)). RunsLines LEN start new remaining remaining' contents contents' result) empty runs

pub returns-in-Err : goal.returns-in-Err
returns-in-Err g c = (
  Err c.in-Err.field-0,
  c.run_lines.new.index.pairs,
  over_empty g.row.LEN c.args.index.now.pairs c.run_lines.new.index.pairs (g.I.Read.remaining c.args.input.now) (g.I.Read.remaining c.run_lines.new.input) (g.W.Write.contents c.args.output.now) (g.W.Write.contents c.run_lines.new.output)
      (Err c.in-Err.field-0) c.requires c.in-Err.ensures,
  refl,
)
