use Rattle.std.proofs.Common.{map, Some, None, refl, sym, subst, string_bytes}
use Rattle.tree_lines.proofs.Writes.{written_of}
use Rattle.treetool.specs.declared.task.Task.TheVariants.{Lines, SmallLines, Storm}
use Rattle.treetool.specs.Tasks.{AsksFor}
use Rattle.treetool.specs.Tool.{usage_line}
use Rattle.treetool.proofs.Tasks.{asks_no_other, same_storm}
use Rattle.treetool.proofs.tool.run_tool.Goals as goal

-- lines were asked for
pub returns-in-Some-Lines : goal.returns-in-Some-Lines
returns-in-Some-Lines g c =
    let words = map string_bytes c.args.arguments.now in
    let told = c.in-Some-Lines.field-0 in
    let is = c.in-Some-Lines.field-0-is in
    let asked = c.in-Some-Lines.ensures in
    record {
      lines = λ asks. (c.answer_lines.ensures, refl);
      small = λ asks. asks_no_other words (Some told) (Some SmallLines) asked asks (λ same. cc (same, is));
      storm = λ workers pairs asks. asks_no_other words (Some told) (Some (Storm workers pairs)) asked asks (λ same. cc (same, is));
      usage = λ asks. asks_no_other words (Some told) None asked asks (λ same. cc (same));
    }

-- or lines over leaves of seven pairs
pub returns-in-Some-SmallLines : goal.returns-in-Some-SmallLines
returns-in-Some-SmallLines g c =
    let words = map string_bytes c.args.arguments.now in
    let told = c.in-Some-SmallLines.field-0 in
    let is = c.in-Some-SmallLines.field-0-is in
    let asked = c.in-Some-SmallLines.ensures in
    record {
      lines = λ asks. asks_no_other words (Some told) (Some Lines) asked asks (λ same. cc (same, is));
      small = λ asks. (c.answer_small_lines.ensures, refl);
      storm = λ workers pairs asks. asks_no_other words (Some told) (Some (Storm workers pairs)) asked asks (λ same. cc (same, is));
      usage = λ asks. asks_no_other words (Some told) None asked asks (λ same. cc (same));
    }

-- or a storm
pub returns-in-Some-Storm : goal.returns-in-Some-Storm
returns-in-Some-Storm g c =
    let words = map string_bytes c.args.arguments.now in
    let told = c.in-Some-Storm.field-0 in
    let is = c.in-Some-Storm.field-0-is in
    let asked = c.in-Some-Storm.ensures in
    record {
      lines = λ asks. asks_no_other words (Some told) (Some Lines) asked asks (λ same. cc (same, is));
      small = λ asks. asks_no_other words (Some told) (Some SmallLines) asked asks (λ same. cc (same, is));
      storm = λ workers pairs asks.
          let same = same_storm words c.in-Some-Storm.workers c.in-Some-Storm.pairs workers pairs (subst (λ task. AsksFor words (Some task)) is asked) asks in
          (rw (sym same.0, sym same.1) c.run_storm.ensures.line, refl, refl);
      usage = λ asks. asks_no_other words (Some told) None asked asks (λ same. cc (same));
    }

-- or nothing: the usage line was written, as far as it could be
pub returns-in-None : goal.returns-in-None
returns-in-None g c =
    let words = map string_bytes c.args.arguments.now in
    let asked = c.in-None.ensures in
    let wrote = written_of usage_line (g.E.Write.contents c.args.errors.now) (g.E.Write.contents c.write_whole.new.output) c.write_whole.result c.write_whole.ensures in
    record {
      lines = λ asks. asks_no_other words None (Some Lines) asked asks (λ same. cc (same));
      small = λ asks. asks_no_other words None (Some SmallLines) asked asks (λ same. cc (same));
      storm = λ workers pairs asks. asks_no_other words None (Some (Storm workers pairs)) asked asks (λ same. cc (same));
      usage = λ asks. ((wrote.0, wrote.1, wrote.2, refl), refl, refl);
    }
