use Rattle.std.proofs.Common.{◌<◌, ◌++◌, [], length, take, drop, sym, ap, ◌∙◌, append_assoc, append-nil, arith, take-append-drop}
use Rattle.std.specs.Io.KnownBytes.{Appends}
use Rattle.std.proofs.lemmas.Bool.Decides.{nat_tests}
use Rattle.std.proofs.KnownBytes.{Appends-trans}
use Rattle.tree_lines.proofs.Writes.{front_of, took, took_at_most}
use Rattle.tree_lines.proofs.writing.write_whole.Goals as goal

pub split_at-requires : goal.split_at-requires
split_at-requires g c = rw c.unwrap_or-count.ensures (took_at_most c.write.result c.loop-rest.rest.now c.write.ensures.bound)

-- a part of the rest was written
pub loop-rest-preserved : goal.loop-rest-preserved
loop-rest-preserved g c =
    let part = c.loop-rest.invariant.part in
    let rest = c.loop-rest.rest.now in
    let count = c.unwrap_or-count.result in
    let more : Appends (g.W.Write.contents c.loop-rest.output) (g.W.Write.contents c.write.new.self) (take count rest) = rw c.unwrap_or-count.ensures (took _ _ c.write.result rest c.write.ensures.bytes) in
    record {
      part = part ++ take count rest;
      out = Appends-trans _ _ _ _ _ c.loop-rest.invariant.out more;
      whole = rw c.split_at.ensures.back (c.loop-rest.invariant.whole ∙ ap (λ l. part ++ l) (sym (take-append-drop count rest)) ∙ sym (append_assoc part (take count rest) (drop count rest)));
    }

-- nothing more was taken
pub returns-then-count-eq0 : goal.returns-then-count-eq0
returns-then-count-eq0 g c =
    let nonempty = c.loop-rest-test.ensures in
    let some : 0 < length c.loop-rest.rest.now = grind (arith, nat_tests, nonempty) in
    let none : Appends (g.W.Write.contents c.loop-rest.output) (g.W.Write.contents c.write.new.self) [] = rw (← c.unwrap_or-count.ensures, c.if-count-eq0.true) at (took _ _ c.write.result c.loop-rest.rest.now c.write.ensures.bytes) in
    let out : Appends (g.W.Write.contents c.args.output.now) (g.W.Write.contents c.write.new.self) c.loop-rest.invariant.part = rw append-nil at (Appends-trans _ _ _ _ _ c.loop-rest.invariant.out none) in
    (c.loop-rest.invariant.part, out, front_of c.args.bytes.now c.loop-rest.invariant.part c.loop-rest.rest.now c.loop-rest.invariant.whole some)
