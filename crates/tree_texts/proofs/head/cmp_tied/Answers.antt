use Rattle.std.proofs.Common.{◌≡◌, ◌∙◌, sym, arith, nat_cmp}
use Rattle.std.specs.Cmp.Lexicographic.{slice_cmp}
use Rattle.tree_texts.proofs.Heads.{heads_past, heads_apart}
use Rattle.tree_texts.proofs.head.cmp_tied.Goals as goal

pub returns-then-head-other_head : goal.returns-then-head-other_head
returns-then-head-other_head c =
    let l = c.loop-bytes in
    let front : slice_cmp nat_cmp c.past-bytes.result.now c.past-other.result.now ≡ slice_cmp nat_cmp c.args.bytes.now c.args.other.now
    = rw (c.past-bytes.ensures, c.past-other.ensures) (heads_past 8 l.bytes.now l.other.now l.invariant.bytes l.invariant.other l.invariant.tied (omega arith) (omega arith) (omega arith) ∙ l.invariant.order) in
    c.cmp.ensures ∙ sym (heads_apart c.head_of-head.ensures c.head_of-other_head.ensures c.if-head-other_head.true) ∙ front

pub loop-bytes-preserved : goal.loop-bytes-preserved
loop-bytes-preserved c =
    let l = c.loop-bytes in
    let front : slice_cmp nat_cmp c.past-bytes.result.now c.past-other.result.now ≡ slice_cmp nat_cmp c.args.bytes.now c.args.other.now
    = rw (c.past-bytes.ensures, c.past-other.ensures) (heads_past 8 l.bytes.now l.other.now l.invariant.bytes l.invariant.other l.invariant.tied (omega arith) (omega arith) (omega arith) ∙ l.invariant.order) in
    record {
      bytes = c.head_of-head.ensures.all;
      other = c.head_of-other_head.ensures.all;
      tied = sym c.head_of-head.ensures.is ∙ c.if-head-other_head.false ∙ c.head_of-other_head.ensures.is;
      order = front;
    }
