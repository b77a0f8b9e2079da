use Rattle.std.proofs.Common.{◌≡◌, ◌≤◌, ◌-◌, ◌∙◌, sym, arith, length, drop, inl, inr, ◌⊎◌, ◌+◌, nat_cmp}
use Rattle.std.proofs.lemmas.Bool.{cases_lt}
use Rattle.std.specs.Cmp.Lexicographic.{slice_cmp}
use Rattle.tree_texts.specs.Head.{head_of, AreBytes}
use Rattle.tree_texts.proofs.Heads.{heads_past, heads_apart, heads_short, last_tied}
use Rattle.tree_texts.proofs.head.cmp_last.Goals as goal
use Rattle.tree_texts.proofs.head.cmp_last.Goals.{then-both-gt8+else-head-other_head, else-both-gt8}

pub returns-then-head-other_head : goal.returns-then-head-other_head
returns-then-head-other_head c =
    let xs = c.args.bytes.now in
    let ys = c.args.other.now in
    let front : slice_cmp nat_cmp c.past.result.now c.past-then-both-gt8.result.now ≡ slice_cmp nat_cmp xs ys
    = rw (c.past.ensures, c.past-then-both-gt8.ensures) (heads_past (c.min-both.result - 8) xs ys c.requires.bytes c.requires.other c.requires.tied (omega arith) (omega arith) (omega arith)) in
    c.cmp.ensures ∙ sym (heads_apart c.head_of-head.ensures c.head_of-other_head.ensures c.if-head-other_head.true) ∙ front

pub returns : goal.returns
returns c =
    let xs = c.args.bytes.now in
    let ys = c.args.other.now in
    let k = c.min-both.result - 8 in
    let by : slice_cmp nat_cmp xs ys ≡ nat_cmp (length xs) (length ys)
    = elim c.if-both-gt8.branch [
      | then-both-gt8+else-head-other_head w ↦
          let same : head_of (drop k xs) ≡ head_of (drop k ys) = rw (w.past.ensures, w.past-then-both-gt8.ensures) at (sym w.head_of-head.ensures.is ∙ w.if-head-other_head.false ∙ w.head_of-other_head.ensures.is) in
          let x : AreBytes (drop k xs) = rw w.past.ensures at w.head_of-head.ensures.all in
          let y : AreBytes (drop k ys) = rw w.past-then-both-gt8.ensures at w.head_of-other_head.ensures.all in
          let short : (length xs ≤ k + 8) ⊎ (length ys ≤ k + 8) = elim (cases_lt (length xs) (length ys)) [ inl lt ↦ inl (omega arith) | inr ge ↦ inr (omega arith) ] in
          sym (heads_past k xs ys c.requires.bytes c.requires.other c.requires.tied (omega arith) (omega arith) (omega arith)) ∙ last_tied k xs ys x y same (omega arith) (omega arith) short
      | else-both-gt8 w ↦ heads_short xs ys c.requires.bytes c.requires.other c.requires.tied (elim (cases_lt (length xs) (length ys)) [ inl lt ↦ inl (omega arith) | inr ge ↦ inr (omega arith) ])
    ] in
    c.cmp-2.ensures ∙ sym by
