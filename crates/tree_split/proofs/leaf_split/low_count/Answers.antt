use Rattle.std.proofs.Common.{◌≡◌, ◌∙◌, ap, sym, length, arith, inl, inr, refl, ◌&&◌, if◌then◌else◌, Bool, true, false, ℕ}
use Rattle.tree_array.proofs.Common.{ascents, reachable}
use Rattle.tree_split.proofs.Ascended.{as_if_anew}
use Rattle.tree_split.proofs.Boundaries.{boundary_count, few_by_boundary, many_by_boundary, parted_by}
use Rattle.tree_split.proofs.PackedSplits.{all_beyond, told_beyond}
use Rattle.tree_split.proofs.leaf_split.low_count.Goals as goal
use Rattle.tree_split.proofs.leaf_split.low_count.Goals.{else-ascended-via-then-ascended+then-last+else-is_beyond, else-ascended-via-then-ascended+else-last, else-ascended-via-else-ascended}

pub returns-then-boundary-clause-cut : goal.returns-then-boundary-clause-cut
returns-then-boundary-clause-cut g c =
    few_by_boundary g.K.Ord.cmp g.row.LEN c.args.array.now c.optimal_boundary-boundary.ensures.sound (sym (ap (λ b. b.0) c.optimal_boundary-boundary.ensures.boundary) ∙ c.if-boundary.true)

pub returns-else-ascended-clause-cut : goal.returns-else-ascended-clause-cut
returns-else-ascended-clause-cut g c =
    let told = c.optimal_boundary-boundary.ensures.boundary in
    let many = many_by_boundary g.K.Ord.cmp g.row.LEN c.args.array.now (λ at_len. c.if-boundary.false (ap (λ b. b.0) told ∙ at_len)) in
    let parts = parted_by g.K.Ord.cmp g.row.LEN c.args.array.now c.optimal_boundary-boundary.ensures.sound many in
    rw told (many, record { some = parts.0; within = omega (arith, parts.1); stays = inl parts.1 })

pub returns-then-is_beyond-clause-cut : goal.returns-then-is_beyond-clause-cut
returns-then-is_beyond-clause-cut g c =
    let told = c.optimal_boundary-boundary.ensures.boundary in
    let many = many_by_boundary g.K.Ord.cmp g.row.LEN c.args.array.now (λ at_len. c.if-boundary.false (ap (λ b. b.0) told ∙ at_len)) in
    let all : c.optimal_boundary-boundary.result.1 ≡ length c.args.array.now.entries = ap (λ b. b.1) told ∙ boundary_count g.row.LEN (length c.args.array.now.entries) (ascents g.K.Ord.cmp (reachable c.args.array.now.arrivals)) in
    rw all (many, record { some = omega (arith, many); within = omega arith; stays = inr (all_beyond g.K.Ord.cmp c.args.key.now c.args.array.now.entries (sym (told_beyond g.K.Ord.cmp c.args.key.now c.args.array.now.entries c.is_beyond.result c.is_beyond.ensures) ∙ c.if-is_beyond.true)) })

pub returns-else-ascended-clause-whole : goal.returns-else-ascended-clause-whole
returns-else-ascended-clause-whole g c at_len = absurd (c.if-boundary.false at_len)

pub returns-then-is_beyond-clause-whole : goal.returns-then-is_beyond-clause-whole
returns-then-is_beyond-clause-whole g c at_len =
    let told = c.optimal_boundary-boundary.ensures.boundary in
    let many = many_by_boundary g.K.Ord.cmp g.row.LEN c.args.array.now (λ at_len. c.if-boundary.false (ap (λ b. b.0) told ∙ at_len)) in
    as_if_anew g.met.K.Ord.total g.row.LEN c.args.array.now c.optimal_boundary-boundary.ensures.sound many (sym (ap (λ b. b.2) told) ∙ c.if-ascended.true)

pub returns-then-is_beyond-clause-rule : goal.returns-then-is_beyond-clause-rule
returns-then-is_beyond-clause-rule g c =
    let beyond = sym (told_beyond g.K.Ord.cmp c.args.key.now c.args.array.now.entries c.is_beyond.result c.is_beyond.ensures) ∙ c.if-is_beyond.true in
    rw (← c.optimal_boundary-boundary.ensures.boundary, c.if-last.true, c.if-ascended.true, beyond) refl

not_both : (last : Bool) (all cut : ℕ) → cut ≡ (if last && false then all else cut)
not_both true all cut = refl
not_both false all cut = refl

pub returns-else-ascended-clause-rule : goal.returns-else-ascended-clause-rule
returns-else-ascended-clause-rule g c = elim c.else-ascended.branch [
  | else-ascended-via-then-ascended+then-last+else-is_beyond w ↦
      let beyond = sym (told_beyond g.K.Ord.cmp c.args.key.now c.args.array.now.entries w.is_beyond.result w.is_beyond.ensures) ∙ w.if-is_beyond.false in
      rw (← c.optimal_boundary-boundary.ensures.boundary, w.if-last.true, w.if-ascended.true, beyond) refl
  | else-ascended-via-then-ascended+else-last w ↦ rw (← c.optimal_boundary-boundary.ensures.boundary, w.if-last.false) refl
  | else-ascended-via-else-ascended w ↦ rw (← c.optimal_boundary-boundary.ensures.boundary, w.if-ascended.false) (not_both c.args.last _ _)
]
