-- How a storm ends.
use Rattle.std.proofs.Common.{◌≡◌, ◌⊎◌, ℕ, ◌*◌, List, Option, Result, Ok, Err, IfOk, IfErr, OnOk, OnErr, inl, inr, refl, subst, arith, nat_cmp}
use Rattle.tree_model.specs.History.{IsHistoryOf}
use Rattle.tree_model.specs.declared.commands.Record.{Record}
use Rattle.tree_lines.specs.Writing.{Writes}
use Rattle.tree_state.specs.Tallies.{tally}
use Rattle.tree_state.specs.declared.tally.Tally.{Tally}
use Rattle.tree_shared.specs.Workers.{OnlyInserts}
use Rattle.treetool.specs.Storm.{RunsStorm, WritesEnd, line_of, refused_line}

-- a text was written, whole or in part
pub ends_written : {T E : Type 0} (text : List ℕ) (status : ℕ) (x y : Option (List ℕ)) (written : Result T E) (result : ℕ) → Writes text x y written → OnOk written (result ≡ status) → OnErr written (result ≡ 2) → WritesEnd text status x y result
ends_written text status x y (Ok u) result out whole part = inl (out, whole)
ends_written text status x y (Err e) result out whole part = inr (out.0, out.1, out.2, part)

module _ {T E : Type 0} (x y : Option (List ℕ)) (ended : Result T E) (result : ℕ) (refused : IfErr ended (λ e. WritesEnd refused_line 3 x y result)) where
  -- the end of a storm was written
  pub runs_ended : (history : T → List (Record ℕ ℕ)) (pairs : T → List (ℕ × ℕ)) (told : T → Tally) (storm : ℕ × ℕ)
      → IfOk ended (λ c. IsHistoryOf nat_cmp (λ (n : ℕ). n) (λ (n : ℕ). n) (history c) (pairs c)) → IfOk ended (λ c. told c ≡ tally (history c)) → IfOk ended (λ c. OnlyInserts (storm.0 * storm.1) (told c))
      → IfOk ended (λ c. WritesEnd (line_of (history c) (pairs c)) 0 x y result) → RunsStorm storm x y result
  runs_ended history pairs told storm replays is inserts wrote = ended_so ended refused replays is inserts wrote
    where
      ended_so : (end : Result T E) → IfErr end (λ e. WritesEnd refused_line 3 x y result)
          → IfOk end (λ c. IsHistoryOf nat_cmp (λ (n : ℕ). n) (λ (n : ℕ). n) (history c) (pairs c)) → IfOk end (λ c. told c ≡ tally (history c)) → IfOk end (λ c. OnlyInserts (storm.0 * storm.1) (told c))
          → IfOk end (λ c. WritesEnd (line_of (history c) (pairs c)) 0 x y result) → RunsStorm storm x y result
      ended_so (Ok c) failed replays is inserts wrote = (line_of (history c) (pairs c), 0, inl (history c, pairs c, (replays, subst (OnlyInserts (storm.0 * storm.1)) is inserts), refl, refl), wrote)
      ended_so (Err e) failed replays is inserts wrote = (refused_line, 3, inr (refl, refl), failed)

  -- a storm that ended with status 0 was closed
  pub ended_well : (P : Type 0) → IfOk ended (λ _. P) → result ≡ 0 → P
  ended_well P passed well = ended_so ended refused passed
    where
      not_refused : WritesEnd refused_line 3 x y result → P
      not_refused (inl out) = absurd (omega (arith, out.1, well))
      not_refused (inr out) = absurd (omega (arith, out.3, well))

      ended_so : (end : Result T E) → IfErr end (λ e. WritesEnd refused_line 3 x y result) → IfOk end (λ _. P) → P
      ended_so (Ok c) failed passed = passed
      ended_so (Err e) failed passed = not_refused failed
