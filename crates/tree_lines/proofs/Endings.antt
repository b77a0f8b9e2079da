-- How a run over lines ends.
use Rattle.std.proofs.Common.{◌≡◌, ◌≢◌, ℕ, List, [], ◌∷◌, ◌++◌, Option, Some, refl, sym, ap, ◌∙◌, append-nil, Bool, true, false, Result, Ok, Err, None, length, nat_le, if◌then◌else◌}
use Rattle.tree_model.proofs.Common.{Appends}
use Rattle.std.specs.Io.KnownBytes.{Consumes, IsAtEnd}
use Rattle.std.proofs.KnownBytes.{Appends-nil, Appends-trans, Consumes-trans}
use Rattle.tree_lines.specs.declared.lines.ToolFault.TheVariants.{Read, Write}
use Rattle.tree_lines.specs.Spelling.{with_feed, text_of, last_line, clip}
use Rattle.tree_lines.specs.Lines.{Says, Script}
use Rattle.tree_lines.specs.Writing.{Writes}
use Rattle.tree_lines.specs.Progress.{Carried, Carries, Breaks, EndsInput}
use Rattle.tree_lines.specs.Runs.{RunsLines}
use Rattle.tree_lines.proofs.Scripts.{text_of-append, Script-append}
use Rattle.tree_lines.proofs.Steps.{broke_before, breaks_later}

-- a line that is kept without a byte is empty
empty_by : (b : Bool) (x : ℕ) (xs : List ℕ) → Some [] ≡ (if b then Some (x ∷ xs) else None) → ⊥
empty_by true x xs e = cc
empty_by false x xs e = cc

clip_empty : (begun : List ℕ) → Some [] ≡ clip begun → begun ≡ []
clip_empty [] e = refl
clip_empty (x ∷ xs) e = absurd (empty_by (nat_le (length (x ∷ xs)) 256) x xs e)

-- over an index of `LEN` pairs a leaf
module _ (LEN : ℕ) where
  -- the input ends, and no line is begun
  pub ends_empty : (line : Option (List ℕ)) (old : List (ℕ × ℕ)) (x : Option (List ℕ)) → line ≡ Some [] → EndsInput LEN {T = Unit {0}} {E = Unit {0}} line old old x x (Ok tt)
  ends_empty line old x empty begun kept =
      let none : begun ≡ [] = clip_empty begun (sym empty ∙ kept) in
      let script : Script LEN old (last_line begun) [] old = rw none refl in
      ([], Appends-nil x, script)

  -- the script of the last line
  script_of_last : (begun answer : List ℕ) (old new : List (ℕ × ℕ)) → begun ≢ [] → Says LEN old begun answer new → Script LEN old (last_line begun) (answer ∷ []) new
  script_of_last [] answer old new some says = absurd (some refl)
  script_of_last (b ∷ begun) answer old new some says = (new, says, refl)

  -- the begun line is answered, or its answer breaks off
  pub ends_line : {E : Type 0} (line : Option (List ℕ)) (old new : List (ℕ × ℕ)) (answer : List ℕ) (x y : Option (List ℕ)) → line ≢ Some [] → ((begun : List ℕ) → line ≡ clip begun → Says LEN old begun answer new) → (result : Result (Unit {0}) E) → Writes (with_feed answer) x y result → EndsInput LEN line old new x y result
  ends_line line old new answer x y some says (Ok u) h = λ begun kept. (answer ∷ [], rw append-nil h, script_of_last begun answer old new (λ none. some (kept ∙ ap clip none)) (says begun kept))
  ends_line line old new answer x y some says (Err e) h = λ begun kept. (answer, h.0, h.1, (λ none. some (kept ∙ ap clip none)), says begun kept, h.2)

  module _ (old now : List (ℕ × ℕ)) (x y r s : Option (List ℕ)) (read written : List ℕ) (line : Option (List ℕ)) (taken : Consumes r s read) (out : Appends x y written) (carried : Carries LEN (Some []) old read written line now) where
    -- no line was begun before the first byte
    from_start : Carried LEN [] old read written line now
    from_start = carried [] tt refl

    -- a read failed
    pub runs_to_fault : RunsLines {T = Unit {0}} LEN old now r s x y (Err Read)
    runs_to_fault = (read, written, taken, out, from_start.ended, from_start.answers, from_start.rest, from_start.lines, from_start.script, from_start.wrote)

    -- the input ended, and the begun line was answered
    pub runs_to_end : (new : List (ℕ × ℕ)) (z : Option (List ℕ)) → IsAtEnd s → EndsInput LEN {T = Unit {0}} {E = Unit {0}} line now new y z (Ok tt) → RunsLines {T = Unit {0}} LEN old new r s x z (Ok tt)
    runs_to_end new z end ends =
        let last = ends from_start.rest from_start.kept in
        let script : Script LEN old (from_start.ended ++ last_line from_start.rest) (from_start.answers ++ last.0) new = Script-append LEN old now new from_start.ended from_start.answers (last_line from_start.rest) last.0 from_start.script last.2 in
        (read, written ++ text_of last.0, taken, Appends-trans x y z written (text_of last.0) out last.1, end, from_start.ended, from_start.answers ++ last.0, from_start.rest, from_start.lines, script, ap (λ t. t ++ text_of last.0) from_start.wrote ∙ sym (text_of-append from_start.answers last.0))

    -- or its answer broke off
    pub runs_to_last : (new : List (ℕ × ℕ)) (z : Option (List ℕ)) → IsAtEnd s → EndsInput LEN {T = Unit {0}} {E = Unit {0}} line now new y z (Err tt) → RunsLines {T = Unit {0}} LEN old new r s x z (Err Write)
    runs_to_last new z end ends =
        let last = ends from_start.rest from_start.kept in (
          read,
          written ++ last.1,
          taken,
          Appends-trans x y z written last.1 out last.2,
          record {
            front = from_start.ended;
            line = from_start.rest;
            after = [];
            answers = from_start.answers;
            answer = last.0;
            part = last.1;
            text_is = from_start.lines.whole ∙ sym (append-nil (text_of from_start.ended ++ from_start.rest));
            each = from_start.lines.each;
            is_line = from_start.lines.partial;
            is_whole = (end, last.3);
            script = Script-append LEN old now new from_start.ended from_start.answers (from_start.rest ∷ []) (last.0 ∷ []) from_start.script (new, last.4, refl);
            wrote = ap (λ t. t ++ last.1) from_start.wrote;
            broken = last.5;
          },
        )

    -- a write failed among the bytes of the last read
    pub runs_to_break : (new : List (ℕ × ℕ)) (bytes more : List ℕ) (t z : Option (List ℕ)) → Consumes s t bytes → Appends y z more → Breaks LEN line now bytes more new → RunsLines {T = Unit {0}} LEN old new r t x z (Err Write)
    runs_to_break new bytes more t z next after breaks =
        let broke = breaks_later LEN (Some []) line old now new read bytes written more carried breaks [] tt refl in
        (read ++ bytes, written ++ more, Consumes-trans r s t read bytes taken next, Appends-trans x y z written more out after, rw append-nil at (broke_before LEN (IsAtEnd t) (read ++ bytes) [] old new (written ++ more) broke))
