-- Steps of a run over lines: the effect of bytes, one piece after another.
use Rattle.std.proofs.Common.{◌≡◌, ◌≢◌, ℕ, List, [], ◌∷◌, ◌++◌, Option, Some, refl, sym, ap, ◌∙◌, append_assoc, append-nil}
use Rattle.tree_model.proofs.Lists.{all-append}
use Rattle.tree_lines.specs.Spelling.{IsLine, with_feed, text_of, HasLines, clip}
use Rattle.tree_lines.specs.Lines.{Says, Script}
use Rattle.tree_lines.specs.Writing.{IsFront}
use Rattle.tree_lines.specs.Progress.{Carries, EndsLine, BrokeOff, Breaks}
use Rattle.tree_lines.proofs.Scripts.{text_of-append, Script-append, HasLines-more}

-- a line feed after a line stays there when more bytes come
EndsLine-more : (at_end : Type 0) (line after more : List ℕ) → EndsLine ⊥ line after → EndsLine at_end line (after ++ more)
EndsLine-more at_end line [] more h = absurd h.0
EndsLine-more at_end line (b ∷ after) more h = h

-- over an index of `LEN` pairs a leaf
module _ (LEN : ℕ) where
  -- no bytes have no effect
  pub carries_none : (line : Option (List ℕ)) (old : List (ℕ × ℕ)) → Carries LEN line old [] [] line old
  carries_none line old begun is_line e = record {
    ended = [];
    rest = begun;
    answers = [];
    lines = record { whole = append-nil begun; each = tt; partial = is_line };
    kept = e;
    wrote = refl;
    script = refl;
  }

  -- a byte other than a line feed is appended to the line
  pub carries_byte : (before after : Option (List ℕ)) (old : List (ℕ × ℕ)) (byte : ℕ) → byte ≢ 10 → ((begun : List ℕ) → before ≡ clip begun → after ≡ clip (begun ++ byte ∷ [])) → Carries LEN before old (byte ∷ []) [] after old
  carries_byte before after old byte other kept begun is_line e = record {
    ended = [];
    rest = begun ++ byte ∷ [];
    answers = [];
    lines = record { whole = refl; each = tt; partial = all-append (λ b. b ≢ 10) begun (byte ∷ []) is_line (other, tt) };
    kept = kept begun e;
    wrote = refl;
    script = refl;
  }

  -- a line feed ends the line, which is answered
  pub carries_line : (before : Option (List ℕ)) (old new : List (ℕ × ℕ)) (answer : List ℕ) → ((begun : List ℕ) → before ≡ clip begun → Says LEN old begun answer new) → Carries LEN before old (10 ∷ []) (with_feed answer) (Some []) new
  carries_line before old new answer says begun is_line e = record {
    ended = begun ∷ [];
    rest = [];
    answers = answer ∷ [];
    lines = record { whole = sym (append-nil (with_feed begun ++ []) ∙ append-nil (with_feed begun)); each = (is_line, tt); partial = tt };
    kept = refl;
    wrote = sym (append-nil (with_feed answer));
    script = (new, says begun e, refl);
  }

  -- or its answer breaks off
  pub breaks_line : (before : Option (List ℕ)) (old new : List (ℕ × ℕ)) (answer part : List ℕ) → ((begun : List ℕ) → before ≡ clip begun → Says LEN old begun answer new) → IsFront part (with_feed answer) → Breaks LEN before old (10 ∷ []) part new
  breaks_line before old new answer part says front begun is_line e = record {
    front = [];
    line = begun;
    after = 10 ∷ [];
    answers = [];
    answer = answer;
    part = part;
    text_is = refl;
    each = tt;
    is_line = is_line;
    is_whole = refl;
    script = (new, says begun e, refl);
    wrote = refl;
    broken = front;
  }

  -- bytes, and then more bytes
  pub carries_more : (before mid after : Option (List ℕ)) (old now new : List (ℕ × ℕ)) (a b w v : List ℕ) → Carries LEN before old a w mid now → Carries LEN mid now b v after new → Carries LEN before old (a ++ b) (w ++ v) after new
  carries_more before mid after old now new a b w v h k begun is_line e =
      let first = h begun is_line e in
      let second = k first.rest first.lines.partial first.kept in
      record {
        ended = first.ended ++ second.ended;
        rest = second.rest;
        answers = first.answers ++ second.answers;
        lines = rw (← append_assoc) (HasLines-more (begun ++ a) b first.ended second.ended first.rest second.rest first.lines second.lines);
        kept = second.kept;
        wrote = rw (first.wrote, second.wrote) (sym (text_of-append first.answers second.answers));
        script = Script-append LEN old now new first.ended first.answers second.ended second.answers first.script second.script;
      }

  -- an answer that broke off, and bytes after its line
  pub broke_before : (at_end : Type 0) (text more : List ℕ) (old new : List (ℕ × ℕ)) (w : List ℕ) → BrokeOff LEN ⊥ text old w new → BrokeOff LEN at_end (text ++ more) old w new
  broke_before at_end text more old new w broke = record {
    front = broke.front;
    line = broke.line;
    after = broke.after ++ more;
    answers = broke.answers;
    answer = broke.answer;
    part = broke.part;
    text_is = ap (λ t. t ++ more) broke.text_is ∙ append_assoc (text_of broke.front ++ broke.line) broke.after more;
    each = broke.each;
    is_line = broke.is_line;
    is_whole = EndsLine-more at_end broke.line broke.after more broke.is_whole;
    script = broke.script;
    wrote = broke.wrote;
    broken = broke.broken;
  }

  -- lines before the one whose answer broke off
  broke_later : (text more : List ℕ) (ended answers : List (List ℕ)) (rest : List ℕ) (old now new : List (ℕ × ℕ)) (w v : List ℕ) → HasLines text ended rest → w ≡ text_of answers → Script LEN old ended answers now → BrokeOff LEN ⊥ (rest ++ more) now v new → BrokeOff LEN ⊥ (text ++ more) old (w ++ v) new
  broke_later text more ended answers rest old now new w v h wrote script broke = record {
    front = ended ++ broke.front;
    line = broke.line;
    after = broke.after;
    answers = answers ++ broke.answers;
    answer = broke.answer;
    part = broke.part;
    text_is = ap (λ t. t ++ more) h.whole ∙ append_assoc (text_of ended) rest more ∙ ap (λ t. text_of ended ++ t) broke.text_is ∙ simp (text_of-append, append_assoc);
    each = all-append IsLine ended broke.front h.each broke.each;
    is_line = broke.is_line;
    is_whole = broke.is_whole;
    script = rw (append_assoc ended, append_assoc answers) (Script-append LEN old now new ended answers (broke.front ++ broke.line ∷ []) (broke.answers ++ broke.answer ∷ []) script broke.script);
    wrote = rw (wrote, broke.wrote, text_of-append) (sym (append_assoc (text_of answers) (text_of broke.answers) broke.part));
    broken = broke.broken;
  }

  -- the effect of the bytes before an answer broke off
  pub breaks_later : (before mid : Option (List ℕ)) (old now new : List (ℕ × ℕ)) (a b w v : List ℕ) → Carries LEN before old a w mid now → Breaks LEN mid now b v new → Breaks LEN before old (a ++ b) (w ++ v) new
  breaks_later before mid old now new a b w v h k begun is_line e =
      let first = h begun is_line e in
      rw (← append_assoc) (broke_later (begun ++ a) b first.ended first.answers first.rest old now new w v first.lines first.wrote first.script (k first.rest first.lines.partial first.kept))

  -- an answer broke off in the middle of the bytes
  pub breaks_among : (before mid : Option (List ℕ)) (old now new : List (ℕ × ℕ)) (bytes a b c w v : List ℕ) → bytes ≡ a ++ b ++ c → Carries LEN before old a w mid now → Breaks LEN mid now b v new → Breaks LEN before old bytes (w ++ v) new
  breaks_among before mid old now new bytes a b c w v e h k begun is_line kept =
      rw (e, ← append_assoc begun (a ++ b) c) (broke_before ⊥ (begun ++ (a ++ b)) c old new (w ++ v) (breaks_later before mid old now new a b w v h k begun is_line kept))
