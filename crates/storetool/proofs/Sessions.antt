-- Steps of a run over lines.
use Rattle.std.proofs.Common.{◌≡◌, ◌≢◌, ◌⊎◌, ℕ, Bool, List, [], ◌∷◌, ◌++◌, Option, Some, Result, Ok, Err, OnOk, OnErr, inl, inr, true, false, None, length, nat_le, if◌then◌else◌, refl, sym, ap, ◌∙◌, subst, append_assoc, append-nil}
use Rattle.std.specs.Bool.{⊤}
use Rattle.std.specs.List.{AllByRecursion}
use Rattle.tree_model.proofs.Common.{Appends}
use Rattle.std.specs.Io.KnownBytes.{Consumes, IsAtEnd}
use Rattle.std.proofs.KnownBytes.{Appends-nil, Appends-trans, Consumes-trans}
use Rattle.tree_model.proofs.Lists.{all-append}
use Rattle.tree_lines.specs.Spelling.{HasLines, IsLine, clip, last_line, text_of, with_feed}
use Rattle.tree_lines.proofs.Scripts.{HasLines-more, text_of-append}
use Rattle.store_pair.specs.Pair.{AreClean, Held, MayHold}
use Rattle.store_pair.specs.Pair.{Pair}
use Rattle.tree_store.specs.Store.{Store}
use Rattle.storetool.specs.Durable.{BreaksOff, IsDurable, Stands}
use Rattle.storetool.specs.Session.{AreFirst, ComesToEnd, Ends, GoesOn, IsServed, Outlives, Serves, Session, Steps, Survives}

all-front : (lines later : List (List ℕ)) → AllByRecursion IsLine (lines ++ later) → AllByRecursion IsLine lines
all-front [] later h = tt
all-front (line ∷ lines) later h = (h.0, all-front lines later h.1)

-- a line feed ends the begun line
HasLines-feed : (read : List ℕ) (ended : List (List ℕ)) (rest : List ℕ) → HasLines read ended rest → HasLines (read ++ 10 ∷ []) (ended ++ rest ∷ []) []
HasLines-feed read ended rest h =
    let one : HasLines (rest ++ 10 ∷ []) (rest ∷ []) [] = record { whole = sym (append-nil (with_feed rest ++ []) ∙ append-nil (with_feed rest)); each = (h.partial, tt); partial = tt } in
    HasLines-more read (10 ∷ []) ended (rest ∷ []) rest [] h one

-- the lines that ended are the first of a text
first_of : (at_end : Type 0) (read : List ℕ) (lines later : List (List ℕ)) (rest : List ℕ) → HasLines read (lines ++ later) rest → AreFirst at_end lines read
first_of at_end read lines later rest h = record {
  each = all-front lines later h.each;
  are = inl (text_of later ++ rest, h.whole ∙ ap (λ t. t ++ rest) (text_of-append lines later) ∙ append_assoc (text_of lines) (text_of later) rest);
}

-- so are all of them with the begun one at the end of the input
first_to_end : (read : List ℕ) (ended : List (List ℕ)) (rest : List ℕ) → HasLines read ended rest → AreFirst ⊤ (ended ++ rest ∷ []) read
first_to_end read ended rest h =
    let fed = HasLines-feed read ended rest h in
    record { each = fed.each; are = inr (tt, fed.whole ∙ append-nil (text_of (ended ++ rest ∷ []))) }

first_are : (at_end : Type 0) (read more : List ℕ) (lines : List (List ℕ)) → ((behind : List ℕ) × (read ≡ text_of lines ++ behind)) ⊎ (⊥ × (read ++ 10 ∷ [] ≡ text_of lines)) → ((behind : List ℕ) × (read ++ more ≡ text_of lines ++ behind)) ⊎ (at_end × ((read ++ more) ++ 10 ∷ [] ≡ text_of lines))
first_are at_end read more lines (inl h) = inl (h.0 ++ more, ap (λ t. t ++ more) h.1 ∙ append_assoc (text_of lines) h.0 more)
first_are at_end read more lines (inr h) = absurd h.0

-- more bytes change no first line
first_more : (at_end : Type 0) (read more : List ℕ) (lines : List (List ℕ)) → AreFirst ⊥ lines read → AreFirst at_end lines (read ++ more)
first_more at_end read more lines h = record { each = h.each; are = first_are at_end read more lines h.are }

end_are : (at_end : Type 0) (read : List ℕ) (lines : List (List ℕ)) → at_end → ((behind : List ℕ) × (read ≡ text_of lines ++ behind)) ⊎ (⊤ × (read ++ 10 ∷ [] ≡ text_of lines)) → ((behind : List ℕ) × (read ≡ text_of lines ++ behind)) ⊎ (at_end × (read ++ 10 ∷ [] ≡ text_of lines))
end_are at_end read lines end (inl h) = inl h
end_are at_end read lines end (inr h) = inr (end, h.1)

-- a line that is kept without a byte is empty
empty_by : (b : Bool) (x : ℕ) (xs : List ℕ) → Some [] ≡ (if b then Some (x ∷ xs) else None) → ⊥
empty_by true x xs e = cc
empty_by false x xs e = cc

clip_empty : (begun : List ℕ) → Some [] ≡ clip begun → begun ≡ []
clip_empty [] e = refl
clip_empty (x ∷ xs) e = absurd (empty_by (nat_le (length (x ∷ xs)) 256) x xs e)

last_some : (rest : List ℕ) → rest ≢ [] → last_line rest ≡ rest ∷ []
last_some [] some = absurd (some refl)
last_some (b ∷ rest) some = refl

-- what lines and answers lead to, one behind another
pub record AreRuns (Run : List (ℕ × ℕ) → List (List ℕ) → List (List ℕ) → List (ℕ × ℕ) → Type 0) : Type 0 where
  pub none : (old : List (ℕ × ℕ)) → Run old [] [] old
  pub more : (old mid new : List (ℕ × ℕ)) (lines answers more replies : List (List ℕ)) → Run old lines answers mid → Run mid more replies new → Run old (lines ++ more) (answers ++ replies) new

module _ (Run : List (ℕ × ℕ) → List (List ℕ) → List (List ℕ) → List (ℕ × ℕ) → Type 0) where
  survives_more : (at_end : Type 0) (old : List (ℕ × ℕ)) (read more written : List ℕ) (left : Held) → Survives Run ⊥ old read written left → Survives Run at_end old (read ++ more) written left
  survives_more at_end old read more written left h = record {
    lines = h.lines;
    answers = h.answers;
    pairs = h.pairs;
    unseen = h.unseen;
    first = first_more at_end read more h.lines h.first;
    script = h.script;
    seen = h.seen;
    stands = h.stands;
  }

  survives_at : (at_end : Type 0) (old : List (ℕ × ℕ)) (read written : List ℕ) (left : Held) → Survives Run ⊥ old read written left → Survives Run at_end old read written left
  survives_at at_end old read written left h = rw append-nil at (survives_more at_end old read [] written left h)

  -- the input is at its end
  survives_end : (at_end : Type 0) (old : List (ℕ × ℕ)) (read written : List ℕ) (left : Held) → at_end → Survives Run ⊤ old read written left → Survives Run at_end old read written left
  survives_end at_end old read written left end h = record {
    lines = h.lines;
    answers = h.answers;
    pairs = h.pairs;
    unseen = h.unseen;
    first = record { each = h.first.each; are = end_are at_end read h.lines end h.first.are };
    script = h.script;
    seen = h.seen;
    stands = h.stands;
  }

module _ {D : Type 0} {Run : List (ℕ × ℕ) → List (List ℕ) → List (List ℕ) → List (ℕ × ℕ) → Type 0} (o : AreRuns Run) (is_clean : D → Bool) (may_leave : D → List ℕ → Type 0) where
  -- the effect of bytes that were taken, and of bytes of which one failed
  abbrev pub Goes : List ℕ → List ℕ → Option (List ℕ) → Store ℕ ℕ D → List ℕ → Option (List ℕ) → Store ℕ ℕ D → Option (List ℕ) → Option (List ℕ) → Type 0
  Goes bytes w line store v line' store' x y = Steps Run is_clean may_leave {T = Unit {0}} {E = Unit {0}} bytes w line store v line' store' x y (Ok tt)

  abbrev pub Fails : List ℕ → List ℕ → Option (List ℕ) → Store ℕ ℕ D → List ℕ → Option (List ℕ) → Store ℕ ℕ D → Option (List ℕ) → Option (List ℕ) → Type 0
  Fails bytes w line store v line' store' x y = Steps Run is_clean may_leave {T = Unit {0}} {E = Unit {0}} bytes w line store v line' store' x y (Err tt)

  -- a store whose pairs are durable, before the first byte
  pub session_start : (store : Store ℕ ℕ D) → IsDurable is_clean may_leave store.saved store.pairs → Session Run is_clean may_leave store.pairs [] [] [] (Some []) store
  session_start store h = record {
    safe = [];
    said = [];
    later = [];
    unsaid = [];
    rest = [];
    durable = store.pairs;
    lines = record { whole = refl; each = tt; partial = tt };
    kept = refl;
    committed = o.none store.pairs;
    wrote = refl;
    applied = o.none store.pairs;
    waits = refl;
    is_durable = h;
  }

  module _ (store : Store ℕ ℕ D) (waiting : List ℕ) (line : Option (List ℕ)) (x : Option (List ℕ)) where
    -- no bytes have no effect
    pub step_none : Goes [] waiting line store waiting line store x x
    step_none old read written h = ([], Appends-nil x, rw (append-nil read, append-nil written) h)

    -- a byte other than a line feed is appended to the line
    pub step_byte : (line' : Option (List ℕ)) (byte : ℕ) → byte ≢ 10 → ((begun : List ℕ) → line ≡ clip begun → line' ≡ clip (begun ++ byte ∷ [])) → Goes (byte ∷ []) waiting line store waiting line' store x x
    step_byte line' byte other kept old read written h = (
      [],
      Appends-nil x,
      rw (append-nil written) record {
        safe = h.safe;
        said = h.said;
        later = h.later;
        unsaid = h.unsaid;
        rest = h.rest ++ byte ∷ [];
        durable = h.durable;
        lines = record {
          whole = ap (λ t. t ++ byte ∷ []) h.lines.whole ∙ append_assoc (text_of (h.safe ++ h.later)) h.rest (byte ∷ []);
          each = h.lines.each;
          partial = all-append (λ b. b ≢ 10) h.rest (byte ∷ []) h.lines.partial (other, tt);
        };
        kept = kept h.rest h.kept;
        committed = h.committed;
        wrote = h.wrote;
        applied = h.applied;
        waits = h.waits;
        is_durable = h.is_durable;
      },
    )

    -- a line feed ends the line, which is applied
    pub step_line : (store' : Store ℕ ℕ D) (waiting' : List ℕ) (replies : List (List ℕ)) → store'.saved ≡ store.saved → waiting' ≡ waiting ++ text_of replies → ((begun : List ℕ) → line ≡ clip begun → Run store.pairs (begun ∷ []) replies store'.pairs) → Goes (10 ∷ []) waiting line store waiting' (Some []) store' x x
    step_line store' waiting' replies saved grows says old read written h = (
      [],
      Appends-nil x,
      rw (append-nil written) record {
        safe = h.safe;
        said = h.said;
        later = h.later ++ h.rest ∷ [];
        unsaid = h.unsaid ++ replies;
        rest = [];
        durable = h.durable;
        lines = rw (append_assoc h.safe h.later (h.rest ∷ [])) at (HasLines-feed read (h.safe ++ h.later) h.rest h.lines);
        kept = refl;
        committed = h.committed;
        wrote = h.wrote;
        applied = o.more h.durable store.pairs store'.pairs h.later h.unsaid (h.rest ∷ []) replies h.applied (says h.rest h.kept);
        waits = grows ∙ ap (λ t. t ++ text_of replies) h.waits ∙ sym (text_of-append h.unsaid replies);
        is_durable = rw saved h.is_durable;
      },
    )

    -- the files have not changed since
    pub outlives : (at_end : Type 0) (store' : Store ℕ ℕ D) → store'.saved ≡ store.saved → (old : List (ℕ × ℕ)) (read written : List ℕ) → Session Run is_clean may_leave old read written waiting line store → Outlives Run is_clean may_leave at_end old read written store'
    outlives at_end store' saved old read written h clean left holds = record {
      lines = h.safe;
      answers = h.said;
      pairs = h.durable;
      unseen = [];
      first = first_of at_end read h.safe h.later h.rest h.lines;
      script = h.committed;
      seen = sym h.wrote ∙ sym (append-nil written);
      stands = h.is_durable.leaves (rw saved at clean) left (rw saved at holds);
    }

    -- nor has the output: a call failed before it wrote
    pub step_fails : (bytes waiting' : List ℕ) (line' : Option (List ℕ)) (store' : Store ℕ ℕ D) → store'.saved ≡ store.saved → Fails bytes waiting line store waiting' line' store' x x
    step_fails bytes waiting' line' store' saved old read written h = (
      [],
      Appends-nil x,
      λ clean left holds. rw (append-nil written) (survives_more Run ⊥ old read bytes written left (outlives ⊥ store' saved old read written h clean left holds)),
    )

  -- a session that goes on may end: what a crash leaves has what was written
  pub step_quits : (bytes w v : List ℕ) (line line' : Option (List ℕ)) (store store' : Store ℕ ℕ D) (x y : Option (List ℕ)) → Goes bytes w line store v line' store' x y → Fails bytes w line store v line' store' x y
  step_quits bytes w v line line' store store' x y h old read written session =
      let first = h old read written session in
      (first.0, first.1, outlives store' v line' y ⊥ store' refl old (read ++ bytes) (written ++ first.0) first.2)

  -- bytes, and then more bytes
  pub step_then : {T E : Type 0} (a b w v u : List ℕ) (line mid line' : Option (List ℕ)) (store now store' : Store ℕ ℕ D) (x y z : Option (List ℕ)) (result : Result T E) → Goes a w line store v mid now x y → Steps Run is_clean may_leave b v mid now u line' store' y z result → Steps Run is_clean may_leave (a ++ b) w line store u line' store' x z result
  step_then a b w v u line mid line' store now store' x y z (Ok r) h k old read written session =
      let first = h old read written session in
      let second = k old (read ++ a) (written ++ first.0) first.2 in
      (first.0 ++ second.0, Appends-trans x y z first.0 second.0 first.1 second.1, rw (← append_assoc read a b, ← append_assoc written first.0 second.0) second.2)
  step_then a b w v u line mid line' store now store' x y z (Err e) h k old read written session =
      let first = h old read written session in
      let second = k old (read ++ a) (written ++ first.0) first.2 in
      (first.0 ++ second.0, Appends-trans x y z first.0 second.0 first.1 second.1, λ clean left holds. rw (← append_assoc read a b, ← append_assoc written first.0 second.0) (second.2 clean left holds))

  -- bytes of which one failed, and then bytes that were not taken
  pub step_stops : (a b w v u : List ℕ) (line mid line' : Option (List ℕ)) (store store' : Store ℕ ℕ D) (x y : Option (List ℕ)) → Fails a w line store v mid store' x y → Fails (a ++ b) w line store u line' store' x y
  step_stops a b w v u line mid line' store store' x y h old read written session =
      let first = h old read written session in
      (first.0, first.1, λ clean left holds. rw (← append_assoc read a b) (survives_more Run ⊥ old (read ++ a) b (written ++ first.0) left (first.2 clean left holds)))

  -- a call failed in the middle of the bytes
  pub step_breaks : (bytes a b c w v u q : List ℕ) (line mid line' last : Option (List ℕ)) (store now store' : Store ℕ ℕ D) (x y z : Option (List ℕ)) → bytes ≡ a ++ b ++ c → Goes a w line store v mid now x y → Fails b v mid now u line' store' y z → Fails bytes w line store q last store' x z
  step_breaks bytes a b c w v u q line mid line' last store now store' x y z parts h k =
      let both : Fails (a ++ b) w line store u line' store' x z = step_then {T = Unit {0}} {E = Unit {0}} a b w v u line mid line' store now store' x y z (Err tt) h k in
      rw parts (step_stops (a ++ b) c w u q line line' last store store' x z both)

  -- what a commit that broke off leaves: the durable lines, or all of them
  module _ (at_end : Type 0) (old : List (ℕ × ℕ)) (read written waiting part rest : List ℕ) (left : Held) (safe said lines answers : List (List ℕ)) (durable pairs : List (ℕ × ℕ)) (is : waiting ≡ part ++ rest) (front : AreFirst at_end safe read) (committed : Run old safe said durable) (wrote : written ≡ text_of said) (first : AreFirst at_end lines read) (applied : Run old lines answers pairs) (tells : written ++ waiting ≡ text_of answers) where
    broken : (Stands left durable × (part ≡ [])) ⊎ Stands left pairs → Survives Run at_end old read (written ++ part) left
    broken (inl h) = record {
      lines = safe;
      answers = said;
      pairs = durable;
      unseen = [];
      first = front;
      script = committed;
      seen = sym wrote ∙ sym (append-nil (written ++ part) ∙ ap (λ t. written ++ t) h.1 ∙ append-nil written);
      stands = h.0;
    }
    broken (inr h) = record {
      lines = lines;
      answers = answers;
      pairs = pairs;
      unseen = rest;
      first = first;
      script = applied;
      seen = sym tells ∙ ap (λ t. written ++ t) is ∙ sym (append_assoc written part rest);
      stands = h;
    }

  -- the answers that were written, and those that wait
  all_said : (waiting : List ℕ) (line : Option (List ℕ)) (store : Store ℕ ℕ D) (old : List (ℕ × ℕ)) (read written : List ℕ) (h : Session Run is_clean may_leave old read written waiting line store) → written ++ waiting ≡ text_of (h.said ++ h.unsaid)
  all_said waiting line store old read written h = ap (λ t. t ++ waiting) h.wrote ∙ ap (λ t. text_of h.said ++ t) h.waits ∙ sym (text_of-append h.said h.unsaid)

  module _ (waiting : List ℕ) (store store' : Store ℕ ℕ D) (x y : Option (List ℕ)) {T E : Type 0} where
    -- what a commit says of its result
    pub record Commits (result : Result T E) : Type 0 where
      pub safe : OnOk result (IsDurable is_clean may_leave store'.saved store.pairs)
      pub wrote : OnOk result (Appends x y waiting)
      pub same : store'.pairs ≡ store.pairs
      pub broke_off : OnErr result ((durable : List (ℕ × ℕ)) → IsDurable is_clean may_leave store.saved durable → BreaksOff is_clean may_leave durable store.pairs store'.saved.files waiting x y)

    -- a commit takes no bytes
    pub step_commit : (line : Option (List ℕ)) (waiting' : List ℕ) (result : Result T E) → OnOk result (waiting' ≡ []) → Commits result → Steps Run is_clean may_leave [] waiting line store waiting' line store' x y result
    step_commit line waiting' (Ok t) empty c old read written h = (
      waiting,
      c.wrote,
      rw (append-nil read) record {
        safe = h.safe ++ h.later;
        said = h.said ++ h.unsaid;
        later = [];
        unsaid = [];
        rest = h.rest;
        durable = store.pairs;
        lines = rw (append-nil (h.safe ++ h.later)) h.lines;
        kept = h.kept;
        committed = o.more old h.durable store.pairs h.safe h.said h.later h.unsaid h.committed h.applied;
        wrote = all_said waiting line store old read written h;
        applied = rw c.same (o.none store.pairs);
        waits = empty;
        is_durable = c.safe;
      },
    )
    step_commit line waiting' (Err e) empty c old read written h =
        let b = c.broke_off h.durable h.is_durable in
        let whole : HasLines read ((h.safe ++ h.later) ++ []) h.rest = rw (append-nil (h.safe ++ h.later)) h.lines in (
          b.part,
          b.wrote,
          λ clean left holds. rw (append-nil read) (broken ⊥ old read written waiting b.part b.rest left h.safe h.said (h.safe ++ h.later) (h.said ++ h.unsaid) h.durable store.pairs b.is (first_of ⊥ read h.safe h.later h.rest h.lines) h.committed h.wrote (first_of ⊥ read (h.safe ++ h.later) [] h.rest whole) (o.more old h.durable store.pairs h.safe h.said h.later h.unsaid h.committed h.applied) (all_said waiting line store old read written h) (b.leaves clean left holds)),
        )

    -- the last commit
    module _ (old : List (ℕ × ℕ)) (read written rest : List ℕ) (safe said ended answers : List (List ℕ)) (durable : List (ℕ × ℕ)) (front : AreFirst ⊤ safe read) (committed : Run old safe said durable) (wrote : written ≡ text_of said) (is_durable : IsDurable is_clean may_leave store.saved durable) (lines : HasLines read ended rest) (first : AreFirst ⊤ (ended ++ last_line rest) read) (applied : Run old (ended ++ last_line rest) answers store.pairs) (tells : written ++ waiting ≡ text_of answers) where
      comes_to_end : (result : Result T E) → Commits result → ComesToEnd Run is_clean may_leave old read written store' x y result
      comes_to_end (Ok t) c = (
        waiting,
        c.wrote,
        record {
          ended = ended;
          rest = rest;
          answers = answers;
          lines = lines;
          script = rw c.same applied;
          wrote = tells;
          is_durable = rw c.same c.safe;
        },
      )
      comes_to_end (Err e) c =
          let b = c.broke_off durable is_durable in
          (b.part, b.wrote, λ clean left holds. broken ⊤ old read written waiting b.part b.rest left safe said (ended ++ last_line rest) answers durable store.pairs b.is front committed wrote first applied tells (b.leaves clean left holds))

  module _ (waiting : List ℕ) (line : Option (List ℕ)) (store : Store ℕ ℕ D) where
    -- the input ended, and no line is begun
    pub ends_empty : {T E : Type 0} (store' : Store ℕ ℕ D) (x y : Option (List ℕ)) (result : Result T E) → line ≡ Some [] → Commits waiting store store' x y result → Ends Run is_clean may_leave waiting line store store' x y result
    ends_empty store' x y result empty c old read written h =
        let none : last_line h.rest ≡ [] = ap last_line (clip_empty h.rest (sym empty ∙ h.kept)) in
        let ended = h.safe ++ h.later in
        let whole : HasLines read (ended ++ []) h.rest = rw (append-nil ended) h.lines in
        let first : AreFirst ⊤ (ended ++ last_line h.rest) read = rw (none, append-nil ended) (first_of ⊤ read ended [] h.rest whole) in
        let script : Run old (ended ++ last_line h.rest) (h.said ++ h.unsaid) store.pairs = rw (none, append-nil ended) (o.more old h.durable store.pairs h.safe h.said h.later h.unsaid h.committed h.applied) in
        comes_to_end waiting store store' x y old read written h.rest h.safe h.said ended (h.said ++ h.unsaid) h.durable (first_of ⊤ read h.safe h.later h.rest h.lines) h.committed h.wrote h.is_durable h.lines first script (all_said waiting line store old read written h) result c

    -- the begun line was applied
    pub ends_line : {T E : Type 0} (now store' : Store ℕ ℕ D) (waiting' : List ℕ) (replies : List (List ℕ)) (x y : Option (List ℕ)) (result : Result T E) → line ≢ Some [] → now.saved ≡ store.saved → waiting' ≡ waiting ++ text_of replies → ((begun : List ℕ) → line ≡ clip begun → Run store.pairs (begun ∷ []) replies now.pairs) → Commits waiting' now store' x y result → Ends Run is_clean may_leave waiting line store store' x y result
    ends_line now store' waiting' replies x y result some saved grows says c old read written h =
        let last : last_line h.rest ≡ h.rest ∷ [] = last_some h.rest (λ none. some (h.kept ∙ ap clip none)) in
        let ended = h.safe ++ h.later in
        let said = h.said ++ h.unsaid in
        let first : AreFirst ⊤ (ended ++ last_line h.rest) read = rw last (first_to_end read ended h.rest h.lines) in
        let before : Run old ended said store.pairs = o.more old h.durable store.pairs h.safe h.said h.later h.unsaid h.committed h.applied in
        let script : Run old (ended ++ last_line h.rest) (said ++ replies) now.pairs = rw last (o.more old store.pairs now.pairs ended said (h.rest ∷ []) replies before (says h.rest h.kept)) in
        let tells : written ++ waiting' ≡ text_of (said ++ replies) = ap (λ t. written ++ t) grows ∙ sym (append_assoc written waiting (text_of replies)) ∙ ap (λ t. t ++ text_of replies) (all_said waiting line store old read written h) ∙ sym (text_of-append said replies) in
        comes_to_end waiting' now store' x y old read written h.rest h.safe h.said ended (said ++ replies) h.durable (first_of ⊤ read h.safe h.later h.rest h.lines) h.committed h.wrote (rw saved h.is_durable) h.lines first script tells result c

    -- the begun line could not be applied
    pub ends_early : (store' : Store ℕ ℕ D) (x : Option (List ℕ)) → store'.saved ≡ store.saved → Ends Run is_clean may_leave {T = Unit {0}} {E = Unit {0}} waiting line store store' x x (Err tt)
    ends_early store' x saved old read written h = (
      [],
      Appends-nil x,
      λ clean left holds. rw (append-nil written) (outlives store waiting line x ⊤ store' saved old read written h clean left holds),
    )

  -- a run over an input, from a store to a later one
  module _ (store now : Store ℕ ℕ D) (read written waiting : List ℕ) (line : Option (List ℕ)) (r s x y : Option (List ℕ)) (taken : Consumes r s read) (out : Appends x y written) (h : Session Run is_clean may_leave store.pairs read written waiting line now) where
    -- a call failed that changed nothing
    pub serves_fault : Serves Run is_clean may_leave {T = Unit {0}} {E = Unit {0}} store now r s x y (Err tt)
    serves_fault = (read, written, taken, out, outlives now waiting line x (IsAtEnd s) now refl store.pairs read written h)

    -- bytes were taken, and a call failed
    pub serves_break : (bytes waiting' : List ℕ) (line' : Option (List ℕ)) (store' : Store ℕ ℕ D) (t z : Option (List ℕ)) → Consumes s t bytes → Fails bytes waiting line now waiting' line' store' y z → Serves Run is_clean may_leave {T = Unit {0}} {E = Unit {0}} store store' r t x z (Err tt)
    serves_break bytes waiting' line' store' t z more steps =
        let last = steps store.pairs read written h in (
          read ++ bytes,
          written ++ last.0,
          Consumes-trans r s t read bytes taken more,
          Appends-trans x y z written last.0 out last.1,
          λ clean left holds. survives_at Run (IsAtEnd t) store.pairs (read ++ bytes) (written ++ last.0) left (last.2 clean left holds),
        )

    -- the input ended
    pub serves_end : {T E : Type 0} (store' : Store ℕ ℕ D) (z : Option (List ℕ)) (result : Result T E) → IsAtEnd s → Ends Run is_clean may_leave waiting line now store' y z result → Serves Run is_clean may_leave store store' r s x z result
    serves_end store' z (Ok t) end ends =
        let last = ends store.pairs read written h in
        (read, written ++ last.0, taken, Appends-trans x y z written last.0 out last.1, end, last.2)
    serves_end store' z (Err e) end ends =
        let last = ends store.pairs read written h in
        (read, written ++ last.0, taken, Appends-trans x y z written last.0 out last.1, λ clean left holds. survives_end Run (IsAtEnd s) store.pairs read (written ++ last.0) left end (last.2 clean left holds))
