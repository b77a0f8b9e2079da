-- One entry of a schedule more.
use Rattle.std.proofs.Common.{◌≡◌, ℕ, suc, ◌+◌, ◌<◌, ◌≤◌, ◌==◌, inl, inr, Bool, true, false, cond, List, [], ◌∷◌, ◌++◌, length, Option, Some, None, refl, sym, ap, ◌∙◌, subst, arith, append_assoc, append-nil, length-append, if◌then◌else◌, map, count_by, is_none, slice_index_or, slice_set, Result, Ok, Err, is_err, IfOk, OnErr, All, Ordering, get_or-set_same, get_or-set_other}
use Rattle.tree_model.specs.declared.commands.Command.{Command}
use Rattle.tree_model.specs.declared.commands.Reply.{Reply}
use Rattle.std.proofs.lemmas.List.Elements.{All-head, All-same}
use Rattle.std.proofs.lemmas.List.Sums.{count_by-le-length, sum_by-append}
use Rattle.std.proofs.lemmas.Bool.Decides.{eqb_tells}
use Rattle.std.proofs.lemmas.Grind.{common_steps}
use Rattle.tree_model.specs.declared.commands.Record.{Record}
use Rattle.tree_model.specs.History.{Log, Appends}
use Rattle.tree_state.specs.declared.tally.Tally.{Tally}
use Rattle.tree_state.specs.Ledgers.{Fits}
use Rattle.tree_state.specs.Schedules.{records, records_of, HasRoom, RunsSchedule, FitsEachRun, Ran}
use Rattle.tree_state.specs.Tallies.{is_refused, is_stored, is_removed, is_found, is_done, none, plus, raised, reply_of_apply, tally, tally_of}
use Rattle.tree_state.proofs.Tallied.{same_answered, same_raise}

either_way : {X : Type 0} (b : Bool) (x : X) (xs ys zs : List X) → xs ≡ ys ++ zs → (if b then x ∷ xs else xs) ≡ (if b then x ∷ ys else ys) ++ zs
either_way true x xs ys zs e = ap (λ ws. x ∷ ws) e
either_way false x xs ys zs e = e

records-append : {K V : Type 0} (ks ls : List (Option (Record K V))) → records (ks ++ ls) ≡ records ks ++ records ls
records-append [] ls = refl
records-append (None ∷ ks) ls = records-append ks ls
records-append (Some k ∷ ks) ls = ap (λ rs. k ∷ rs) (records-append ks ls)

eqb_same : (n : ℕ) → (n == n) ≡ true
eqb_same n = elim (eqb_tells n n) [ inl e ↦ e.0 | inr e ↦ absurd (e.1 refl) ]

plus_assoc : (t u v : Tally) → plus (plus t u) v ≡ plus t (plus u v)
plus_assoc t u v = grind (arith, common_steps)

tally-append : {K V : Type 0} (h g : List (Record K V)) → tally (h ++ g) ≡ plus (tally h) (tally g)
tally-append {K} {V} h g =
    let count = λ (p : Reply V → Bool). sum_by-append (λ (x : Record K V). cond (p x.reply) 1 0) h g in
    let calls : length (h ++ g) ≡ length h + length g = length-append h g in
    λ i. tally_of (calls i) (count is_stored i) (count is_removed i) (count is_found i) (count is_done i)

-- one record raises a tally as its reply does
raised_one : {K V : Type 0} (t : Tally) (x : Record K V) → is_refused x.reply ≡ false → raised t x.reply ≡ plus t (tally (x ∷ []))
raised_one t x e =
    let calls : t.calls + cond (is_refused x.reply) 0 1 ≡ t.calls + 1 = rw e refl in
    let more : (n m : ℕ) → n + m ≡ n + (0 + m) = λ n m. omega arith in
    λ i. tally_of (calls i) (more t.stored (cond (is_stored x.reply) 1 0) i) (more t.removed (cond (is_removed x.reply) 1 0) i) (more t.found (cond (is_found x.reply) 1 0) i) (more t.done (cond (is_done x.reply) 1 0) i)

module _ {K V A B : Type 0} (cmp : K → K → Ordering) (seen_key : K → A) (seen : V → B) where
  -- a schedule that goes on
  runs-append : (old mid new : List (K × V)) (ss ts : List (ℕ × Command K V)) (ks ls : List (Option (Record K V))) → RunsSchedule cmp seen_key seen old ss ks mid → RunsSchedule cmp seen_key seen mid ts ls new → RunsSchedule cmp seen_key seen old (ss ++ ts) (ks ++ ls) new
  runs-append old mid new [] ts [] ls h t = subst (λ l. RunsSchedule cmp seen_key seen l ts ls new) h t
  runs-append old mid new [] ts (k ∷ ks) ls h t = absurd h
  runs-append old mid new (s ∷ ss) ts [] ls h t = absurd h
  runs-append old mid new (s ∷ ss) ts (None ∷ ks) ls h t = runs-append old mid new ss ts ks ls h t
  runs-append old mid new (s ∷ ss) ts (Some k ∷ ks) ls h t = (h.0, h.1, h.2, h.3, h.4, h.5, runs-append h.0 mid new ss ts ks ls h.6 t)

  own-append : (worker : ℕ) (old mid : List (K × V)) (ss ts : List (ℕ × Command K V)) (ks ls : List (Option (Record K V))) → RunsSchedule cmp seen_key seen old ss ks mid → records_of worker (ss ++ ts) (ks ++ ls) ≡ records_of worker ss ks ++ records_of worker ts ls
  own-append worker old mid [] ts [] ls h = refl
  own-append worker old mid [] ts (k ∷ ks) ls h = absurd h
  own-append worker old mid (s ∷ ss) ts [] ls h = absurd h
  own-append worker old mid (s ∷ ss) ts (None ∷ ks) ls h = own-append worker old mid ss ts ks ls h
  own-append worker old mid (s ∷ ss) ts (Some k ∷ ks) ls h = either_way (s.0 == worker) k (records_of worker (ss ++ ts) (ks ++ ls)) (records_of worker ss ks) (records_of worker ts ls) (own-append worker h.0 mid ss ts ks ls h.6)

  as_many : (old new : List (K × V)) (ss : List (ℕ × Command K V)) (ks : List (Option (Record K V))) → RunsSchedule cmp seen_key seen old ss ks new → length ks ≡ length ss
  as_many old new [] [] h = refl
  as_many old new [] (k ∷ ks) h = absurd h
  as_many old new (s ∷ ss) [] h = absurd h
  as_many old new (s ∷ ss) (None ∷ ks) h = ap suc (as_many old new ss ks h)
  as_many old new (s ∷ ss) (Some k ∷ ks) h = ap suc (as_many h.0 new ss ks h.6)

  -- a schedule of which every command is refused
  all_refused : (old : List (K × V)) (ss : List (ℕ × Command K V)) → RunsSchedule cmp seen_key seen old ss (map (λ s. None) ss) old
  all_refused old [] = refl
  all_refused old (s ∷ ss) = all_refused old ss

  own_refused : (worker : ℕ) (ss : List (ℕ × Command K V)) → records_of {K = K} {V = V} worker ss (map (λ s. None) ss) ≡ []
  own_refused worker [] = refl
  own_refused worker (s ∷ ss) = own_refused worker ss

  -- a part of a schedule leaves no number too large, since the commands behind it may be refused
  pub front_fits : (old mid : List (K × V)) (whole ss ts : List (ℕ × Command K V)) (ks : List (Option (Record K V))) (tallies : List Tally) (worker : ℕ) → FitsEachRun cmp seen_key seen old whole tallies → ss ++ ts ≡ whole → worker < length tallies → RunsSchedule cmp seen_key seen old ss ks mid → Fits (plus (slice_index_or tallies worker none) (tally (records_of worker ss ks)))
  front_fits old mid whole ss ts ks tallies worker fits e within h =
      let kept : List (Option (Record K V)) = ks ++ map (λ s. None) ts in
      let ran = runs-append old mid mid ss ts ks (map (λ s. None) ts) h (all_refused mid ts) in
      let own : records_of worker (ss ++ ts) kept ≡ records_of worker ss ks = own-append worker old mid ss ts ks (map (λ s. None) ts) h ∙ ap (λ rs. records_of worker ss ks ++ rs) (own_refused worker ts) ∙ append-nil (records_of worker ss ks) in
      subst (λ rs. Fits (plus (slice_index_or tallies worker none) (tally rs))) own
      (subst (λ l. Fits (plus (slice_index_or tallies worker none) (tally (records_of worker l kept)))) (sym e) (fits worker within kept mid (subst (λ l. RunsSchedule cmp seen_key seen old l kept mid) e ran)))

  -- what one command left
  pub record Left (old new : Log K V) (worker : ℕ) (command : Command K V) (answer : Result (Reply V) (Command K V)) : Type 0 where
    pub one : Option (Record K V)
    pub runs : RunsSchedule cmp seen_key seen old.pairs ((worker, command) ∷ []) (one ∷ []) new.pairs
    pub appended : new.history ≡ old.history ++ records (one ∷ [])
    pub counted : cond (is_err answer) 1 0 ≡ count_by is_none (one ∷ [])
    pub rises : (t : Tally) → raised t (reply_of_apply answer) ≡ plus t (tally (records (one ∷ [])))

  pub left : (old new : Log K V) (worker : ℕ) (command : Command K V) (answer : Result (Reply V) (Command K V)) → IfOk answer (Appends cmp seen_key seen old new command) → OnErr answer (new ≡ old) → Left old new worker command answer
  left old new worker command (Ok reply) ok err = record {
    one = Some ok.kept;
    runs = (new.pairs, reply, ok.step, ok.answered, ok.same_command, ok.same_reply, refl);
    appended = ok.appended;
    counted = refl;
    rises = λ t. sym (same_raise cmp seen_key seen t reply ok.kept.reply ok.same_reply) ∙ raised_one t ok.kept (same_answered cmp seen_key seen reply ok.kept.reply ok.same_reply ok.answered);
  }
  left old new worker command (Err back) ok err = record {
    one = None;
    runs = ap (λ l. l.pairs) err;
    appended = ap (λ l. l.history) err ∙ sym (append-nil old.history);
    counted = refl;
    rises = λ t. grind (arith, common_steps);
  }

  pub ran_start : (old : Log K V) (tallies : List Tally) → Ran cmp seen_key seen [] old tallies old tallies 0
  ran_start old tallies = record {
    kept = [];
    runs = refl;
    appended = sym (append-nil old.history);
    taken_out = refl;
    tallied = λ worker within. grind (arith, common_steps);
  }

  -- the records of the worker and of another one
  own_one : (worker v : ℕ) (command : Command K V) (one : Option (Record K V)) → (worker == v) ≡ true → records_of v ((worker, command) ∷ []) (one ∷ []) ≡ records (one ∷ [])
  own_one worker v command None e = refl
  own_one worker v command (Some k) e = rw e refl

  other_one : (worker v : ℕ) (command : Command K V) (one : Option (Record K V)) → (worker == v) ≡ false → records_of v ((worker, command) ∷ []) (one ∷ []) ≡ []
  other_one worker v command None e = refl
  other_one worker v command (Some k) e = rw e refl

  tallied_next : (tallies us : List Tally) (own : List (Record K V)) (worker v : ℕ) (command : Command K V) (one : Option (Record K V)) (t : Tally) → slice_index_or us v none ≡ plus (slice_index_or tallies v none) (tally own) → worker < length us → t ≡ plus (slice_index_or us worker none) (tally (records (one ∷ [])))
      → slice_index_or (slice_set us worker t) v none ≡ plus (slice_index_or tallies v none) (tally (own ++ records_of v ((worker, command) ∷ []) (one ∷ [])))
  tallied_next tallies us own worker v command one t was within rises =
      elim (eqb_tells worker v) [
        | inl e ↦
            let before : slice_index_or us worker none ≡ plus (slice_index_or tallies v none) (tally own) = ap (λ (i : ℕ). slice_index_or us i none) e.1 ∙ was in
            ap (λ (i : ℕ). slice_index_or (slice_set us worker t) i none) (sym e.1)
            ∙ get_or-set_same us worker t none within
            ∙ rises
            ∙ ap (λ (u : Tally). plus u (tally (records (one ∷ [])))) before
            ∙ plus_assoc (slice_index_or tallies v none) (tally own) (tally (records (one ∷ [])))
            ∙ ap (λ (u : Tally). plus (slice_index_or tallies v none) u) (sym (tally-append own (records (one ∷ []))))
            ∙ ap (λ (rs : List (Record K V)). plus (slice_index_or tallies v none) (tally (own ++ rs))) (sym (own_one worker v command one e.0))
        | inr e ↦
            get_or-set_other us worker v t none (λ q. e.1 (sym q))
            ∙ was
            ∙ ap (λ (rs : List (Record K V)). plus (slice_index_or tallies v none) (tally rs)) (sym (ap (λ rs. own ++ rs) (other_one worker v command one e.0) ∙ append-nil own))
      ]

  pub ran_next : (ss : List (ℕ × Command K V)) (old mid new : Log K V) (tallies us us' : List Tally) (n n' worker : ℕ) (command : Command K V) (answer : Result (Reply V) (Command K V)) (t : Tally)
      → Ran cmp seen_key seen ss old tallies mid us n → Left mid new worker command answer → worker < length us → t ≡ raised (slice_index_or us worker none) (reply_of_apply answer) → us' ≡ slice_set us worker t → n' ≡ n + cond (is_err answer) 1 0
      → Ran cmp seen_key seen (ss ++ (worker, command) ∷ []) old tallies new us' n'
  ran_next ss old mid new tallies us us' n n' worker command answer t ran next within rises sets counts = record {
    kept = ran.kept ++ next.one ∷ [];
    runs = runs-append old.pairs mid.pairs new.pairs ss ((worker, command) ∷ []) ran.kept (next.one ∷ []) ran.runs next.runs;
    appended = next.appended ∙ ap (λ h. h ++ records (next.one ∷ [])) ran.appended ∙ append_assoc old.history (records ran.kept) (records (next.one ∷ [])) ∙ ap (λ h. old.history ++ h) (sym (records-append ran.kept (next.one ∷ [])));
    taken_out = counts ∙ omega (arith, next.counted, ran.taken_out, sum_by-append (λ (k : Option (Record K V)). cond (is_none k) 1 0) ran.kept (next.one ∷ []));
    tallied = λ v b.
        ap (λ ts. slice_index_or ts v none) sets
        ∙ tallied_next tallies us (records_of v ss ran.kept) worker v command next.one t (ran.tallied v b) within (rises ∙ next.rises (slice_index_or us worker none))
        ∙ ap (λ rs. plus (slice_index_or tallies v none) (tally rs)) (sym (own-append v old.pairs mid.pairs ss ((worker, command) ∷ []) ran.kept (next.one ∷ []) ran.runs));
  }

  pub refused_within : (ss : List (ℕ × Command K V)) (old new : Log K V) (tallies us : List Tally) (n : ℕ) → Ran cmp seen_key seen ss old tallies new us n → n ≤ length ss
  refused_within ss old new tallies us n ran = omega (arith, ran.taken_out, count_by-le-length is_none ran.kept, as_many old.pairs new.pairs ss ran.kept ran.runs)

  -- one command more leaves no number too large
  pub next_fits : (whole ss rest : List (ℕ × Command K V)) (old mid new : Log K V) (tallies us : List Tally) (n worker : ℕ) (command : Command K V) (answer : Result (Reply V) (Command K V))
      → FitsEachRun cmp seen_key seen old.pairs whole tallies → (ss ++ (worker, command) ∷ []) ++ rest ≡ whole → worker < length tallies → Ran cmp seen_key seen ss old tallies mid us n → Left mid new worker command answer → Fits (raised (slice_index_or us worker none) (reply_of_apply answer))
  next_fits whole ss rest old mid new tallies us n worker command answer fits e within ran next =
      let kept : List (Option (Record K V)) = ran.kept ++ next.one ∷ [] in
      let own : List (Record K V) = records_of worker ss ran.kept in
      let runs = runs-append old.pairs mid.pairs new.pairs ss ((worker, command) ∷ []) ran.kept (next.one ∷ []) ran.runs next.runs in
      let records_are : records_of worker (ss ++ (worker, command) ∷ []) kept ≡ own ++ records (next.one ∷ []) = own-append worker old.pairs mid.pairs ss ((worker, command) ∷ []) ran.kept (next.one ∷ []) ran.runs ∙ ap (λ rs. own ++ rs) (own_one worker worker command next.one (eqb_same worker)) in
      let same : plus (slice_index_or tallies worker none) (tally (records_of worker (ss ++ (worker, command) ∷ []) kept)) ≡ raised (slice_index_or us worker none) (reply_of_apply answer) =
      ap (λ rs. plus (slice_index_or tallies worker none) (tally rs)) records_are
      ∙ ap (λ (u : Tally). plus (slice_index_or tallies worker none) u) (tally-append own (records (next.one ∷ [])))
      ∙ sym (plus_assoc (slice_index_or tallies worker none) (tally own) (tally (records (next.one ∷ []))))
      ∙ ap (λ (u : Tally). plus u (tally (records (next.one ∷ [])))) (sym (ran.tallied worker within))
      ∙ sym (next.rises (slice_index_or us worker none)) in
      subst (λ (t : Tally). Fits t) same (front_fits old.pairs new.pairs whole (ss ++ (worker, command) ∷ []) rest kept tallies worker fits e within runs)

-- the next one of a list of which all have P
pub next_has : {X : Type 0} (P : X → Type 0) (x : X) (xs ys : List X) → ys ≡ x ∷ xs → All P ys → P x
next_has P x xs ys e a = All-head P x xs (All-same P (x ∷ xs) ys (sym e) a)

pub ended : {X : Type 0} → (xs ys zs : List X) → xs ++ ys ≡ zs → length ys ≡ 0 → xs ≡ zs
ended xs [] zs e none_left = sym (append-nil xs) ∙ e
ended xs (y ∷ ys) zs e none_left = absurd (omega (arith, none_left))

-- A number of a tally is raised by at most one for each command.
either_few : {X : Type 0} (b : Bool) (x : X) (xs : List X) (n : ℕ) → length xs ≤ n → length (if b then x ∷ xs else xs) ≤ suc n
either_few true x xs n h = omega (arith, h)
either_few false x xs n h = omega (arith, h)

own_few : {K V : Type 0} (worker : ℕ) (ss : List (ℕ × Command K V)) (ks : List (Option (Record K V))) → length (records_of worker ss ks) ≤ length ss
own_few worker [] ks = omega arith
own_few worker (s ∷ ss) [] = omega arith
own_few worker (s ∷ ss) (None ∷ ks) = omega (arith, own_few worker ss ks)
own_few worker (s ∷ ss) (Some k ∷ ks) = either_few (s.0 == worker) k (records_of worker ss ks) (length ss) (own_few worker ss ks)

fits_more : {K V : Type 0} (t : Tally) (h : List (Record K V)) (n : ℕ) → length h ≤ n → HasRoom n t → Fits (plus t (tally h))
fits_more {K} {V} t h n few room =
    let count = λ (p : Reply V → Bool). count_by-le-length (λ (r : Record K V). p r.reply) h in (
      omega (arith, few, room.0),
      omega (arith, few, room.1, count is_stored),
      omega (arith, few, room.2, count is_removed),
      omega (arith, few, room.3, count is_found),
      omega (arith, few, room.4, count is_done),
    )

-- Where each number has room for the whole schedule, it fits each run.
pub fits_each_run : {K V A B : Type 0} (cmp : K → K → Ordering) (seen_key : K → A) (seen : V → B) (old : List (K × V)) (schedule : List (ℕ × Command K V)) (tallies : List Tally) → ((worker : ℕ) → worker < length tallies → HasRoom (length schedule) (slice_index_or tallies worker none)) → FitsEachRun cmp seen_key seen old schedule tallies
fits_each_run cmp seen_key seen old schedule tallies room worker within kept new ran =
    fits_more (slice_index_or tallies worker none) (records_of worker schedule kept) (length schedule) (own_few worker schedule kept) (room worker within)
