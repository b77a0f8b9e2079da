-- A history that an answered command is added to goes on replaying to the entries, and a history replays to one list.
use Rattle.std.proofs.Common.{◌≡◌, List, [], ◌∷◌, ◌++◌, Option, refl, sym, ap, ◌∙◌, subst, rules, Bool, filter, option_map, Ordering, is_lt, is_gt, arith}
use Rattle.std.proofs.lemmas.Bool.{cases_Bool}
use Rattle.tree_model.proofs.Common.{IsTotalOrder, Bound, alike_right, tied_itself, Command, Insert, Upsert, Remove, RemoveRange, Clear, Peek, Reply, Stored, Duplicate, Removed, Done, Found, below, IsAbsent, IsPresent, pair_at, put, without, cut}
use Rattle.tree_model.specs.declared.commands.Reply.TheVariants.{Refused}
use Rattle.tree_model.specs.declared.commands.Record.{Record}
use Rattle.tree_model.specs.Pairs.{meets_lower, meets_upper}
use Rattle.tree_model.specs.Runs.{Step}
use Rattle.tree_model.specs.History.{IsAnswered, Replays, IsSameBound, IsSameKey, IsSamePairs, IsSameCommand, IsSameReply, IsHistoryOf}

-- one more record at the end
Replays-push : {K V S : Type 0} (cmp : K → K → Ordering) (seen : V → S) (old : List (K × V)) (records : List (Record K V)) (mid new : List (K × V)) (r : Record K V) → Replays cmp seen old records mid → IsAnswered r.reply → Step cmp seen mid r.command r.reply new → Replays cmp seen old (records ++ r ∷ []) new
Replays-push cmp seen old [] mid new r h answered step = (new, answered, subst (λ l. Step cmp seen l r.command r.reply new) h step, refl)
Replays-push cmp seen old (x ∷ xs) mid new r h answered step = (h.0, h.1, h.2, Replays-push cmp seen h.0 xs mid new r h.3 answered step)

module _ {K V A B : Type 0} (cmp : K → K → Ordering) (seen_key : K → A) (seen : V → B) where
  same-append : (a b c d : List (K × V)) → IsSamePairs cmp seen_key seen a b → IsSamePairs cmp seen_key seen c d → IsSamePairs cmp seen_key seen (a ++ c) (b ++ d)
  same-append [] [] c d h t = t
  same-append (p ∷ ps) (q ∷ qs) c d h t = (h.0, h.1, same-append ps qs c d h.2 t)
  same-append a b c d h t = absurd h

  -- two tests that say the same of the same keys keep the same pairs
  same-filter : (test other : K → Bool) → ((x y : K) → IsSameKey cmp seen_key x y → test x ≡ other y)
      → (ps qs : List (K × V)) → IsSamePairs cmp seen_key seen ps qs → IsSamePairs cmp seen_key seen (filter (λ p. test p.0) ps) (filter (λ q. other q.0) qs)
  same-filter test other alike [] [] h = tt
  same-filter test other alike (p ∷ ps) (q ∷ qs) h = grind (arith, cases_Bool, same-filter test other alike ps qs h.2)
  same-filter test other alike ps qs h = absurd h

  -- a step says of a reply what it says of its clone
  step_seen : (old new : List (K × V)) (command : Command K V) (reply r : Reply V) → IsSameReply cmp seen_key seen reply r → Step cmp seen old command reply new → Step cmp seen old command r new
  step_seen old new command reply r e step = grind arith

module _ {K V A B : Type 0} {cmp : K → K → Ordering} (o : IsTotalOrder cmp) (seen_key : K → A) (seen : V → B) where
  -- clones of two keys compare as the keys do
  same_cmp : (x y key k : K) → IsSameKey cmp seen_key x y → IsSameKey cmp seen_key key k → cmp x key ≡ cmp y k
  same_cmp x y key k one other = o.congr x y key one.equal ∙ alike_right o key k y other.equal

  -- clones of a bound are met by the clones of the keys that meet it
  same_lower : (bound b : Bound K) → IsSameBound cmp seen_key bound b → (x y : K) → IsSameKey cmp seen_key x y → meets_lower cmp bound x ≡ meets_lower cmp b y
  same_lower bound b same x y e = let alike = λ (key k : K) (same : IsSameKey cmp seen_key key k). same_cmp key k x y same e in grind (arith, alike)

  same_upper : (bound b : Bound K) → IsSameBound cmp seen_key bound b → (x y : K) → IsSameKey cmp seen_key x y → meets_upper cmp bound x ≡ meets_upper cmp b y
  same_upper bound b same x y e = let alike = λ (key k : K) (same : IsSameKey cmp seen_key key k). same_cmp x y key k e same in grind (arith, alike)

  module _ (old l : List (K × V)) (h : IsSamePairs cmp seen_key seen old l) where
    same-cut : (low f high u : Bound K) → IsSameBound cmp seen_key low f → IsSameBound cmp seen_key high u → IsSamePairs cmp seen_key seen (cut cmp old low high) (cut cmp l f u)
    same-cut low f high u lows highs = same-filter cmp seen_key seen _ _ (λ x y e. rw (same_lower low f lows x y e, same_upper high u highs x y e) refl) old l h

    module _ (key k : K) (same_key : IsSameKey cmp seen_key key k) where
      same-side : (side : Ordering → Bool) → IsSamePairs cmp seen_key seen (filter (λ p. side (cmp p.0 key)) old) (filter (λ q. side (cmp q.0 k)) l)
      same-side side = same-filter cmp seen_key seen (λ x. side (cmp x key)) (λ y. side (cmp y k)) (λ x y e. ap side (same_cmp x y key k e same_key)) old l h

      same-put : (value v : V) → seen value ≡ seen v → IsSamePairs cmp seen_key seen (put cmp old key value) (put cmp l k v)
      same-put value v e = same-append cmp seen_key seen (below cmp old key) (below cmp l k) _ _ (same-side is_lt) (same_key, e, same-side is_gt)

      same-without : IsSamePairs cmp seen_key seen (without cmp old key) (without cmp l k)
      same-without = same-append cmp seen_key seen (below cmp old key) (below cmp l k) _ _ (same-side is_lt) (same-side is_gt)

      -- the same value is at the key
      same_at : option_map (λ p. seen p.1) (pair_at cmp old key) ≡ option_map (λ q. seen q.1) (pair_at cmp l k)
      same_at = by_list old l h
        where
          by_list : (ps qs : List (K × V)) → IsSamePairs cmp seen_key seen ps qs → option_map (λ p. seen p.1) (pair_at cmp ps key) ≡ option_map (λ q. seen q.1) (pair_at cmp qs k)
          by_list (p ∷ ps) (q ∷ qs) h = grind (arith, same_cmp p.0 q.0 key k h.0 same_key, h.1, by_list ps qs h.2)
          by_list ps qs h = grind arith

      -- so it is absent from both, or present in both
      there : (IsAbsent cmp old key → IsAbsent cmp l k) × (IsPresent cmp old key → IsPresent cmp l k) × (IsPresent cmp l k → IsPresent cmp old key)
      there = (λ absent. grind (arith, same_at), λ present. grind (arith, same_at), λ present. grind (arith, same_at))

    -- A step on the entries is the same step, of the clones, on what the history replays to.
    same_step : (new : List (K × V)) (command c : Command K V) (reply : Reply V) → IsSameCommand cmp seen_key seen command c → Step cmp seen old command reply new
        → (m : List (K × V)) × Step cmp seen l c reply m × IsSamePairs cmp seen_key seen new m
    same_step new (Insert key value) (Insert k v) Stored same step = (put cmp l k v, ((there key k same.0).0 step.0, refl), rw step.1 (same-put key k same.0 value v same.1))
    same_step new (Insert key value) (Insert k v) Duplicate same step = (l, ((there key k same.0).1 step.0, refl), rw step.1 h)
    same_step new (Insert key value) (Insert k v) Refused same step = (l, ((there key k same.0).0 step.0, refl), rw step.1 h)
    same_step new (Upsert key value) (Upsert k v) Stored same step = (put cmp l k v, refl, rw step (same-put key k same.0 value v same.1))
    same_step new (Upsert key value) (Upsert k v) Refused same step = (l, refl, rw step h)
    same_step new (Remove key) (Remove k) (Removed was) same step =
        (without cmp l k, ((λ yes. (there key k same).1 (step.0.0 yes), λ some. step.0.1 ((there key k same).2 some)), refl), rw step.1 (same-without key k same))
    same_step new (RemoveRange low high) (RemoveRange f u) Done same step = (cut cmp l f u, refl, rw step (same-cut low f high u same.0 same.1))
    same_step new Clear Clear Done same step = ([], refl, rw step tt)
    same_step new (Peek key) (Peek k) (Found found) same step = (l, (step.0 ∙ same_at key k same, refl), rw step.1 h)
    same_step new (Peek key) (Peek k) Refused same step = (l, ((there key k same).1 step.0, refl), rw step.1 h)
    same_step new command c reply same step = absurd (search rules)

-- the history with the record replays to the entries after the step
pub history_grows : {K V A B : Type 0} {cmp : K → K → Ordering} (o : IsTotalOrder cmp) (seen_key : K → A) (seen : V → B) (history : List (Record K V)) (old new : List (K × V)) (command : Command K V) (reply : Reply V) (kept : Record K V) → IsHistoryOf cmp seen_key seen history old → Step cmp seen old command reply new → IsAnswered kept.reply → IsSameCommand cmp seen_key seen command kept.command → IsSameReply cmp seen_key seen reply kept.reply → IsHistoryOf cmp seen_key seen (history ++ kept ∷ []) new
history_grows {cmp = cmp} o seen_key seen history old new command reply kept h step answered same_command same_reply =
    let next = same_step o seen_key seen old h.replayed h.same new command kept.command kept.reply same_command (step_seen cmp seen_key seen old new command reply kept.reply same_reply step) in
    record { replayed = next.0; replays = Replays-push cmp seen [] history h.replayed next.0 kept h.replays answered next.1; same = next.2 }

-- a key is itself
pub same_key_itself : {K A : Type 0} {cmp : K → K → Ordering} (o : IsTotalOrder cmp) (seen_key : K → A) (key : K) → IsSameKey cmp seen_key key key
same_key_itself o seen_key key = record { equal = tied_itself o key; alike = refl }

-- and so is a bound
pub same_bound_itself : {K A : Type 0} {cmp : K → K → Ordering} (o : IsTotalOrder cmp) (seen_key : K → A) (bound : Bound K) → IsSameBound cmp seen_key bound bound
same_bound_itself o seen_key bound = grind arith

-- what is seen of a pair's value
pub seen_value : {K V B : Type 0} (seen : V → B) (found : Option (K × V)) → option_map seen (option_map (λ pair. pair.1) found) ≡ option_map (λ pair. seen pair.1) found
seen_value seen found = grind arith

-- a command with its reply leaves one list
one_step : {K V S : Type 0} (cmp : K → K → Ordering) (seen : V → S) (old l m : List (K × V)) (command : Command K V) (reply : Reply V) → Step cmp seen old command reply l → Step cmp seen old command reply m → l ≡ m
one_step cmp seen old l m command reply h i = grind arith

-- a history replays to one list
pub one_replay : {K V S : Type 0} (cmp : K → K → Ordering) (seen : V → S) (old : List (K × V)) (history : List (Record K V)) (l m : List (K × V)) → Replays cmp seen old history l → Replays cmp seen old history m → l ≡ m
one_replay cmp seen old [] l m h i = h ∙ sym i
one_replay cmp seen old (r ∷ records) l m h i = grind (arith, one_step, one_replay cmp seen i.0 records l m)
