-- The fronts of the commands, and what they leave.
use mathlib.Core.Bool.{false≢true}
use Rattle.std.proofs.Common.{◌≡◌, ℕ, nat_cmp, Result, Ok, Err, MatchResult, is_ok, List, [], ◌∷◌, ◌++◌, map, fold, refl, sym, ap, ◌∙◌, subst, arith, Ordering}
use Rattle.std.proofs.lemmas.List.{map-append}
use Rattle.std.specs.Cmp.{IsTotalOrder}
use Rattle.tree_model.specs.declared.commands.Command.{Command}
use Rattle.tree_model.proofs.Histories.{history_grows, same_key_itself, same_bound_itself}
use Rattle.tree_model.specs.declared.commands.Command.TheVariants.{Insert, Upsert, Remove, RemoveRange, Clear, Peek}
use Rattle.tree_model.specs.declared.commands.Record.{Record}
use Rattle.tree_model.specs.declared.commands.Reply.{Reply}
use Rattle.tree_model.specs.declared.commands.Reply.TheVariants.{Stored, Duplicate, Removed, Done, Found, Refused}
use Rattle.tree_model.specs.History.{IsAnswered, IsSameCommand, IsSameReply, IsSamePairs, Replays}
use Rattle.tree_model.specs.Runs.{Step}
use Rattle.tree_readers.specs.Fronts.{IsFront, Does, done, after}

module _ {K V A B : Type 0} {cmp : K → K → Ordering} (o : IsTotalOrder cmp) (seen_key : K → A) (seen : V → B) where
  same_reply_itself : (r : Reply V) → IsSameReply cmp seen_key seen r r
  same_reply_itself Stored = tt
  same_reply_itself Duplicate = tt
  same_reply_itself (Removed was) = refl
  same_reply_itself Done = tt
  same_reply_itself (Found found) = refl
  same_reply_itself Refused = tt

  -- a command is itself
  pub same_command_itself : (c : Command K V) → IsSameCommand cmp seen_key seen c c
  same_command_itself (Insert k v) = (same_key_itself o seen_key k, refl)
  same_command_itself (Upsert k v) = (same_key_itself o seen_key k, refl)
  same_command_itself (Remove k) = same_key_itself o seen_key k
  same_command_itself (RemoveRange low high) = (same_bound_itself o seen_key low, same_bound_itself o seen_key high)
  same_command_itself Clear = tt
  same_command_itself (Peek k) = same_key_itself o seen_key k

  -- a command that is taken in makes the front longer by what is told of it
  pub front_grows : (commands : List (Command K V)) (old new : List (K × V)) (command told : Command K V) → IsFront cmp seen_key seen commands old → Does cmp seen old command new → IsSameCommand cmp seen_key seen command told
      → IsFront cmp seen_key seen (commands ++ told ∷ []) new
  front_grows commands old new command told front does same =
      let kept : Record K V = record { command = told; reply = does.reply } in
      record {
        history = front.history ++ kept ∷ [];
        same = map-append (λ r. r.command) front.history (kept ∷ []) ∙ ap (λ l. l ++ told ∷ []) front.same;
        answers = history_grows o seen_key seen front.history old new command does.reply kept front.answers does.step does.answered same (same_reply_itself does.reply);
      }

-- a command that is answered leaves what it does
one_done : {K V S : Type 0} (cmp : K → K → Ordering) (seen : V → S) (old new : List (K × V)) (command : Command K V) (reply : Reply V) → IsAnswered reply → Step cmp seen old command reply new → new ≡ done cmp old command
one_done cmp seen old new command reply answered step = grind arith

-- and so do all
all_done : {K V S : Type 0} (cmp : K → K → Ordering) (seen : V → S) (old new : List (K × V)) (history : List (Record K V)) → Replays cmp seen old history new → new ≡ fold (done cmp) old (map (λ r. r.command) history)
all_done cmp seen old new [] h = h
all_done cmp seen old new (r ∷ rs) h = subst (λ l. new ≡ fold (done cmp) l (map (λ r. r.command) rs)) (one_done cmp seen old h.0 r.command r.reply h.1 h.2) (all_done cmp seen h.0 new rs h.3)

-- the pairs of a front are those after its commands, as clones
pub front_after : {K V A B : Type 0} (cmp : K → K → Ordering) (seen_key : K → A) (seen : V → B) (commands : List (Command K V)) (pairs : List (K × V)) → IsFront cmp seen_key seen commands pairs → IsSamePairs cmp seen_key seen pairs (after cmp commands)
front_after cmp seen_key seen commands pairs front =
    subst (λ (l : List (Command _ _)). IsSamePairs cmp seen_key seen pairs (after cmp l)) front.same
    (subst (λ (l : List _). IsSamePairs cmp seen_key seen pairs l) (all_done cmp seen [] front.answers.replayed front.history front.answers.replays) front.answers.same)

-- an answer of the same kind, whose error says less
pub less_said : {E F : Type 0} (r : Result (Unit {0}) E) (s : Result (Unit {0}) F) (P Q : Type 0) (R : E → Type 0) → is_ok s ≡ is_ok r → MatchResult r (λ _. P) (λ e. R e × Q) → MatchResult s (λ _. P) (λ _. Q)
less_said (Ok x) (Ok y) P Q R same h = h
less_said (Err e) (Err f) P Q R same h = h.1
less_said (Ok x) (Err f) P Q R same h = absurd (false≢true same)
less_said (Err e) (Ok y) P Q R same h = absurd (false≢true (sym same))

-- pairs of numbers are known by what is seen of them
pub same_numbers : (pairs others : List (ℕ × ℕ)) → IsSamePairs nat_cmp (λ n. n) (λ n. n) pairs others → pairs ≡ others
same_numbers [] [] same = refl
same_numbers (p ∷ ps) (q ∷ qs) same =
    ap (λ (k : ℕ). (k, p.1) ∷ ps) same.0.alike ∙ (ap (λ (v : ℕ). (q.0, v) ∷ ps) same.1 ∙ ap (λ (l : List (ℕ × ℕ)). q ∷ l) (same_numbers ps qs same.2))
same_numbers [] (q ∷ qs) same = absurd same
same_numbers (p ∷ ps) [] same = absurd same
