-- A history that an answered command is added to, and its tally.
use Rattle.std.proofs.Common.{◌≡◌, ◌+◌, ◌<◌, ◌^◌, Bool, false, cond, List, [], ◌∷◌, ◌++◌, length, Some, None, refl, sym, ap, ◌∙◌, arith, length-append, count_by, Ordering}
use Rattle.std.proofs.lemmas.List.Sums.{count_by-le-length, sum_by-append}
use Rattle.tree_model.specs.declared.commands.Command.{Command}
use Rattle.tree_model.specs.declared.commands.Record.{Record}
use Rattle.tree_model.specs.declared.commands.Reply.{Reply}
use Rattle.tree_model.specs.declared.commands.Reply.TheVariants.{Stored, Duplicate, Removed, Done, Found, Refused}
use Rattle.tree_model.specs.History.{Log, IsAnswered, IsSameReply, Appends}
use Rattle.tree_state.specs.Ledgers.{Fits}
use Rattle.tree_state.specs.Tallies.{is_refused, is_stored, is_removed, is_found, is_done, tally, tally_of, raised}
use Rattle.tree_state.specs.declared.tally.Tally.{Tally}

-- an answer is no refusal
pub not_refused : {V : Type 0} → (r : Reply V) → IsAnswered r → is_refused r ≡ false
not_refused Stored a = refl
not_refused Duplicate a = refl
not_refused (Removed was) a = refl
not_refused Done a = refl
not_refused (Found found) a = refl
not_refused Refused a = absurd a

-- the tally after one more record
tally-push : {K V : Type 0} → (h : List (Record K V)) (x : Record K V) → is_refused x.reply ≡ false → tally (h ++ x ∷ []) ≡ raised (tally h) x.reply
tally-push {K} {V} h x e =
    let count = λ (p : Reply V → Bool). sum_by-append (λ (y : Record K V). cond (p y.reply) 1 0) h (x ∷ []) in
    let calls : length (h ++ x ∷ []) ≡ length h + cond (is_refused x.reply) 0 1 = rw e (omega (arith, length-append h (x ∷ []))) in
    let stored : count_by (λ y. is_stored y.reply) (h ++ x ∷ []) ≡ count_by (λ y. is_stored y.reply) h + cond (is_stored x.reply) 1 0 = omega (arith, count is_stored) in
    let removed : count_by (λ y. is_removed y.reply) (h ++ x ∷ []) ≡ count_by (λ y. is_removed y.reply) h + cond (is_removed x.reply) 1 0 = omega (arith, count is_removed) in
    let found : count_by (λ y. is_found y.reply) (h ++ x ∷ []) ≡ count_by (λ y. is_found y.reply) h + cond (is_found x.reply) 1 0 = omega (arith, count is_found) in
    let done : count_by (λ y. is_done y.reply) (h ++ x ∷ []) ≡ count_by (λ y. is_done y.reply) h + cond (is_done x.reply) 1 0 = omega (arith, count is_done) in
    λ i. tally_of (calls i) (stored i) (removed i) (found i) (done i)

-- a reply and a clone of it raise the same
pub same_raise : {K V A B : Type 0} (cmp : K → K → Ordering) (seen_key : K → A) (seen : V → B) (t : Tally) (reply r : Reply V) → IsSameReply cmp seen_key seen reply r → raised t r ≡ raised t reply
same_raise cmp seen_key seen t Stored Stored e = refl
same_raise cmp seen_key seen t Duplicate Duplicate e = refl
same_raise {V} cmp seen_key seen t (Removed was) (Removed w) e = ap (λ (b : Bool). raised {V = V} t (Removed b)) (sym e)
same_raise cmp seen_key seen t Done Done e = refl
same_raise cmp seen_key seen t (Found (Some v)) (Found (Some w)) e = refl
same_raise cmp seen_key seen t (Found None) (Found None) e = refl
same_raise cmp seen_key seen t (Found (Some v)) (Found None) e = cc
same_raise cmp seen_key seen t (Found None) (Found (Some w)) e = cc
same_raise cmp seen_key seen t Refused Refused e = refl
same_raise cmp seen_key seen t reply r e = absurd e

-- and so is a clone of it
pub same_answered : {K V A B : Type 0} (cmp : K → K → Ordering) (seen_key : K → A) (seen : V → B) (reply r : Reply V) → IsSameReply cmp seen_key seen reply r → IsAnswered reply → is_refused r ≡ false
same_answered cmp seen_key seen Stored Stored e a = refl
same_answered cmp seen_key seen Duplicate Duplicate e a = refl
same_answered cmp seen_key seen (Removed was) (Removed w) e a = refl
same_answered cmp seen_key seen Done Done e a = refl
same_answered cmp seen_key seen (Found found) (Found f) e a = refl
same_answered cmp seen_key seen Refused Refused e a = absurd a
same_answered cmp seen_key seen reply r e a = absurd e

-- the history's tally rises by the reply
pub tally_next : {K V A B : Type 0} (cmp : K → K → Ordering) (seen_key : K → A) (seen : V → B) (old new : Log K V) (command : Command K V) (reply : Reply V) → Appends cmp seen_key seen old new command reply → tally new.history ≡ raised (tally old.history) reply
tally_next cmp seen_key seen old new command reply a =
    ap (λ h. tally h) a.appended
    ∙ tally-push old.history a.kept (same_answered cmp seen_key seen reply a.kept.reply a.same_reply a.answered)
    ∙ same_raise cmp seen_key seen (tally old.history) reply a.kept.reply a.same_reply

-- no number of a tally is larger than that of the calls
pub fits_tally : {K V : Type 0} → (h : List (Record K V)) → length h < 2 ^ 64 → Fits (tally h)
fits_tally {K} {V} h short = (
  short,
  omega (arith, short, count_by-le-length (λ (r : Record K V). is_stored r.reply) h),
  omega (arith, short, count_by-le-length (λ (r : Record K V). is_removed r.reply) h),
  omega (arith, short, count_by-le-length (λ (r : Record K V). is_found r.reply) h),
  omega (arith, short, count_by-le-length (λ (r : Record K V). is_done r.reply) h),
)
