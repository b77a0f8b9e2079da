-- Of which kind the reply to a command is, and what an answered insert makes of the tally.
use Rattle.std.proofs.Common.{◌≡◌, true, false, List, refl, sym, ap, ◌∙◌, Result, Ok, Err, Ordering}
use Rattle.tree_model.proofs.Common.{Bound}
use Rattle.tree_model.specs.declared.commands.Command.{Command}
use Rattle.tree_model.specs.declared.commands.Command.TheVariants.{Insert, Upsert, Remove, RemoveRange, Clear, Peek}
use Rattle.tree_model.specs.declared.commands.InsertError.{InsertError}
use Rattle.tree_model.specs.declared.commands.InsertError.TheVariants as fault
use Rattle.tree_model.specs.declared.commands.Reply.{Reply}
use Rattle.tree_model.specs.declared.commands.Reply.TheVariants.{Stored, Duplicate, Removed, Done, Found, Refused}
use Rattle.tree_model.specs.History.{Log, IsAnswered, Appends}
use Rattle.tree_model.specs.Runs.{Step}
use Rattle.tree_shared.specs.Replies.{is_reply_to}
use Rattle.tree_state.specs.Inserts.{RecordsInsert}
use Rattle.tree_state.specs.Tallies.{is_refused, is_removed, found_value, tally, raised, reply_of_insert}
use Rattle.tree_state.specs.declared.tally.Tally.{Tally}
use Rattle.tree_state.proofs.Tallied.{tally_next}

-- an answer is of the command's kind
reply_kind : {K V S : Type 0} (cmp : K → K → Ordering) (seen : V → S) (old new : List (K × V)) (command : Command K V) (reply : Reply V) → Step cmp seen old command reply new → IsAnswered reply → is_reply_to command reply ≡ true
reply_kind cmp seen old new (Insert k v) Stored step a = refl
reply_kind cmp seen old new (Insert k v) Duplicate step a = refl
reply_kind cmp seen old new (Upsert k v) Stored step a = refl
reply_kind cmp seen old new (Remove k) (Removed was) step a = refl
reply_kind cmp seen old new (RemoveRange low high) Done step a = refl
reply_kind cmp seen old new Clear Done step a = refl
reply_kind cmp seen old new (Peek k) (Found found) step a = refl
reply_kind cmp seen old new command Refused step a = absurd a
reply_kind cmp seen old new command reply step a = absurd step

pub kind_of : {K V A B : Type 0} (cmp : K → K → Ordering) (seen_key : K → A) (seen : V → B) (old new : Log K V) (command : Command K V) (reply : Reply V) → Appends cmp seen_key seen old new command reply → is_reply_to command reply ≡ true
kind_of cmp seen_key seen old new command reply a = reply_kind cmp seen old.pairs new.pairs command reply a.step a.answered

-- an answered insert: the books that were raised by its reply tally the history
pub insert_tallied : {K V A B : Type 0} (cmp : K → K → Ordering) (seen_key : K → A) (seen : V → B) (old new : Log K V) (k : K) (v : V) (answer : Result (Unit {0}) (InsertError K V)) → RecordsInsert cmp seen_key seen old new k v answer
    → (reply : Reply V) (books raised_books : Tally) → reply_of_insert answer ≡ reply → books ≡ tally old.history → raised_books ≡ raised books reply → is_refused reply ≡ false → raised_books ≡ tally new.history
insert_tallied {V} cmp seen_key seen old new k v (Ok _) records reply books raised_books e tallied rises answered =
    rises ∙ ap (λ r. raised books r) (sym e) ∙ ap (λ t. raised {V = V} t Stored) tallied ∙ sym (tally_next cmp seen_key seen old new (Insert k v) Stored records)
insert_tallied {V} cmp seen_key seen old new k v (Err (fault.Duplicate key value)) records reply books raised_books e tallied rises answered =
    rises ∙ ap (λ r. raised books r) (sym e) ∙ ap (λ t. raised {V = V} t Duplicate) tallied ∙ sym (tally_next cmp seen_key seen old new (Insert k v) Duplicate records.0)
insert_tallied cmp seen_key seen old new k v (Err (fault.OutOfMemory key value)) records reply books raised_books e tallied rises answered =
    let contradiction : true ≡ false = ap (λ r. is_refused r) e ∙ answered in
    cc

-- a refused insert changed nothing
pub insert_kept : {K V A B : Type 0} (cmp : K → K → Ordering) (seen_key : K → A) (seen : V → B) (old new : Log K V) (k : K) (v : V) (answer : Result (Unit {0}) (InsertError K V)) → RecordsInsert cmp seen_key seen old new k v answer → is_refused (reply_of_insert {V = V} answer) ≡ true → new ≡ old
insert_kept cmp seen_key seen old new k v (Ok _) records e = cc
insert_kept cmp seen_key seen old new k v (Err (fault.Duplicate key value)) records e = cc
insert_kept cmp seen_key seen old new k v (Err (fault.OutOfMemory key value)) records e = records.0

-- the reply to a command of each kind
pub remove_reply : {K V : Type 0} (k : K) (r : Reply V) → is_reply_to (Remove k) r ≡ true → r ≡ Removed (is_removed r)
remove_reply k Stored e = cc
remove_reply k Duplicate e = cc
remove_reply k (Removed was) e = refl
remove_reply k Done e = cc
remove_reply k (Found found) e = cc
remove_reply k Refused e = cc

pub range_reply : {K V : Type 0} (low high : Bound K) (r : Reply V) → is_reply_to (RemoveRange low high) r ≡ true → r ≡ Done
range_reply low high Stored e = cc
range_reply low high Duplicate e = cc
range_reply low high (Removed was) e = cc
range_reply low high Done e = refl
range_reply low high (Found found) e = cc
range_reply low high Refused e = cc

pub clear_reply : (K : Type 0) {V : Type 0} (r : Reply V) → is_reply_to {K = K} Clear r ≡ true → r ≡ Done
clear_reply K Stored e = cc
clear_reply K Duplicate e = cc
clear_reply K (Removed was) e = cc
clear_reply K Done e = refl
clear_reply K (Found found) e = cc
clear_reply K Refused e = cc

pub peek_reply : {K V : Type 0} (k : K) (r : Reply V) → is_reply_to (Peek k) r ≡ true → r ≡ Found (found_value r)
peek_reply k Stored e = cc
peek_reply k Duplicate e = cc
peek_reply k (Removed was) e = cc
peek_reply k Done e = cc
peek_reply k (Found found) e = refl
peek_reply k Refused e = cc
