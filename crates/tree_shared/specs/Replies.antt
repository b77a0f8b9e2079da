-- Which replies are to which commands.
use Rattle.std.specs.Prelude.{Bool, true, false}
use Rattle.tree_model.specs.declared.commands.Command.{Command}
use Rattle.tree_model.specs.declared.commands.Command.TheVariants.{Insert, Upsert, Remove, RemoveRange, Clear, Peek}
use Rattle.tree_model.specs.declared.commands.Reply.{Reply}
use Rattle.tree_model.specs.declared.commands.Reply.TheVariants.{Stored, Duplicate, Removed, Done, Found}

-- the reply is of the command's kind, and no refusal
abbrev pub is_reply_to : {K V : Type 0} → Command K V → Reply V → Bool
is_reply_to (Insert k v) Stored = true
is_reply_to (Insert k v) Duplicate = true
is_reply_to (Insert k v) _ = false
is_reply_to (Upsert k v) Stored = true
is_reply_to (Upsert k v) _ = false
is_reply_to (Remove k) (Removed was) = true
is_reply_to (Remove k) _ = false
is_reply_to (RemoveRange low high) Done = true
is_reply_to (RemoveRange low high) _ = false
is_reply_to Clear Done = true
is_reply_to Clear _ = false
is_reply_to (Peek k) (Found found) = true
is_reply_to (Peek k) _ = false
