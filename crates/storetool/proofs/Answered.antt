-- Answers to lines.
use Rattle.std.proofs.Common.{◌≡◌, ℕ, Bool, true, false, if◌then◌else◌, List, [], length, nat_le, Option, Some, None, inl, inr, refl, sym, ap, ◌∙◌}
use Rattle.tree_lines.specs.declared.requests.Request.{Request}
use Rattle.tree_lines.specs.Spelling.{Fits, clip, spelling}
use Rattle.tree_lines.specs.Words.{ReadsAs}
use Rattle.tree_lines.proofs.Spellings.{long_no_request}
use Rattle.storetool.specs.Answers.{Responds, Says}

-- a line that is kept is kept whole
kept_whole : (b : Bool) (begun text : List ℕ) → Some text ≡ (if b then Some begun else None) → text ≡ begun
kept_whole true begun text e = cc
kept_whole false begun text e = absurd (cc)

-- what is read in a line that is kept is what is read in the line
pub reads_kept : (begun text : List ℕ) (request : Option Request) → Some text ≡ clip begun → ReadsAs Fits spelling text request → ReadsAs Fits spelling begun request
reads_kept begun text request kept reads = rw (sym (kept_whole (nat_le (length begun) 256) begun text kept)) reads

-- a line that is not kept is no request
pub reads_long : (begun : List ℕ) → None ≡ clip begun → ReadsAs Fits spelling begun None
reads_long begun kept = long_no_request begun (sym kept)

-- the answer to what is read in a line is the answer to the line
pub says_read : (old new : List (ℕ × ℕ)) (line answer : List ℕ) (request : Option Request) → ReadsAs Fits spelling line request → Responds old request answer new → Says old line answer new
says_read old new line answer (Some request) reads responds = inl (request, reads.0, reads.1, responds)
says_read old new line answer None reads responds = inr (reads, responds.0, responds.1)
