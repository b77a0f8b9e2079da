-- The effect of bytes that are read: answers that are written, and a line that is begun.
use Rattle.std.specs.Prelude.{◌≡◌, ◌≢◌, ⊤, ℕ, List, [], ◌∷◌, ◌++◌, Option, Some, None, Result, Ok, Err, reverse, codes, decimal}
use Rattle.std.specs.List.{AllByRecursion}
use Rattle.std.specs.Io.KnownBytes.{Appends}
use Rattle.tree_index.specs.Index.{Index}
use Rattle.tree_lines.specs.declared.requests.Request.{Request}
use Rattle.tree_lines.specs.declared.requests.Request.TheVariants.{Depth, Spare}
use Rattle.tree_lines.specs.declared.answers.Answer.{Answer}
use Rattle.tree_lines.specs.declared.answers.Answer.TheVariants.{Done, Duplicate, Refused, Missing, Truth, Unknown, Value, Ascending, Descending, Near}
use Rattle.tree_lines.specs.Spelling.{IsLine, with_feed, text_of, HasLines, last_line, clip}
use Rattle.tree_lines.specs.Lines.{Script, Says, Answers, truth, pairs_text, inside, near_text}
use Rattle.tree_lines.specs.Writing.{IsFront}

-- the text of an answer, by the pairs of the index that gave it
abbrev pub answer_text : List (ℕ × ℕ) → Answer → List ℕ
answer_text pairs Done = codes "ok"
answer_text pairs Duplicate = codes "duplicate"
answer_text pairs Refused = codes "refused"
answer_text pairs Missing = codes "none"
answer_text pairs (Truth answer) = truth answer
answer_text pairs Unknown = codes "?"
answer_text pairs (Value n) = decimal n
answer_text pairs (Ascending low high) = pairs_text (inside low high pairs)
answer_text pairs Descending = pairs_text (reverse pairs)
answer_text pairs (Near key) = near_text pairs key

-- A depth and a spare that are answered are those of the index.
abbrev pub MeasuresIndex : Index ℕ ℕ → Option Request → List ℕ → Type 0
MeasuresIndex index (Some Depth) answer = answer ≡ decimal index.depth
MeasuresIndex index (Some Spare) answer = answer ≡ decimal index.spare
MeasuresIndex index request answer = ⊤

-- A line has ended: a line feed follows it, or it is not empty and the text ends there.
abbrev pub EndsLine : Type 0 → List ℕ → List ℕ → Type 0
EndsLine at_end line [] = at_end × (line ≢ [])
EndsLine at_end line (b ∷ after) = b ≡ 10

-- over an index of `LEN` pairs a leaf
module _ (LEN : ℕ) where
  -- The answer to a request; `None` stands for a line that is not a request.
  abbrev pub Responds : List (ℕ × ℕ) → Option Request → List ℕ → List (ℕ × ℕ) → Type 0
  Responds old (Some request) answer new = Answers LEN old request answer new
  Responds old None answer new = (answer ≡ codes "?") × (new ≡ old)

  -- A line is begun with `begun`. The bytes after it end some lines, which are answered, and begin the next.
  pub record Carried (begun : List ℕ) (old : List (ℕ × ℕ)) (bytes written : List ℕ) (line : Option (List ℕ)) (new : List (ℕ × ℕ)) : Type 0 where
    pub ended : List (List ℕ)
    pub rest : List ℕ
    pub answers : List (List ℕ)
    pub lines : HasLines (begun ++ bytes) ended rest
    pub kept : line ≡ clip rest
    pub wrote : written ≡ text_of answers
    pub script : Script LEN old ended answers new

  -- the same for every begun line of which `before` is kept
  abbrev pub Carries : Option (List ℕ) → List (ℕ × ℕ) → List ℕ → List ℕ → Option (List ℕ) → List (ℕ × ℕ) → Type 0
  Carries before old bytes written line new = (begun : List ℕ) → IsLine begun → before ≡ clip begun → Carried begun old bytes written line new

  -- The answer to a line was written in part or not at all. Its request was applied, and the lines before it were answered.
  pub record BrokeOff (at_end : Type 0) (text : List ℕ) (old : List (ℕ × ℕ)) (written : List ℕ) (new : List (ℕ × ℕ)) : Type 0 where
    pub front : List (List ℕ)
    pub line : List ℕ
    pub after : List ℕ
    pub answers : List (List ℕ)
    pub answer : List ℕ
    pub part : List ℕ
    pub text_is : text ≡ text_of front ++ line ++ after
    pub each : AllByRecursion IsLine front
    pub is_line : IsLine line
    pub is_whole : EndsLine at_end line after
    pub script : Script LEN old (front ++ line ∷ []) (answers ++ answer ∷ []) new
    pub wrote : written ≡ text_of answers ++ part
    pub broken : IsFront part (with_feed answer)

  -- the same for every begun line of which `before` is kept, before the text ends
  abbrev pub Breaks : Option (List ℕ) → List (ℕ × ℕ) → List ℕ → List ℕ → List (ℕ × ℕ) → Type 0
  Breaks before old bytes written new = (begun : List ℕ) → IsLine begun → before ≡ clip begun → BrokeOff ⊥ (begun ++ bytes) old written new

  -- After `Ok` all bytes were taken; after `Err` the answer to one of their lines broke off.
  abbrev pub Feeds : {T E : Type 0} → Option (List ℕ) → List (ℕ × ℕ) → List ℕ → Option (List ℕ) → List (ℕ × ℕ) → Option (List ℕ) → Option (List ℕ) → Result T E → Type 0
  Feeds before old bytes line new contents contents' (Ok _) = (written : List ℕ) × Appends contents contents' written × Carries before old bytes written line new
  Feeds before old bytes line new contents contents' (Err _) = (written : List ℕ) × Appends contents contents' written × Breaks before old bytes written new

  -- The input ended, and with it the begun line. Unless it is empty, it was answered or its answer broke off.
  abbrev pub EndsInput : {T E : Type 0} → Option (List ℕ) → List (ℕ × ℕ) → List (ℕ × ℕ) → Option (List ℕ) → Option (List ℕ) → Result T E → Type 0
  EndsInput line old new contents contents' (Ok _) =
      (begun : List ℕ) → line ≡ clip begun → (answers : List (List ℕ)) × Appends contents contents' (text_of answers) × Script LEN old (last_line begun) answers new
  EndsInput line old new contents contents' (Err _) =
      (begun : List ℕ) → line ≡ clip begun → (answer part : List ℕ) × Appends contents contents' part × (begun ≢ []) × Says LEN old begun answer new × IsFront part (with_feed answer)
