-- The upper bound of the texts that begin with a text.
use Rattle.std.specs.Prelude.{ℕ, ◌+◌, List, [], ◌∷◌, if◌then◌else◌, nat_eq}
use Rattle.std.specs.Range.Bound.{bound_map}
use Rattle.std.specs.Str.{chars, encode_utf8_all}
use Rattle.std.specs.declared.ops.Bound.{Bound}
use Rattle.std.specs.declared.ops.Bound.TheVariants.{Included, Excluded, Unbounded}

-- the character after c, if c isn't the last one: U+E000 follows U+D7FF
abbrev pub next_char : ℕ → ℕ
next_char c = if nat_eq c 0xD7FF then 0xE000 else c + 1

-- the upper bound with one more character in front: if there is none yet, that character gives way to the next one, unless it is the last
abbrev pub raised_char : ℕ → Bound (List ℕ) → Bound (List ℕ)
raised_char c (Included end) = Included (c ∷ end)
raised_char c (Excluded end) = Excluded (c ∷ end)
raised_char c Unbounded = if nat_eq c 0x10FFFF then Unbounded else Excluded (next_char c ∷ [])

-- the characters of the least text that is larger than all that begin with these characters
unfoldable pub chars_end : List ℕ → Bound (List ℕ)
chars_end [] = Unbounded
chars_end (c ∷ cs) = raised_char c (chars_end cs)

-- that text
abbrev pub text_end : List ℕ → Bound (List ℕ)
text_end prefix = bound_map encode_utf8_all (chars_end (chars prefix))
