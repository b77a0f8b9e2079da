-- Numbers that a word writes.
use Rattle.std.proofs.Common.{◌≡◌, ℕ, zero, suc, ◌<◌, ◌≤◌, ◌^◌, List, [], ◌∷◌, length, Ok, refl, sym, ap, ◌∙◌, rules, arith, decimal}
use Rattle.std.specs.declared.ops.Bound.{Bound}
use Rattle.std.specs.declared.ops.Bound.TheVariants.{Included, Excluded, Unbounded}
use Rattle.std.specs.Str.Parse.{AllDigits, ParsesUnsigned, digits_value}
use Rattle.std.proofs.lemmas.Fmt.{decimal_is_IsNumeral, decimal_digit, first_decimal, length-decimal-le, decimal-digits_value}
use Rattle.std.proofs.lemmas.Str.Parse.{IsNumeralModel, numerals_by_value, tells_digits, parse_plain, digit_from_value}
use Rattle.tree_lines.specs.Spelling.{FitsBound, bound_text}
use Rattle.tree_lines.specs.Words.{IsWord, IsPlain}

-- digits contain no space
IsWord-digits : (ds : List ℕ) → AllDigits 10 ds → IsWord ds
IsWord-digits [] h = tt
IsWord-digits (d ∷ ds) h = ((λ same. let digit = digit_from_value d h.0 in omega (arith, digit, same)), IsWord-digits ds h.1)

-- a number is a word
pub IsWord-decimal : (n : ℕ) → n < 2 ^ 64 → IsWord (decimal n)
IsWord-decimal n small = IsWord-digits (decimal n) (decimal_is_IsNumeral n small).0.1

-- and so is a bound
pub IsWord-bound : (bound : Bound ℕ) → FitsBound bound → IsWord (bound_text bound)
IsWord-bound (Included n) small = (search rules, IsWord-decimal n small)
IsWord-bound (Excluded n) small = (search rules, IsWord-decimal n small)
IsWord-bound Unbounded small = search rules

-- a number has no sign and no leading zero
plain_by : (n : ℕ) → n < 2 ^ 64 → (ds : List ℕ) → ds ≡ decimal n → IsPlain ds
plain_by zero small ds e = rw (e, decimal_digit 0 (omega arith)) ((λ same. omega (arith, same)), (λ same. refl))
plain_by (suc n) small ds e =
    let first = first_decimal (suc n) (omega arith) small in
    rw e ((λ same. omega (arith, same, first)), (λ same. absurd (omega (arith, same, first))))

pub IsPlain-decimal : (n : ℕ) → n < 2 ^ 64 → IsPlain (decimal n)
IsPlain-decimal n small = plain_by n small (decimal n) refl

-- the digits of a parsed text
digits_seen : IsNumeralModel (AllDigits 10) (digits_value 10)
digits_seen = numerals_by_value _ tells_digits

-- a plain word that parses as a number spells that number
pub number_read : (E : Type 0) (word : List ℕ) (n : ℕ) → IsPlain word → ParsesUnsigned {E = E} 64 10 word (Ok n) → (n < 2 ^ 64) × (word ≡ decimal n)
number_read E word n plain parses =
    let read = parse_plain digits_seen {E = E} 64 word (Ok n) parses plain.0 in
    (rw read.1 read.0.2, sym (ap decimal read.1 ∙ decimal-digits_value digits_seen word read.0.0 read.0.1 plain.1 read.0.2))

-- a number has at most twenty digits
pub length-decimal : (n : ℕ) → n < 2 ^ 64 → length (decimal n) ≤ 20
length-decimal n small = length-decimal-le 20 n (omega arith) (omega arith) small
