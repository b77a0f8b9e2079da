-- The bounds of a prefix that is a text.
use Rattle.std.proofs.Common.{◌≡◌, ◌≢◌, ℕ, ◌<◌, ◌≤◌, true, List, [], ◌∷◌, ◌++◌, length, inl, inr, ◌⊎◌, refl, sym, ◌∙◌, ap, arith, append_assoc, nat_cmp}
use Rattle.std.proofs.lemmas.Bool.{cases_eq, cases_Bool}
use Rattle.std.proofs.lemmas.Bool.Decides.{nat_tests, eqb_tells}
use Rattle.std.proofs.lemmas.List.{append-nil}
use Rattle.std.proofs.lemmas.Str.{chars-nil, chars-append, chars-encodes, encodes-chars, encodes-append, scalars-chars, encode_same}
use Rattle.std.proofs.Math.Utf8.{scalar, scalars, encode, encodes, scalar_cases}
use Rattle.std.specs.Cmp.{first_so, second_so}
use Rattle.std.specs.Cmp.Lexicographic.{slice_cmp}
use Rattle.std.specs.List.{starts_with}
use Rattle.std.specs.Prelude.{nat_eq, IsTrue}
use Rattle.std.specs.Str.{IsUtf8, chars}
use Rattle.tree_model.proofs.Common.{within, Bound, Included, Excluded, Unbounded, bound_map, ⊤}
use Rattle.tree_texts.specs.TextPrefix.{chars_end, raised_char, next_char, text_end}
use Rattle.tree_texts.proofs.Utf8Order.{text_cmp, some_byte, cmp_after, char_less, below_top}

-- one more character before a prefix and a text
step : (x y : ℕ) (prefix key : List ℕ) (end : Bound (List ℕ)) → (y < 55296) ⊎ ((57344 ≤ y) × (y < 1114112))
    → within (slice_cmp nat_cmp) (Included prefix) end key ≡ starts_with nat_eq key prefix
    → within (slice_cmp nat_cmp) (Included (x ∷ prefix)) (raised_char x end) (y ∷ key) ≡ starts_with nat_eq (y ∷ key) (x ∷ prefix)
step x y prefix key (Included end) is_char rest = grind (arith, nat_tests)
step x y prefix key (Excluded end) is_char rest = grind (arith, nat_tests)
step x y prefix [] Unbounded is_char rest = grind (arith, nat_tests)
step x y prefix (z ∷ key) Unbounded is_char rest = grind (arith, nat_tests)

chars_within : (prefix key : List ℕ) → scalars key ≡ true → within (slice_cmp nat_cmp) (Included prefix) (chars_end prefix) key ≡ starts_with nat_eq key prefix
unfolding chars_end
chars_within [] [] are = refl
chars_within [] (y ∷ key) are = refl
chars_within (x ∷ prefix) [] are = refl
chars_within (x ∷ prefix) (y ∷ key) are =
    step x y prefix key (chars_end prefix) (scalar_cases y (first_so (scalar y) (scalars key) are)) (chars_within prefix key (second_so (scalar y) (scalars key) are))

last_top : (front : List ℕ) → chars_end (front ++ 0x10FFFF ∷ []) ≡ chars_end front
unfolding chars_end
last_top [] = refl
last_top (c ∷ front) = ap (raised_char c) (last_top front)

last_raised : (front : List ℕ) (c : ℕ) → c ≢ 0x10FFFF → chars_end (front ++ c ∷ []) ≡ Excluded (front ++ next_char c ∷ [])
unfolding chars_end
last_raised [] c other = grind (arith, nat_tests)
last_raised (d ∷ front) c other = rw (last_raised front c other) refl

-- the characters of an end are characters
abbrev AreScalars : Bound (List ℕ) → Type 0
AreScalars (Included end) = scalars end ≡ true
AreScalars (Excluded end) = scalars end ≡ true
AreScalars Unbounded = ⊤

next_scalar : (c : ℕ) → scalar c ≡ true → c ≢ 0x10FFFF → scalar (next_char c) ≡ true
next_scalar c is other = grind (arith, nat_tests)

raised_scalars : (c : ℕ) (end : Bound (List ℕ)) → scalar c ≡ true → AreScalars end → AreScalars (raised_char c end)
raised_scalars c (Included end) is are = rw is are
raised_scalars c (Excluded end) is are = rw is are
raised_scalars c Unbounded is are =
    elim (eqb_tells c 0x10FFFF) [
      | inl top ↦ rw top.0 tt
      | inr below ↦ rw below.0 (let one : scalar (next_char c) ≡ true = next_scalar c is below.1 in rw one refl)
    ]

end_scalars : (prefix : List ℕ) → scalars prefix ≡ true → AreScalars (chars_end prefix)
unfolding chars_end
end_scalars [] are = tt
end_scalars (c ∷ prefix) are = raised_scalars c (chars_end prefix) (first_so (scalar c) (scalars prefix) are) (end_scalars prefix (second_so (scalar c) (scalars prefix) are))

-- bounds of characters, as bounds of texts
within_same : (prefix key : List ℕ) (end : Bound (List ℕ)) → scalars prefix ≡ true → scalars key ≡ true → AreScalars end
    → within (slice_cmp nat_cmp) (Included (encodes prefix)) (bound_map encodes end) (encodes key) ≡ within (slice_cmp nat_cmp) (Included prefix) end key
within_same prefix key (Included end) p k e = rw (text_cmp prefix key p k, text_cmp key end k e) refl
within_same prefix key (Excluded end) p k e = rw (text_cmp prefix key p k, text_cmp key end k e) refl
within_same prefix key Unbounded p k e = rw (text_cmp prefix key p k) refl

starts_after : (xs p k : List ℕ) → starts_with nat_eq (xs ++ k) (xs ++ p) ≡ starts_with nat_eq k p
starts_after [] p k = refl
starts_after (x ∷ xs) p k = let rest : starts_with nat_eq (xs ++ k) (xs ++ p) ≡ starts_with nat_eq k p = starts_after xs p k in grind (arith, nat_tests)

-- a list begins as its beginning does
begins : (p k : List ℕ) → starts_with nat_eq k p ≡ true → (rest : List ℕ) × (k ≡ p ++ rest)
begins [] k is = (k, refl)
begins (x ∷ p) [] is = absurd (cc)
begins (x ∷ p) (y ∷ k) is =
    let more : (rest : List ℕ) × (k ≡ p ++ rest) = begins p k (grind (arith, nat_tests)) in
    let same : y ≡ x = grind (arith, nat_tests) in
    (more.0, λ i. same i ∷ more.1 i)

starts_same : (p k : List ℕ) → starts_with nat_eq (encodes k) (encodes p) ≡ starts_with nat_eq k p
starts_same [] k = refl
starts_same (c ∷ p) [] = rw (some_byte c (encodes p)).2 refl
starts_same (c ∷ p) (d ∷ k) =
    elim (cases_eq d c) [
      | inl same ↦ rw (same, starts_after (encode c) (encodes p) (encodes k), starts_same p k) (grind (arith, nat_tests))
      | inr apart ↦ elim (cases_Bool (starts_with nat_eq (encode d ++ encodes k) (encode c ++ encodes p))) [
        | inl is ↦
            let more : (rest : List ℕ) × (encode d ++ encodes k ≡ (encode c ++ encodes p) ++ rest) = begins (encode c ++ encodes p) (encode d ++ encodes k) is in
            absurd (apart (encode_same d c (encodes k) (encodes p ++ more.0) (more.1 ∙ append_assoc (encode c) (encodes p) more.0)).0)
        | inr isnt ↦ rw isnt (grind (arith, nat_tests))
      ]
    ]

-- between a text and its end are the texts that begin with it
pub text_within : (prefix key : List ℕ) → IsUtf8 prefix → IsUtf8 key → within (slice_cmp nat_cmp) (Included prefix) (text_end prefix) key ≡ starts_with nat_eq key prefix
text_within prefix key p k =
    let as_p : encodes (chars prefix) ≡ prefix = encodes-chars prefix p in
    let as_k : encodes (chars key) ≡ key = encodes-chars key k in
    let by_chars : within (slice_cmp nat_cmp) (Included (encodes (chars prefix))) (text_end prefix) (encodes (chars key)) ≡ starts_with nat_eq (encodes (chars key)) (encodes (chars prefix))
    = within_same (chars prefix) (chars key) (chars_end (chars prefix)) (scalars-chars prefix p) (scalars-chars key k) (end_scalars (chars prefix) (scalars-chars prefix p))
    ∙ chars_within (chars prefix) (chars key) (scalars-chars key k) ∙ sym (starts_same (chars prefix) (chars key)) in
    rw (as_p, as_k) at by_chars

-- the end of a text with one more character
chars_last : (front : List ℕ) (c : ℕ) → IsUtf8 front → scalar c ≡ true → chars (front ++ encode c) ≡ chars front ++ c ∷ []
chars_last front c are is =
    let alone : chars (encode c) ≡ c ∷ [] = ap chars (sym (append-nil (encode c))) ∙ chars-encodes (c ∷ []) (rw is refl) in
    chars-append front (encode c) are ∙ ap (λ cs. chars front ++ cs) alone

pub text_end_top : (front : List ℕ) → IsUtf8 front → text_end (front ++ encode 0x10FFFF) ≡ text_end front
text_end_top front are = ap (bound_map encodes) (ap chars_end (chars_last front 0x10FFFF are refl) ∙ last_top (chars front))

pub text_end_raised : (front : List ℕ) (c : ℕ) → IsUtf8 front → scalar c ≡ true → c ≢ 0x10FFFF → text_end (front ++ encode c) ≡ Excluded (front ++ encode (next_char c))
text_end_raised front c are is other =
    let end : chars_end (chars (front ++ encode c)) ≡ Excluded (chars front ++ next_char c ∷ []) = ap chars_end (chars_last front c are is) ∙ last_raised (chars front) c other in
    let bytes : encodes (chars front ++ next_char c ∷ []) ≡ front ++ encode (next_char c)
    = encodes-append (chars front) (next_char c ∷ []) ∙ (λ i. encodes-chars front are i ++ append-nil (encode (next_char c)) i) in
    ap (bound_map encodes) end ∙ ap Excluded bytes

pub text_end_none : (text : List ℕ) → length text ≡ 0 → text_end text ≡ Unbounded
unfolding chars_end
text_end_none [] none = ap (bound_map encodes) (ap chars_end chars-nil)
text_end_none (b ∷ bs) none = absurd (omega arith)

after_char : (c : ℕ) → scalar c ≡ true → c ≢ 0x10FFFF → c < next_char c
after_char c is other = grind (arith, nat_tests)

-- one more character before a prefix and what begins with it
step_all : (c : ℕ) (cs rest : List ℕ) (end : Bound (List ℕ)) → scalar c ≡ true
    → within (slice_cmp nat_cmp) (Included (encodes cs)) (bound_map encodes end) (encodes cs ++ rest) ≡ true
    → within (slice_cmp nat_cmp) (Included (encode c ++ encodes cs)) (bound_map encodes (raised_char c end)) (encode c ++ (encodes cs ++ rest)) ≡ true
step_all c cs rest (Included end) is all = rw (cmp_after (encode c) (encodes cs) (encodes cs ++ rest), cmp_after (encode c) (encodes cs ++ rest) (encodes end)) all
step_all c cs rest (Excluded end) is all = rw (cmp_after (encode c) (encodes cs) (encodes cs ++ rest), cmp_after (encode c) (encodes cs ++ rest) (encodes end)) all
step_all c cs rest Unbounded is all =
    elim (eqb_tells c 0x10FFFF) [
      | inl top ↦ rw (top.0, cmp_after (encode c) (encodes cs) (encodes cs ++ rest)) all
      | inr below ↦
          rw (below.0, cmp_after (encode c) (encodes cs) (encodes cs ++ rest), char_less c (next_char c) (encodes cs ++ rest) [] (below_top (next_char c) (next_scalar c is below.1)) (after_char c is below.1))
          all
    ]

chars_all : (cs rest : List ℕ) → scalars cs ≡ true → within (slice_cmp nat_cmp) (Included (encodes cs)) (bound_map encodes (chars_end cs)) (encodes cs ++ rest) ≡ true
unfolding chars_end
chars_all [] [] are = refl
chars_all [] (b ∷ rest) are = refl
chars_all (c ∷ cs) rest are =
    rw (append_assoc (encode c) (encodes cs) rest)
    (step_all c cs rest (chars_end cs) (first_so (scalar c) (scalars cs) are) (chars_all cs rest (second_so (scalar c) (scalars cs) are)))

-- all that begin with a text are between it and its end
pub text_all : (prefix key : List ℕ) → IsUtf8 prefix → IsTrue (starts_with nat_eq key prefix) → IsTrue (within (slice_cmp nat_cmp) (Included prefix) (text_end prefix) key)
text_all prefix key p is =
    let more : (rest : List ℕ) × (key ≡ prefix ++ rest) = begins prefix key is in
    let as_p : encodes (chars prefix) ≡ prefix = encodes-chars prefix p in
    let every : within (slice_cmp nat_cmp) (Included (encodes (chars prefix))) (text_end prefix) (encodes (chars prefix) ++ more.0) ≡ true = chars_all (chars prefix) more.0 (scalars-chars prefix p) in
    rw more.1 (rw as_p at every)
