-- The bounds of a prefix.
use Rattle.std.proofs.Common.{◌≡◌, ℕ, zero, suc, ◌+◌, ◌<◌, List, [], ◌∷◌, ◌++◌, length, take, get_or, refl, arith, nat_cmp}
use Rattle.std.proofs.lemmas.Bool.Decides.{nat_tests}
use Rattle.std.specs.Prelude.{nat_eq, IsTrue}
use Rattle.std.specs.List.{starts_with}
use Rattle.std.specs.Cmp.Lexicographic.{slice_cmp}
use Rattle.tree_model.proofs.Common.{within, Bound, Included, Excluded, Unbounded}
use Rattle.tree_texts.specs.Head.{AreBytes}
use Rattle.tree_texts.specs.Prefix.{end_of, raised}

-- a list of bytes of 255 alone has no end
pub end_none : (prefix : List ℕ) → ((i : ℕ) → i < length prefix → get_or prefix i 0 ≡ 255) → end_of prefix ≡ Unbounded
unfolding end_of
end_none [] all = refl
end_none (byte ∷ bytes) all =
    let first : byte ≡ 255 = all 0 (omega arith) in
    let rest : end_of bytes ≡ Unbounded = end_none bytes (λ i lt. all (suc i) (omega arith)) in
    rw rest (grind (arith, nat_tests))

pub end_raised : (at : ℕ) (prefix : List ℕ) → at < length prefix → get_or prefix at 0 < 255 → ((i : ℕ) → at < i → i < length prefix → get_or prefix i 0 ≡ 255) → end_of prefix ≡ Excluded (take at prefix ++ (get_or prefix at 0 + 1) ∷ [])
unfolding end_of
end_raised at [] within below all = absurd (omega arith)
end_raised zero (byte ∷ bytes) within below all =
    let rest : end_of bytes ≡ Unbounded = end_none bytes (λ i lt. all (suc i) (omega arith) (omega arith)) in
    rw rest (grind (arith, nat_tests))
end_raised (suc at) (byte ∷ bytes) within below all =
    let rest : end_of bytes ≡ Excluded (take at bytes ++ (get_or bytes at 0 + 1) ∷ []) = end_raised at bytes (omega arith) below (λ i gt lt. all (suc i) (omega arith) (omega arith)) in
    rw rest refl

-- one more byte before a prefix and a key
step : (x y : ℕ) (prefix key : List ℕ) (end : Bound (List ℕ)) → y < 256
    → within (slice_cmp nat_cmp) (Included prefix) end key ≡ starts_with nat_eq key prefix
    → within (slice_cmp nat_cmp) (Included (x ∷ prefix)) (raised x end) (y ∷ key) ≡ starts_with nat_eq (y ∷ key) (x ∷ prefix)
step x y prefix key (Included end) byte rest = grind (arith, nat_tests)
step x y prefix key (Excluded end) byte rest = grind (arith, nat_tests)
step x y prefix [] Unbounded byte rest = grind (arith, nat_tests)
step x y prefix (z ∷ key) Unbounded byte rest = grind (arith, nat_tests)

-- between the prefix and its end are those that begin with it
pub prefix_within : (prefix key : List ℕ) → AreBytes key → within (slice_cmp nat_cmp) (Included prefix) (end_of prefix) key ≡ starts_with nat_eq key prefix
unfolding end_of
prefix_within [] [] bytes = refl
prefix_within [] (y ∷ key) bytes = refl
prefix_within (x ∷ prefix) [] bytes = refl
prefix_within (x ∷ prefix) (y ∷ key) bytes = step x y prefix key (end_of prefix) (bytes 0) (prefix_within prefix key (λ i. bytes (suc i)))

-- one more byte before a prefix and a key that begins with it
step_all : (x y : ℕ) (prefix key : List ℕ) (end : Bound (List ℕ))
    → (IsTrue (starts_with nat_eq key prefix) → IsTrue (within (slice_cmp nat_cmp) (Included prefix) end key))
    → IsTrue (starts_with nat_eq (y ∷ key) (x ∷ prefix)) → IsTrue (within (slice_cmp nat_cmp) (Included (x ∷ prefix)) (raised x end) (y ∷ key))
step_all x y prefix key (Included end) rest is = grind (arith, nat_tests)
step_all x y prefix key (Excluded end) rest is = grind (arith, nat_tests)
step_all x y prefix key Unbounded rest is = grind (arith, nat_tests)

-- all that begin with the prefix are between it and its end
pub prefix_all : (prefix key : List ℕ) → IsTrue (starts_with nat_eq key prefix) → IsTrue (within (slice_cmp nat_cmp) (Included prefix) (end_of prefix) key)
unfolding end_of
prefix_all [] [] is = refl
prefix_all [] (y ∷ key) is = refl
prefix_all (x ∷ prefix) [] is = is
prefix_all (x ∷ prefix) (y ∷ key) is = step_all x y prefix key (end_of prefix) (prefix_all prefix key) is
