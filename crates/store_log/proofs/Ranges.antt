-- Ranges of a file that a crash may have torn.
use Rattle.std.proofs.Common.{◌≡◌, ℕ, ◌+◌, ◌-◌, ◌<◌, ◌≤◌, List, ◌++◌, length, length-drop, take, drop, slice_index, sym, ◌∙◌, ap, arith, take-append-drop}
use Rattle.std.proofs.lemmas.List.{drop-drop, ext_get_or, get_or-take, get_or-drop, length-take-le}
use Rattle.sqlite_disk.specs.Disk.{Holds, Torn}

pub torn_front : (at n : ℕ) (old new : List ℕ) → Torn at n old new → at ≤ length old → take at new ≡ take at old
torn_front at n old new torn le =
    let a : length (take at new) ≡ at = length-take-le at new (omega (arith, torn.no_shorter)) in
    let b : length (take at old) ≡ at = length-take-le at old le in
    ext_get_or 0 (take at new) (take at old) (a ∙ sym b)
    (λ i lt. get_or-take at new i 0 (omega (arith, a)) ∙ torn.below i (omega (arith, a)) (omega (arith, a)) ∙ sym (get_or-take at old i 0 (omega (arith, a))))

pub torn_back : (at n : ℕ) (old new : List ℕ) → Torn at n old new → at + n ≤ length old → drop (at + n) new ≡ drop (at + n) old
torn_back at n old new torn le =
    let a : length (drop (at + n) new) ≡ length new - (at + n) = length-drop (at + n) new in
    let b : length (drop (at + n) old) ≡ length old - (at + n) = length-drop (at + n) old in
    let same : length new ≡ length old = omega (arith, torn.no_shorter, torn.no_longer) in
    ext_get_or 0 (drop (at + n) new) (drop (at + n) old) (a ∙ ap (λ k. k - (at + n)) same ∙ sym b)
    (λ i lt. get_or-drop (at + n) new i 0 ∙ torn.above (at + n + i) (omega (arith, a, same)) (omega arith) ∙ sym (get_or-drop (at + n) old i 0))

-- the bytes of a range
abbrev pub part : List ℕ → ℕ → ℕ → List ℕ
part file at n = take n (drop at file)

pub length-part : (file : List ℕ) (at n : ℕ) → at + n ≤ length file → length (part file at n) ≡ n
length-part file at n le = length-take-le n (drop at file) (omega (arith, length-drop at file))

pub part_index : (file : List ℕ) (at n i : ℕ) → i < n → slice_index (part file at n) i ≡ slice_index file (at + i)
part_index file at n i lt = get_or-take n (drop at file) i 0 lt ∙ get_or-drop at file i 0

pub held_part : (file : List ℕ) (at : ℕ) (bytes : List ℕ) → Holds file at bytes → part file at (length bytes) ≡ bytes
held_part file at bytes holds =
    let long = length-part file at (length bytes) holds.within in
    ext_get_or 0 (part file at (length bytes)) bytes long (λ i lt. part_index file at (length bytes) i (omega (arith, long)) ∙ holds.each i (omega (arith, long)))

-- a file in three parts
pub in_parts : (file : List ℕ) (at n : ℕ) → file ≡ take at file ++ (part file at n ++ drop (at + n) file)
in_parts file at n =
    sym (take-append-drop at file) ∙ ap (λ (l : List ℕ). take at file ++ l) (sym (take-append-drop n (drop at file)) ∙ ap (λ (l : List ℕ). part file at n ++ l) (drop-drop n at file))
