-- How a loop writes keys one after another, and an entry for each.
use Rattle.std.proofs.Common.{◌≡◌, ℕ, ◌+◌, ◌-◌, ◌<◌, ◌≤◌, List, [], ◌∷◌, ◌++◌, length, map, take, drop, refl, sym, ap, ◌∙◌, append_assoc, append-nil, arith, inl, inr, Err, drop-drop, length-append}
use Rattle.tree_model.proofs.Common.{flat_map-append, nil_from_length}
use Rattle.std.proofs.Math.Seq.{drop-append-add, take-append_seam}
use Rattle.tree_index_c.specs.declared.entry.Entry.{Entry}
use Rattle.tree_index_c.specs.Entries.{FillsBytes, FillsEntries, entry_of, joined}
use Rattle.tree_index_c.specs.Pairs.{Fills}
use Rattle.tree_index_c.proofs.Filled.{Filling}

module _ (all : List (List ℕ × ℕ)) (before : List ℕ) where
  -- The keys of the first `at` pairs are written, and take this many places.
  pub record Joining (at used : ℕ) (now : List ℕ) : Type 0 where
    pub keys : now ≡ joined (take at all) ++ drop used before
    pub counted : length (joined (take at all)) ≡ used
    pub within : used ≤ length before

  pub joining_none : Joining 0 0 before
  joining_none = record { keys = refl; counted = refl; within = omega arith }

  module _ (entries_before : List Entry) (at used : ℕ) (now : List ℕ) (entries : List Entry) (was : Joining at used now) where
    module _ (pair : List ℕ × ℕ) (rest : List (List ℕ × ℕ)) (filling : Filling entry_of all entries_before at entries (pair ∷ rest)) where
      first : filling.given ≡ take at all
      first = sym (take-append_seam filling.given (pair ∷ rest)) ∙ ap (λ n. take n (filling.given ++ pair ∷ rest)) filling.counted ∙ ap (take at) filling.parts

      one_more : take (at + 1) all ≡ take at all ++ pair ∷ []
      one_more =
          let long : length (filling.given ++ pair ∷ []) ≡ at + 1 = length-append filling.given (pair ∷ []) ∙ ap (λ n. n + 1) filling.counted in
          ap (take (at + 1)) (sym filling.parts ∙ sym (append_assoc filling.given (pair ∷ []) rest)) ∙ ap (λ n. take n ((filling.given ++ pair ∷ []) ++ rest)) (sym long)
          ∙ take-append_seam (filling.given ++ pair ∷ []) rest ∙ ap (λ xs. xs ++ pair ∷ []) first

      pub joined_more : joined (take (at + 1) all) ≡ joined (take at all) ++ pair.0
      joined_more = ap joined one_more ∙ flat_map-append (λ p. p.0) (take at all) (pair ∷ []) ∙ ap (λ xs. joined (take at all) ++ xs) (append-nil pair.0)

      long_more : length (joined (take (at + 1) all)) ≡ used + length pair.0
      long_more = ap length joined_more ∙ length-append (joined (take at all)) pair.0 ∙ ap (λ n. n + length pair.0) was.counted

      module _ (length_now : length now ≡ length before) (bytes : List ℕ) (is : bytes ≡ pair.0) (new : List ℕ) where
        pub joining_more : length bytes ≤ length now - used → new ≡ take used now ++ bytes ++ drop (used + length bytes) now → Joining (at + 1) (used + length bytes) new
        joining_more room written = record {
          keys = written ∙ ap (λ xs. xs ++ bytes ++ drop (used + length bytes) now) front ∙ ap (λ xs. joined (take at all) ++ bytes ++ xs) back
              ∙ ap (λ xs. joined (take at all) ++ xs ++ drop (used + length bytes) before) is ∙ ap (λ xs. xs ++ drop (used + length bytes) before) (sym joined_more);
          counted = long_more ∙ ap (λ xs. used + length xs) (sym is);
          within = omega (arith, room, length_now, was.within);
        }
          where
            front : take used now ≡ joined (take at all)
            front = ap (take used) was.keys ∙ ap (λ n. take n (joined (take at all) ++ drop used before)) (sym was.counted) ∙ take-append_seam (joined (take at all)) (drop used before)

            back : drop (used + length bytes) now ≡ drop (used + length bytes) before
            back =
                ap (drop (used + length bytes)) was.keys ∙ ap (λ n. drop (n + length bytes) (joined (take at all) ++ drop used before)) (sym was.counted)
                ∙ drop-append-add (joined (take at all)) (drop used before) (length bytes) ∙ drop-drop (length bytes) used before

        -- the next key has no room
        pub stops_short : (0 < at) → length now - used < length bytes → new ≡ now → FillsEntries all before new entries_before entries at
        stops_short some none same = record {
          entries = filling.places ∙ ap (λ xs. map entry_of xs ++ drop at entries_before) first;
          keys = same ∙ was.keys ∙ ap (λ n. joined (take at all) ++ drop n before) (sym was.counted);
          stops = inr (some, omega (arith, none, length_now, was.within, long_more, ap length is));
        }

        -- even the first key has no room
        pub stops_at_once : at ≡ 0 → length now - used < length bytes → new ≡ now → FillsBytes all before new entries_before entries (Err (length bytes))
        stops_at_once zero none same =
            let nothing : used ≡ 0 = sym was.counted ∙ ap (λ n. length (joined (take n all))) zero in
            let given : filling.given ≡ [] = nil_from_length filling.given (filling.counted ∙ zero) in
            let parts : pair ∷ rest ≡ all = ap (λ xs. xs ++ pair ∷ rest) (sym given) ∙ filling.parts in (
              ap (λ xs. map (λ p. length p.0) (take 1 xs)) (sym parts) ∙ ap (λ xs. length xs ∷ []) (sym is),
              omega (arith, none, length_now, nothing),
              same ∙ was.keys ∙ ap (λ n. joined (take n all) ++ drop used before) zero ∙ ap (λ n. drop n before) nothing,
              filling.places ∙ ap (λ xs. map entry_of xs ++ drop at entries_before) given ∙ ap (λ n. drop n entries_before) zero,
            )

    -- no more pairs, or no more entries
    pub stops_full : (count : ℕ) → at ≡ count → Fills entry_of all entries_before count entries → FillsEntries all before now entries_before entries count
    stops_full count is fills = record {
      entries = fills.filled;
      keys = was.keys ∙ ap (λ n. joined (take at all) ++ drop n before) (sym was.counted) ∙ ap (λ n. joined (take n all) ++ drop (length (joined (take n all))) before) is;
      stops = inl fills.count;
    }
