-- The records that store all pairs of an index.
use Rattle.std.proofs.Common.{◌≡◌, ℕ, List, [], ◌∷◌, ◌++◌, filter, map, true, if◌then◌else◌, Some, None, Option, Bor, refl, sym, ap, ◌∙◌, subst, append_assoc, append-nil, Ordering}
use Rattle.std.proofs.lemmas.List.{map-append}
use Rattle.std.proofs.lemmas.List.Sums.{fold_push}
use Rattle.store_codec.specs.Records.{ReadsBack, record_map}
use Rattle.store_codec.specs.declared.records.Record.{Record}
use Rattle.store_codec.specs.declared.records.Record.TheVariants.{Put, Remove, Cut, Clear}
use Rattle.tree_model.proofs.Common.{IsTotalOrder, Unbounded, lent_entry, HasBegun, Moves, rest, within, Cursor, fresh, IsAscending, put}
use Rattle.tree_model.proofs.Ascending.{IsAscending-cut, IsAscending-put, IsAscending-without}
use Rattle.tree_model.specs.declared.way.Way.TheVariants.{On}
use Rattle.tree_cursors.specs.Ranged.{IsFresh}
use Rattle.tree_cursors.proofs.Yields.{fresh_begun, rest_fresh, takes_first}
use Rattle.tree_index.specs.Collects.{puts}
use Rattle.tree_index.proofs.Puts.{puts_behind}
use Rattle.tree_store.specs.Changes.{Leads, Notes, ReadsRecords, Spells, changed, changed_by}
use Rattle.tree_store.specs.Store.{GoesOn}
use Rattle.tree_store.proofs.Noted.{spelled_reads, spells-append}

abbrev pub puts_of : {K V : Type 0} → List (K × V) → List (Record K V)
puts_of pairs = map (λ p. Put p.0 p.1) pairs

-- the pairs so far have their records in the text, and the cursor gives the others
pub record IsListed {K V A B : Type 0} (cmp : K → K → Ordering) (seen_key : K → A) (seen_value : V → B) (read : List ℕ → Option (Record A B × List ℕ)) (pairs : List (K × V)) (text : List ℕ) (now : Cursor K V) : Type 0 where
  pub begun : HasBegun cmp On now
  pub done : List (K × V)
  pub whole : done ++ rest cmp On now ≡ pairs
  pub spells : Spells read (map (record_map seen_key seen_value) (puts_of done)) text

module _ {K V A B : Type 0} {cmp : K → K → Ordering} (o : IsTotalOrder cmp) (seen_key : K → A) (seen_value : V → B) (read : List ℕ → Option (Record A B × List ℕ)) where
  all_open : (pairs : List (K × V)) → filter (λ pair. within cmp Unbounded Unbounded pair.0) pairs ≡ pairs
  all_open [] = refl
  all_open (pair ∷ pairs) = ap (λ t. pair ∷ t) (all_open pairs)

  pub listed_none : (pairs : List (K × V)) (text : List ℕ) → text ≡ [] → IsListed cmp seen_key seen_value read pairs text (fresh pairs Unbounded Unbounded)
  listed_none pairs text empty =
      let new : IsFresh (fresh pairs Unbounded Unbounded) = record { forward = refl; backward = refl } in
      record { begun = fresh_begun cmp (fresh pairs Unbounded Unbounded) new On; done = []; whole = rest_fresh cmp (fresh pairs Unbounded Unbounded) new On ∙ all_open pairs; spells = empty }

  module _ (pairs : List (K × V)) (text : List ℕ) (s t : Cursor K V) (was : IsListed cmp seen_key seen_value read pairs text s) where
    pub listed_more : (entry : Bor K × Bor V) → Moves cmp On s (Some entry) t → (bytes new : List ℕ) → new ≡ text ++ bytes → ReadsBack read bytes (record_map seen_key seen_value (Put (lent_entry entry).0 (lent_entry entry).1)) → IsListed cmp seen_key seen_value read pairs new t
    listed_more entry moves bytes new grown law =
        let takes = takes_first o On s t (Some entry) moves was.begun in
        let pair = lent_entry entry in
        let seen = record_map seen_key seen_value in
        let one : Spells read (seen (Put pair.0 pair.1) ∷ []) bytes = (bytes, [], sym (append-nil bytes), law, refl) in
        let both = spells-append read (map seen (puts_of was.done)) (seen (Put pair.0 pair.1) ∷ []) text bytes was.spells one in
        let records : map seen (puts_of (was.done ++ pair ∷ [])) ≡ map seen (puts_of was.done) ++ seen (Put pair.0 pair.1) ∷ [] =
        ap (map seen) (map-append (λ p. Put p.0 p.1) was.done (pair ∷ [])) ∙ map-append seen (puts_of was.done) (Put pair.0 pair.1 ∷ []) in
        record {
          begun = takes.0;
          done = was.done ++ pair ∷ [];
          whole = append_assoc was.done (pair ∷ []) (rest cmp On t) ∙ ap (λ l. was.done ++ l) (sym takes.1) ∙ was.whole;
          spells = subst (Spells read (map seen (puts_of (was.done ++ pair ∷ [])))) (sym grown) (subst (λ (l : List (Record A B)). Spells read l (text ++ bytes)) (sym records) both);
        }

    puts_are : (l more : List (K × V)) → changed_by cmp (puts_of more) l ≡ puts cmp l more
    puts_are l [] = refl
    puts_are l (p ∷ more) = puts_are (put cmp l p.0 p.1) more

    pub listed_all : Moves cmp On s None t → IsAscending cmp pairs → Notes cmp seen_key seen_value read [] text [] pairs
    listed_all moves ascending =
        let takes = takes_first o On s t None moves was.begun in
        let all : was.done ≡ pairs = sym (append-nil was.done) ∙ ap (λ l. was.done ++ l) (sym takes.1.0) ∙ was.whole in
        record {
          records = puts_of was.done;
          more = text;
          grows = refl;
          spells = was.spells;
          does = sym (puts_are [] was.done ∙ puts_behind cmp [] was.done (subst (IsAscending cmp) (sym all) ascending) ∙ all);
        }

  -- records keep a list ascending
  changed_ascends : (r : Record K V) (pairs : List (K × V)) → IsAscending cmp pairs → IsAscending cmp (changed cmp r pairs)
  changed_ascends (Put key value_) pairs ascending = IsAscending-put o pairs key value_ ascending
  changed_ascends (Remove key) pairs ascending = IsAscending-without o pairs key ascending
  changed_ascends (Cut low high) pairs ascending = IsAscending-cut cmp pairs low high ascending
  changed_ascends Clear pairs ascending = tt

  pub changes_ascend : (records : List (Record K V)) (pairs : List (K × V)) → IsAscending cmp pairs → IsAscending cmp (changed_by cmp records pairs)
  changes_ascend [] pairs ascending = ascending
  changes_ascend (r ∷ records) pairs ascending = changes_ascend records (changed cmp r pairs) (changed_ascends r pairs ascending)

  leads_ascend : (texts : List (List ℕ)) (old new : List (K × V)) → IsAscending cmp old → Leads cmp seen_key seen_value read texts old new → IsAscending cmp new
  leads_ascend [] old new ascending leads = subst (IsAscending cmp) (sym leads) ascending
  leads_ascend (text ∷ texts) old new ascending leads = leads_ascend texts (changed_by cmp leads.0 old) new (changes_ascend leads.0 old ascending) leads.2

  pub goes_on_ascends : (texts : List (List ℕ)) (batch : List ℕ) (pairs : List (K × V)) → GoesOn cmp seen_key seen_value read texts batch pairs → IsAscending cmp pairs
  goes_on_ascends texts batch pairs g = subst (IsAscending cmp) (sym g.now) (changes_ascend g.records g.durable (leads_ascend texts [] g.durable tt g.leads))

  -- one text of records leads to the pairs
  pub noted_leads : (text : List ℕ) (pairs : List (K × V)) → Notes cmp seen_key seen_value read [] text [] pairs → Leads cmp seen_key seen_value read (text ∷ []) [] pairs
  noted_leads text pairs n =
      (n.records, subst (ReadsRecords read (map (record_map seen_key seen_value) n.records)) (sym n.grows) (spelled_reads read (map (record_map seen_key seen_value) n.records) n.more n.spells), n.does)
