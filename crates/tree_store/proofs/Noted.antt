-- Records behind a batch, and the texts that they become.
use Rattle.std.proofs.Common.{◌≡◌, ℕ, List, [], ◌∷◌, ◌++◌, length, map, take, Option, Some, None, refl, sym, ◌∙◌, ap, subst, arith, append_assoc}
use Rattle.std.proofs.lemmas.List.{append-nil, map-append, take_at}
use Rattle.std.specs.declared.cmp.Ordering.{Ordering}
use Rattle.std.specs.Prelude.{Result, Ok, Err, OnErr}
use Rattle.std.specs.Range.Bound.{bound_map}
use Rattle.std.specs.declared.ops.Bound.{Bound}
use Rattle.std.specs.declared.ops.Bound.TheVariants.{Included, Excluded, Unbounded}
use Rattle.store_codec.specs.Records.{ReadsBack, bound_at, record_at, record_map}
use Rattle.store_codec.specs.declared.records.Record.{Record}
use Rattle.store_codec.specs.declared.records.Record.TheVariants.{Remove, Cut}
use Rattle.tree_model.specs.Edits.{Inserts}
use Rattle.tree_model.specs.declared.commands.InsertError.{InsertError}
use Rattle.tree_model.specs.declared.commands.InsertError.TheVariants.{Duplicate, OutOfMemory}
use Rattle.tree_store.specs.Changes.{changed, changed_by, HaveRecords, InsertsOrRefuses, Leads, Notes, ReadsRecords, Spells}
use Rattle.tree_store.specs.Store.{GoesOn}

-- a batch that was cut back is what it was
pub cut_back : (old front new kept : List ℕ) (n : ℕ) → new ≡ old ++ front → n ≡ length old → kept ≡ take n new → kept ≡ old
cut_back old front new kept n grown mark cut = cut ∙ ap (λ (l : List ℕ). take n l) grown ∙ take_at old front n (omega (arith, mark))

-- what an insert into an index did, as one that may fail for any key
module _ {K V T : Type 0} (cmp : K → K → Ordering) (old new : List (K × V)) (k : K) (v : V) where
  pub insert_kept : (r : Result T (InsertError K V)) → Inserts cmp old k v r new → OnErr r (new ≡ old)
  insert_kept (Ok x) i = search
  insert_kept (Err (Duplicate key value)) i = i.3
  insert_kept (Err (OutOfMemory key value)) i = i.3

  pub insert_or_refuse : (r : Result T (InsertError K V)) → Inserts cmp old k v r new → InsertsOrRefuses cmp old k v r new
  insert_or_refuse (Ok x) i = i
  insert_or_refuse (Err (Duplicate key value)) i = i
  insert_or_refuse (Err (OutOfMemory key value)) i = (i.1, i.2, i.3)

-- the record of a cut is found as its bounds are
pub cut_reads : {K V : Type 0} (key_at : List ℕ → Option (K × List ℕ)) (value_at : List ℕ → Option (V × List ℕ)) (low high : Bound K) (l h : List ℕ) → ReadsBack (bound_at key_at) l low → ReadsBack (bound_at key_at) h high → ReadsBack (record_at key_at value_at) (3 ∷ l ++ h) (Cut low high)
cut_reads key_at value_at low high l h low_law high_law rest = rw (append_assoc l h rest, low_law (h ++ rest), high_law rest) refl

bound_map_twice : {K A R : Type 0} (now : R → K) (seen_key : K → A) (bound : Bound R) → bound_map (λ x. seen_key (now x)) bound ≡ bound_map seen_key (bound_map now bound)
bound_map_twice now seen_key (Included x) = refl
bound_map_twice now seen_key (Excluded x) = refl
bound_map_twice now seen_key Unbounded = refl

-- a cut at bounds that are lent is seen as its bounds are
pub cut_seen : {K A V B R : Type 0} (now : R → K) (seen_key : K → A) (seen_value : V → B) (low high : Bound R) → Cut (bound_map (λ x. seen_key (now x)) low) (bound_map (λ x. seen_key (now x)) high) ≡ record_map seen_key seen_value (Cut (bound_map now low) (bound_map now high))
cut_seen now seen_key seen_value low high = cc (bound_map_twice now seen_key low, bound_map_twice now seen_key high)

-- the record of a removal is found as its key is
pub remove_reads : {K V : Type 0} (key_at : List ℕ → Option (K × List ℕ)) (value_at : List ℕ → Option (V × List ℕ)) (key : K) (bytes : List ℕ) → ReadsBack key_at bytes key → ReadsBack (record_at key_at value_at) (2 ∷ bytes) (Remove key)
remove_reads key_at value_at key bytes law rest = rw (law rest) refl

module _ {A B : Type 0} (read : List ℕ → Option (Record A B × List ℕ)) where
  pub spelled_reads : (records : List (Record A B)) (text : List ℕ) → Spells read records text → ReadsRecords read records text
  spelled_reads [] text spells = spells
  spelled_reads (r ∷ records) text spells = (spells.1, ap read spells.2 ∙ spells.3 spells.1, spelled_reads records spells.1 spells.4)

  pub spells-append : (xs ys : List (Record A B)) (a b : List ℕ) → Spells read xs a → Spells read ys b → Spells read (xs ++ ys) (a ++ b)
  spells-append [] ys a b x y = subst (Spells read ys) (ap (λ (l : List ℕ). l ++ b) (sym x)) y
  spells-append (r ∷ xs) ys a b x y = (x.0, x.1 ++ b, ap (λ (l : List ℕ). l ++ b) x.2 ∙ append_assoc x.0 x.1 b, x.3, spells-append xs ys x.1 b x.4 y)

module _ {K V A B : Type 0} (cmp : K → K → Ordering) (seen_key : K → A) (seen_value : V → B) (read : List ℕ → Option (Record A B × List ℕ)) where
  -- nothing was noted, and nothing changed
  pub nothing_noted : (old_text new_text : List ℕ) (old new : List (K × V)) → new_text ≡ old_text → new ≡ old → Notes cmp seen_key seen_value read old_text new_text old new
  nothing_noted old_text new_text old new same kept = record { records = []; more = []; grows = same ∙ sym (append-nil old_text); spells = refl; does = kept }

  pub one_noted : (r : Record K V) (bytes old_text new_text : List ℕ) (old new : List (K × V)) → new_text ≡ old_text ++ bytes → ReadsBack read bytes (record_map seen_key seen_value r) → new ≡ changed cmp r old → Notes cmp seen_key seen_value read old_text new_text old new
  one_noted r bytes old_text new_text old new grown law done = record { records = r ∷ []; more = bytes; grows = grown; spells = (bytes, [], sym (append-nil bytes), law, refl); does = done }

  changed_by-append : (xs ys : List (Record K V)) (pairs : List (K × V)) → changed_by cmp (xs ++ ys) pairs ≡ changed_by cmp ys (changed_by cmp xs pairs)
  changed_by-append [] ys pairs = refl
  changed_by-append (x ∷ xs) ys pairs = changed_by-append xs ys (changed cmp x pairs)

  -- what was noted goes on from what there was
  pub goes_on : (texts : List (List ℕ)) (old_text new_text : List ℕ) (old new : List (K × V)) → GoesOn cmp seen_key seen_value read texts old_text old → Notes cmp seen_key seen_value read old_text new_text old new → GoesOn cmp seen_key seen_value read texts new_text new
  goes_on texts old_text new_text old new g n =
      let seen = record_map seen_key seen_value in
      let both : Spells read (map seen g.records ++ map seen n.records) (old_text ++ n.more) = spells-append read (map seen g.records) (map seen n.records) old_text n.more g.spells n.spells in
      record {
        durable = g.durable;
        leads = g.leads;
        records = g.records ++ n.records;
        spells = subst (Spells read (map seen (g.records ++ n.records))) (sym n.grows) (subst (λ (l : List (Record A B)). Spells read l (old_text ++ n.more)) (sym (map-append seen g.records n.records)) both);
        now = n.does ∙ ap (changed_by cmp n.records) g.now ∙ sym (changed_by-append g.records n.records g.durable);
      }

  leads_on : (texts : List (List ℕ)) (text : List ℕ) (records : List (Record K V)) (old mid : List (K × V)) → Leads cmp seen_key seen_value read texts old mid → ReadsRecords read (map (record_map seen_key seen_value) records) text → Leads cmp seen_key seen_value read (texts ++ text ∷ []) old (changed_by cmp records mid)
  leads_on [] text records old mid leads reads = (records, reads, ap (changed_by cmp records) leads)
  leads_on (first ∷ texts) text records old mid leads reads = (leads.0, leads.1, leads_on texts text records (changed_by cmp leads.0 old) mid leads.2 reads)

  -- the batch as one more text leads to the pairs
  pub batch_leads : (texts : List (List ℕ)) (batch : List ℕ) (pairs : List (K × V)) → GoesOn cmp seen_key seen_value read texts batch pairs → Leads cmp seen_key seen_value read (texts ++ batch ∷ []) [] pairs
  batch_leads texts batch pairs g =
      let reads = spelled_reads read (map (record_map seen_key seen_value) g.records) batch g.spells in
      subst (Leads cmp seen_key seen_value read (texts ++ batch ∷ []) []) (sym g.now) (leads_on texts batch g.records [] g.durable g.leads reads)

  -- texts that lead somewhere have records
  pub leads_have : (texts : List (List ℕ)) (old new : List (K × V)) → Leads cmp seen_key seen_value read texts old new → HaveRecords read texts
  leads_have [] old new leads = tt
  leads_have (text ∷ texts) old new leads = ((map (record_map seen_key seen_value) leads.0, leads.1), leads_have texts (changed_by cmp leads.0 old) new leads.2)

  nil_front : (front rest : List ℕ) → [] ≡ front ++ rest → front ≡ []
  nil_front [] rest e = refl
  nil_front (x ∷ front) rest e = let z : ⊥ = cc e in absurd z

  no_records : (records : List (Record K V)) (batch : List ℕ) → Spells read (map (record_map seen_key seen_value) records) batch → batch ≡ [] → read [] ≡ None → records ≡ []
  no_records [] batch spells empty none = refl
  no_records (r ∷ records) batch spells empty none =
      let front : spells.0 ≡ [] = nil_front spells.0 spells.1 (sym empty ∙ spells.2) in
      let found : read [] ≡ Some (record_map seen_key seen_value r, []) = sym (ap (λ (l : List ℕ). read (l ++ [])) front) ∙ spells.3 [] in
      let z : ⊥ = cc (none, found) in
      absurd z

  -- an empty batch leaves the pairs that are in the texts
  pub nothing_to_save : (texts : List (List ℕ)) (batch : List ℕ) (pairs : List (K × V)) → GoesOn cmp seen_key seen_value read texts batch pairs → batch ≡ [] → read [] ≡ None → Leads cmp seen_key seen_value read texts [] pairs
  nothing_to_save texts batch pairs g empty none =
      let none_left = no_records g.records batch g.spells empty none in
      subst (Leads cmp seen_key seen_value read texts []) (sym (g.now ∙ ap (λ (l : List (Record K V)). changed_by cmp l g.durable) none_left)) g.leads

  -- the pairs that are in the texts, and an empty batch
  pub just_saved : (texts : List (List ℕ)) (batch : List ℕ) (pairs : List (K × V)) → Leads cmp seen_key seen_value read texts [] pairs → batch ≡ [] → GoesOn cmp seen_key seen_value read texts batch pairs
  just_saved texts batch pairs leads empty = record { durable = pairs; leads = leads; records = []; spells = empty; now = refl }
