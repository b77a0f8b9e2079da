-- Each step of the readers and of the writer keeps the rule.
use Rattle.std.proofs.Common.{◌≡◌, ℕ, ◌+◌, ◌≢◌, Result, Ok, Err, MatchResult, List, [], ◌∷◌, ◌++◌, fold, set, refl, sym, ap, ◌∙◌, subst, ⊎_elim, append-nil, append_assoc}
use mathlib.Core.Option.{some}
use lib.ListN.{get_elem?}
use Rattle.atomic_table.proofs.Lists.{at_set, at_snoc}
use Rattle.tree_model.specs.declared.commands.Command.{Command}
use Rattle.tree_readers.specs.Knowns.{BeginsWithAll}
use Rattle.tree_readers.specs.Rules.{known, Keeps, Sees, Shows}
use Rattle.tree_readers.specs.declared.rule.Known.{Known}

begins_all : {X : Type 0} (xs ys : List X) (fronts : List (List X)) → BeginsWithAll xs fronts → BeginsWithAll (xs ++ ys) fronts
begins_all xs ys [] h = tt
begins_all xs ys (front ∷ fronts) h = ((h.0.0 ++ ys, ap (λ l. l ++ ys) h.0.1 ∙ append_assoc front h.0.0 ys), begins_all xs ys fronts h.1)

begins_both : {X : Type 0} (xs : List X) (fronts more : List (List X)) → BeginsWithAll xs fronts → BeginsWithAll xs more → BeginsWithAll xs (fronts ++ more)
begins_both xs [] more h k = k
begins_both xs (front ∷ fronts) more h k = (h.0, begins_both xs fronts more h.1 k)

begins_itself : {X : Type 0} (xs : List X) → BeginsWithAll xs (xs ∷ [])
begins_itself xs = (([], sym (append-nil xs)), tt)

pub fold_snoc : {X : Type 0} (xs ys : List X) → fold (λ l x. l ++ x ∷ []) xs ys ≡ xs ++ ys
fold_snoc xs [] = sym (append-nil xs)
fold_snoc xs (y ∷ ys) = fold_snoc (xs ++ y ∷ []) ys ∙ append_assoc xs (y ∷ []) ys

module _ {K V : Type 0} where
  keeps_set : (commands : List (Command K V)) (views : List (Known K V)) (seat : ℕ) (w : Known K V) → Keeps commands views → BeginsWithAll commands w.fronts → Keeps commands (set views seat w)
  keeps_set commands views seat w h new j u e =
      ⊎_elim (λ (t : (j ≡ seat) × (w ≡ u)). subst (λ (z : Known K V). BeginsWithAll commands z.fronts) t.1 new) (λ (t : (j ≢ seat) × (get_elem? views j ≡ some u)). h j u t.1) (at_set views seat j w u e)

  keeps_more : (commands rest : List (Command K V)) (views : List (Known K V)) → Keeps commands views → Keeps (commands ++ rest) views
  keeps_more commands rest views h j u e = begins_all commands rest u.fronts (h j u e)

  -- a step that only adds to the commands
  pub turns : (seat : ℕ) (v : Known K V) (commands rest all : List (Command K V)) → all ≡ commands ++ rest → (views : List (Known K V)) → Keeps commands views → get_elem? views seat ≡ some v
      → (w : Known K V) × Keeps all (set views seat w) × Sees v all w
  turns seat v commands rest all same views h at =
      subst (λ (l : List (Command K V)). (w : Known K V) × Keeps l (set views seat w) × Sees v l w) (sym same)
      (let l : List (Command K V) = commands ++ rest in let more = keeps_more commands rest views h in
      (known (l ∷ []) v.shows, keeps_set l views seat (known (l ∷ []) v.shows) more (begins_itself l), (more seat v at, refl)))

  -- the same of the writer
  pub turns_shown : (seat : ℕ) (v : Known K V) (commands rest all : List (Command K V)) → all ≡ commands ++ rest → (views : List (Known K V)) → Keeps commands views → get_elem? views seat ≡ some v
      → (w : Known K V) × Keeps all (set views seat w) × Shows v all w
  turns_shown seat v commands rest all same views h at =
      subst (λ (l : List (Command K V)). (w : Known K V) × Keeps l (set views seat w) × Shows v l w) (sym same)
      (let l : List (Command K V) = commands ++ rest in let more = keeps_more commands rest views h in
      (known (l ∷ []) (v.shows + 1), keeps_set l views seat (known (l ∷ []) (v.shows + 1)) more (begins_itself l), (more seat v at, refl, refl)))

  -- a reader that knows the empty front may come
  pub admits : (commands : List (Command K V)) (views : List (Known K V)) → Keeps commands views → Keeps commands (views ++ known ([] ∷ []) 0 ∷ [])
  admits commands views h seat v at =
      ⊎_elim (h seat v) (λ (e : known ([] ∷ []) 0 ≡ v). subst (λ (z : Known K V). BeginsWithAll commands z.fronts) e ((commands, refl), tt)) (at_snoc views (known ([] ∷ []) 0) v seat at)

  -- what one knows may be told
  pub forks : (commands : List (Command K V)) (views : List (Known K V)) (seat : ℕ) (v : Known K V) → Keeps commands views → get_elem? views seat ≡ some v → Keeps commands (set views seat v ++ v ∷ [])
  forks commands views seat v h at j u e =
      ⊎_elim (keeps_set commands views seat v h (h seat v at) j u) (λ (same : v ≡ u). subst (λ (z : Known K V). BeginsWithAll commands z.fronts) same (h seat v at)) (at_snoc (set views seat v) v u j e)

  -- and taken in
  pub merges : (commands : List (Command K V)) (views : List (Known K V)) (seat other : ℕ) (v w : Known K V) → Keeps commands views → get_elem? views seat ≡ some v → ¬ (other ≡ seat) → get_elem? (set views seat (known (v.fronts ++ w.fronts) v.shows)) other ≡ some w
      → Keeps commands (set (set views seat (known (v.fronts ++ w.fronts) v.shows)) other (known [] 0))
  merges commands views seat other v w h at apart there =
      let both : Known K V = known (v.fronts ++ w.fronts) v.shows in
      let theirs : BeginsWithAll commands w.fronts = ⊎_elim (λ (t : (other ≡ seat) × (both ≡ w)). absurd (apart t.0)) (λ (t : (other ≢ seat) × (get_elem? views other ≡ some w)). h other w t.1) (at_set views seat other both w there) in
      keeps_set commands (set views seat both) other (known [] 0) (keeps_set commands views seat both h (begins_both commands v.fronts w.fronts (h seat v at) theirs)) tt

  -- What a call of publish leaves: the writer knows what is published, which has grown by what was pending and was shown, or is as it was. `of` is what a copy took in.
  pub shown : {T E : Type 0} (of : T → List (Command K V)) (result : Result (Unit {0}) E) (v w : Known K V) (x y : T) (pending left : List (Command K V)) → v.fronts ≡ of x ∷ []
      → MatchResult result (λ _. (of y ≡ fold (λ l c. l ++ c ∷ []) (of x) pending) × (left ≡ [])) (λ _. (y ≡ x) × (left ≡ pending)) → MatchResult result (λ _. Shows v (of y) w) (λ _. w ≡ v)
      → (w.fronts ≡ of y ∷ []) × MatchResult result (λ _. (of y ≡ of x ++ pending) × (left ≡ []) × (w.shows ≡ v.shows + 1)) (λ _. (of y ≡ of x) × (left ≡ pending) × (w.shows ≡ v.shows))
  shown of (Ok done) v w x y pending left knows values rule = (rule.1, (values.0 ∙ fold_snoc (of x) pending, values.1, rule.2))
  shown of (Err e) v w x y pending left knows values rule =
      (ap (λ (k : Known K V). k.fronts) rule ∙ (knows ∙ ap (λ l. l ∷ []) (sym (ap of values.0))), (ap of values.0, values.1, ap (λ (k : Known K V). k.shows) rule))
