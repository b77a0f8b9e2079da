use Rattle.std.proofs.Common.{◌≡◌, ◌⊎◌, ◌≤◌, inl, inr, ℕ, List, [], ◌∷◌, ◌++◌, false, true, refl, sym, ◌∙◌, ap, subst, arith}
use Rattle.std.proofs.lemmas.Bool.Decides.{nat_tests}
use Rattle.store_codec.specs.Records.{record_at}
use Rattle.store_log.specs.Head.{HasKinds}
use Rattle.store_log.specs.Log.{Contents, HasTexts, LeavesTexts}
use Rattle.tree_store.specs.Changes.{HaveRecords, Leads}
use Rattle.tree_store.specs.Store.{HasSaved, Leave, StandFor, new_head, store_of}
use Rattle.tree_store.proofs.Noted.{just_saved}
use Rattle.tree_store.proofs.Saved.{leave}
use Rattle.tree_node.proofs.Common.{fits}
use Rattle.tree_store.proofs.store.TreeStore.make.Goals as goal

pub new-requires : goal.new-requires
new-requires g c = (search fits, inr refl)

pub invariant_of-result : goal.invariant_of-result
invariant_of-result g c =
    let cmp = g.K.Ord.cmp in
    let key = g.K.Encode.seen in
    let value = g.V.Encode.seen in
    let read = record_at g.K.Encode.value_at g.V.Encode.value_at in
    let kinds : ℕ × ℕ = (g.K.Encode.kind_number, g.V.Encode.kind_number) in
    let log = c.in-Ok.log in
    let same = c.in-Ok.ensures.made.0 in
    record {
      are = (ap (λ h. h.kind_of_keys) same ∙ c.kind.ensures, ap (λ h. h.kind_of_values) same ∙ c.kind-2.ensures);
      leaves = λ runs clean.
          let empty = c.in-Ok.ensures.empty clean in
          rw (same, empty.0) empty.1;
      goes_on = λ runs clean.
          let empty = c.in-Ok.ensures.empty clean in
          just_saved cmp key value read log.texts c.new-in-Ok.result.items c.new.result.pairs (rw (empty.0) c.new.ensures.pairs) c.new-in-Ok.ensures.items;
    }

pub returns-in-Ok-clause-saved : goal.returns-in-Ok-clause-saved
returns-in-Ok-clause-saved g c clean = rw ((c.in-Ok.ensures.empty clean).0) refl

pub returns-in-Ok-clause-leaves : goal.returns-in-Ok-clause-leaves
returns-in-Ok-clause-leaves g c clean left may =
    let same = c.in-Ok.ensures.made.0 in
    record { head = c.in-Ok.log.head; are = (ap (λ h. h.kind_of_keys) same ∙ c.kind.ensures, ap (λ h. h.kind_of_values) same ∙ c.kind-2.ensures); texts = []; has = rw same ((c.in-Ok.ensures.empty clean).1 left may); leads = refl }

pub returns-in-Err-clause-crash : goal.returns-in-Err-clause-crash
returns-in-Err-clause-crash g c clean blank left may = c.in-Err.ensures.crash clean blank left may

pub returns-in-Ok-clause-head : goal.returns-in-Ok-clause-head
returns-in-Ok-clause-head g c =
    c.in-Ok.ensures.made.0 ∙ ap (λ (k : ℕ). new_head k c.kind-2.result c.args.key) c.kind.ensures ∙ ap (λ (k : ℕ). new_head g.K.Encode.kind_number k c.args.key) c.kind-2.ensures

pub returns-in-Err-clause-kept : goal.returns-in-Err-clause-kept
returns-in-Err-clause-kept g c = c.in-Err.ensures.kept
