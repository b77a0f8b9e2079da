use Rattle.std.proofs.Common.{true, [], ◌∷◌, ◌++◌, ◌∙◌, ap, sym}
use Rattle.tree_model.proofs.Common.{err_from_is_err_and, nat_cmp_total}
use Rattle.tree_model.specs.declared.way.Way.TheVariants.{On}
use Rattle.tree_cursors.proofs.Yields.{takes_first}
use Rattle.storetool.specs.Printing.{json_rest}
use Rattle.storetool.proofs.Listings.{all_begun, all_left, listed_ends, listed_fails, listed_more, listed_none}
use Rattle.storetool.proofs.dump.dump_json.Goals as goal

-- nothing is listed but the bracket
pub loop-key-init : goal.loop-key-init
loop-key-init g c = rw (c.into_iter-key-iterator.ensures.into_iter_gives, c.in_ok-text.ensures.items) record { listed = rw (all_left c.args.index.now.pairs) (listed_none (91 ∷ []) (json_rest true c.args.index.now.pairs) _); begun = all_begun c.args.index.now.pairs }

-- a pair was not listed
pub returns-in_err-dump_json_pair : goal.returns-in_err-dump_json_pair
returns-in_err-dump_json_pair g c =
    let failed = err_from_is_err_and c.from_residual-in_err-dump_json_pair.result c.from_residual-in_err-dump_json_pair.ensures.1 in
    let taken = takes_first nat_cmp_total On _ _ _ c.in-Some.ensures.steps c.loop-key.invariant.begun in
    rw (failed.1) (listed_fails _ _ _ _ _ c.loop-key.invariant.listed _ _ (ap (json_rest c.loop-key.is_first) taken.1) c.dump_json_pair.new.text.items _ c.in_err-dump_json_pair.ensures)

-- a pair was listed
pub loop-key-preserved : goal.loop-key-preserved
loop-key-preserved g c =
    let taken = takes_first nat_cmp_total On _ _ _ c.in-Some.ensures.steps c.loop-key.invariant.begun in
    record { listed = listed_more _ _ _ _ _ c.loop-key.invariant.listed _ _ (ap (json_rest c.loop-key.is_first) taken.1) _ _ c.in_ok-dump_json_pair.ensures; begun = taken.0 }

-- no pair was left
pub returns : goal.returns
returns g c =
    let taken = takes_first nat_cmp_total On _ _ _ c.in-None.ensures.steps c.loop-key.invariant.begun in
    listed_ends _ _ _ _ _ c.loop-key.invariant.listed _ _ c.write_out.result (rw taken.1.0 (sym {b = c.loop-key.text.items ++ 93 ∷ 10 ∷ []} (c.deref.ensures.value ∙ c.in_ok-extend_from_slice.ensures.items))) c.write_out.ensures
