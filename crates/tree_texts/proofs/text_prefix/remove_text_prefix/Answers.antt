use Rattle.std.proofs.Common.{◌≡◌, ℕ, List, Bor, ◌∙◌, sym, ap}
use Rattle.std.specs.Str.{IsUtf8}
use Rattle.tree_texts.specs.Prefix.{BoundPrefix, TellsPrefix}
use Rattle.tree_texts.proofs.Ranges.{between_is, cut_is, none_begin}
use Rattle.tree_model.proofs.Common.{Bound}
use Rattle.tree_model.specs.Pairs.{high_of, low_of}
use Rattle.tree_texts.proofs.text_prefix.remove_text_prefix.Goals as goal
use Rattle.tree_texts.proofs.text_prefix.remove_text_prefix.Goals.{then-found, else-found}

pub returns-clause-removed : goal.returns-clause-removed
returns-clause-removed g c =
    let pairs = c.args.index.now.pairs in
    let bounds : Bound (Bor (List ℕ)) × Bound (Bor (List ℕ)) = (c.as_ref.result, c.as_ref-2.result) in
    let b : BoundPrefix IsUtf8 c.args.prefix.now (low_of bounds, high_of bounds) = rw (c.as_ref.ensures, c.as_ref-2.ensures) c.in_ok-low.ensures in
    let tells : TellsPrefix c.args.prefix.now (low_of bounds, high_of bounds) pairs = c.has_text_between-found.ensures.prefix c.args.prefix.now b in
    elim c.if-found.branch [
      | then-found w ↦ ap (λ index. index.pairs) w.index-is ∙ w.remove_range_sync.ensures ∙ cut_is b pairs tells
      | else-found w ↦ ap (λ index. index.pairs) w.index-is ∙ sym (none_begin b pairs tells c.has_text_between-found.ensures.found w.if-found.false)
    ]

pub returns-clause-found : goal.returns-clause-found
returns-clause-found g c =
    let pairs = c.args.index.now.pairs in
    let bounds : Bound (Bor (List ℕ)) × Bound (Bor (List ℕ)) = (c.as_ref.result, c.as_ref-2.result) in
    let b : BoundPrefix IsUtf8 c.args.prefix.now (low_of bounds, high_of bounds) = rw (c.as_ref.ensures, c.as_ref-2.ensures) c.in_ok-low.ensures in
    rw (← between_is b pairs (c.has_text_between-found.ensures.prefix c.args.prefix.now b)) c.has_text_between-found.ensures.found
