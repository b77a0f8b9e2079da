-- Elements whose first one was taken already.
use Rattle.std.proofs.Common.{◌≡◌, List, [], drop, Option, Some, None, Bor, refl, sym, ◌∙◌, IfNone, option_copied}
use Rattle.std.specs.Iterator.{YieldsFirstRef}
use Rattle.std.specs.List.{cons_option}

module _ {K : Type 0} (left others : List K) where
  -- where none was taken, none is left
  pub ends_with : (first : Option (Bor K)) → YieldsFirstRef (λ l. l) left first others → IfNone first (others ≡ [])
  ends_with None taken = taken.1
  ends_with (Some x) taken = tt

  -- what was taken and what is left are all
  pub is_whole : (first : Option (Bor K)) → YieldsFirstRef (λ l. l) left first others → cons_option (option_copied first) others ≡ left
  is_whole None taken = taken.1 ∙ sym taken.0
  is_whole (Some x) taken = sym taken

  -- the next first element is taken of those behind the old one
  pub advances : (old new : Option (Bor K)) → IfNone old (left ≡ []) → YieldsFirstRef (λ l. l) left new others → cons_option (option_copied new) others ≡ drop 1 (cons_option (option_copied old) left)
  advances None new none taken = is_whole new taken ∙ none ∙ rw none refl
  advances (Some x) new some taken = is_whole new taken
