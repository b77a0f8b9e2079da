use Rattle.std.proofs.Common.{◌≡◌, [], ◌∷◌, get_or, map, sym, ap, ◌∙◌, codes, string_bytes}
use Rattle.std.proofs.lemmas.Slice.Eq.{bytes_eq-Decides}
use Rattle.treetool.proofs.Tasks.{one_word}
use Rattle.treetool.proofs.task.are_small.Goals as goal

-- the one word is compared byte by byte
pub returns-in-len1 : goal.returns-in-len1
returns-in-len1 c =
    let words : map string_bytes c.args.arguments.now ≡ string_bytes c.word-item.result ∷ [] = one_word string_bytes c.args.arguments.now c.word-item.result c.in-len1.len_at_least c.in-len1.len_below c.word-item.is in
    let compared = bytes_eq-Decides c.as_str.result.now (codes "--small") in (
      (λ yes. words ∙ ap (λ w. w ∷ []) (sym c.as_str.ensures.value ∙ compared.0 (sym c.eq.ensures ∙ yes))),
      (λ e. c.eq.ensures ∙ compared.1 (c.as_str.ensures.value ∙ ap (λ l. get_or l 0 []) (sym words ∙ e))),
    )
