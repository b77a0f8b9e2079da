use Rattle.std.proofs.Common.{◌≡◌, sym, refl, ◌∙◌, codes, string_bytes}
use Rattle.std.proofs.lemmas.Slice.Eq.{bytes_eq-Decides}
use Rattle.storetool.proofs.Tasks.{two_words}
use Rattle.storetool.proofs.task.task_behind.Goals as goal

-- the two words are compared byte by byte
pub returns-in-len2 : goal.returns-in-len2
returns-in-len2 c =
    let word : string_bytes c.word-item-then-words-lt3.result ≡ codes "dump" = sym c.as_str-then-words-lt3.ensures.value ∙ (bytes_eq-Decides c.as_str-then-words-lt3.result.now (codes "dump")).0 (sym c.eq.ensures ∙ c.if-eq.true) in
    let option : string_bytes c.option-item.result ≡ codes "--json" = sym c.as_str-then-eq.ensures.value ∙ (bytes_eq-Decides c.as_str-then-eq.result.now (codes "--json")).0 (sym c.eq-then-eq.ensures ∙ c.if-eq-2.true) in
    two_words string_bytes c.args.words.now c.word-item-then-words-lt3.result c.option-item.result c.in-len2.len_at_least c.in-len2.len_below c.word-item-then-words-lt3.is c.option-item.is
    ∙ rw (word, option) refl
