use Rattle.std.proofs.Common.{◌≡◌, inl, inr, sym, refl, ◌∙◌, codes, string_bytes}
use Rattle.std.proofs.lemmas.Slice.Eq.{bytes_eq-Decides}
use Rattle.storetool.specs.Tasks.{policy_name}
use Rattle.storetool.proofs.Tasks.{one_word, two_words, three_words}
use Rattle.storetool.proofs.task.options_of.Goals as goal

-- each word is compared byte by byte
pub returns-in-len1 : goal.returns-in-len1
returns-in-len1 c =
    let word : string_bytes c.word-item.result ≡ codes "--two-syncs" = sym c.as_str.ensures.value ∙ (bytes_eq-Decides c.as_str.result.now (codes "--two-syncs")).0 (sym c.eq.ensures ∙ c.if-eq.true) in
    inl (refl, one_word string_bytes c.args.words.now c.word-item.result c.in-len1.len_at_least c.in-len1.len_below c.word-item.is ∙ rw word refl)

pub returns-in_ok-policy_of-in-len2 : goal.returns-in_ok-policy_of-in-len2
returns-in_ok-policy_of-in-len2 c =
    let option : string_bytes c.option-item.result ≡ codes "--sync" = sym c.as_str-then-words-lt3.ensures.value ∙ (bytes_eq-Decides c.as_str-then-words-lt3.result.now (codes "--sync")).0 (sym c.eq-then-words-lt3.ensures ∙ c.if-eq-2.true) in
    let name : string_bytes c.name-item.result ≡ policy_name c.in_ok-policy_of-in-len2.field-0 = sym c.as_str-in-len2.ensures.value ∙ c.in_ok-policy_of-in-len2.ensures in
    inr (two_words string_bytes c.args.words.now c.option-item.result c.name-item.result c.in-len2.len_at_least c.in-len2.len_below c.option-item.is c.name-item.is ∙ rw (option, name) refl)

pub returns-in_ok-policy_of-in-len3 : goal.returns-in_ok-policy_of-in-len3
returns-in_ok-policy_of-in-len3 c =
    let word : string_bytes c.word-item-then-words-lt4.result ≡ codes "--two-syncs" = sym c.as_str-then-words-lt4.ensures.value ∙ (bytes_eq-Decides c.as_str-then-words-lt4.result.now (codes "--two-syncs")).0 (sym c.eq-then-words-lt4.ensures ∙ c.if-eq-3.true) in
    let option : string_bytes c.option-item-then-words-lt4.result ≡ codes "--sync" = sym c.as_str-then-eq-3.ensures.value ∙ (bytes_eq-Decides c.as_str-then-eq-3.result.now (codes "--sync")).0 (sym c.eq-then-eq-3.ensures ∙ c.if-eq-4.true) in
    let name : string_bytes c.name-item-then-words-lt4.result ≡ policy_name c.in_ok-policy_of-in-len3.field-0 = sym c.as_str-in-len3.ensures.value ∙ c.in_ok-policy_of-in-len3.ensures in
    inr (inl (three_words string_bytes c.args.words.now c.word-item-then-words-lt4.result c.option-item-then-words-lt4.result c.name-item-then-words-lt4.result c.in-len3.len_at_least c.in-len3.len_below c.word-item-then-words-lt4.is c.option-item-then-words-lt4.is c.name-item-then-words-lt4.is ∙ rw (word, option, name) refl))

pub returns-in_ok-policy_of-in-len3-2 : goal.returns-in_ok-policy_of-in-len3-2
returns-in_ok-policy_of-in-len3-2 c =
    let option : string_bytes c.option-item-then-words-lt4-2.result ≡ codes "--sync" = sym c.as_str-then-words-lt4-2.ensures.value ∙ (bytes_eq-Decides c.as_str-then-words-lt4-2.result.now (codes "--sync")).0 (sym c.eq-then-words-lt4-2.ensures ∙ c.if-eq-5.true) in
    let word : string_bytes c.word-item-then-words-lt4-2.result ≡ codes "--two-syncs" = sym c.as_str-then-eq-5.ensures.value ∙ (bytes_eq-Decides c.as_str-then-eq-5.result.now (codes "--two-syncs")).0 (sym c.eq-then-eq-5.ensures ∙ c.if-eq-6.true) in
    let name : string_bytes c.name-item-then-words-lt4-2.result ≡ policy_name c.in_ok-policy_of-in-len3-2.field-0 = sym c.as_str-in-len3-2.ensures.value ∙ c.in_ok-policy_of-in-len3-2.ensures in
    inr (inr (three_words string_bytes c.args.words.now c.option-item-then-words-lt4-2.result c.name-item-then-words-lt4-2.result c.word-item-then-words-lt4-2.result c.in-len3.len_at_least c.in-len3.len_below c.option-item-then-words-lt4-2.is c.name-item-then-words-lt4-2.is c.word-item-then-words-lt4-2.is ∙ rw (option, name, word) refl))
