use Rattle.std.proofs.Common.{◌≡◌, ℕ, Bool, true, false, if◌then◌else◌, List, [], ◌∷◌, length, Option, Some, None, inl, inr, refl, sym, ap, ◌∙◌, nat_eq, nat_le, option_map, decimal}
use Rattle.tree_model.proofs.Common.{false≢true}
use Rattle.tree_index.specs.Index.{Index}
use Rattle.tree_lines.specs.declared.requests.Request.{Request}
use Rattle.tree_lines.specs.declared.requests.Request.TheVariants.{Depth, Spare}
use Rattle.tree_lines.specs.Spelling.{Fits, spelling}
use Rattle.tree_lines.specs.Lines.{Says}
use Rattle.tree_lines.specs.Progress.{MeasuresIndex, Responds, answer_text}
use Rattle.tree_lines.specs.Words.{ReadsAs}
use Rattle.tree_lines.proofs.Spellings.{long_no_request}
use Rattle.tree_node.proofs.Common.{fits}
use Rattle.tree_lines.proofs.answers.answer_to.Goals as goal

-- a line that is kept is kept whole
kept_whole : (b : Bool) (begun text : List ℕ) → Some text ≡ (if b then Some begun else None) → text ≡ begun
kept_whole true begun text e = cc
kept_whole false begun text e = absurd (cc)

-- the answer to what is read in a line is the answer to the line
says_read : (LEN : ℕ) (old new : List (ℕ × ℕ)) (line text answer : List ℕ) (request : Option Request) → ReadsAs Fits spelling text request → Responds LEN old request answer new → text ≡ line → Says LEN old line answer new
says_read LEN old new line text answer (Some request) reads responds same = inl (request, reads.0, sym same ∙ reads.1, responds)
says_read LEN old new line text answer None reads responds same = inr ((λ request fits e. reads request fits (same ∙ e)), responds.0, responds.1)

-- whether a text begins with this byte
abbrev begins : ℕ → List ℕ → Bool
begins byte [] = false
begins byte (b ∷ rest) = nat_eq b byte

-- no other request is spelled as that of the depth or of the spare
measures_depth : (index : Index ℕ ℕ) (read : Request) (answer : List ℕ) → spelling read ≡ spelling Depth → MeasuresIndex index (Some read) answer → answer ≡ decimal index.depth
measures_depth index Depth answer same measures = measures
measures_depth index read answer same measures = absurd (false≢true (ap (begins 100) same))

measures_spare : (index : Index ℕ ℕ) (read : Request) (answer : List ℕ) → spelling read ≡ spelling Spare → MeasuresIndex index (Some read) answer → answer ≡ decimal index.spare
measures_spare index Spare answer same measures = measures
measures_spare index read answer same measures = absurd (false≢true (ap (begins 115) same))

measures_read : (index : Index ℕ ℕ) (request : Request) (text answer : List ℕ) (read : Option Request) → ReadsAs Fits spelling text read → MeasuresIndex index read answer → text ≡ spelling request → MeasuresIndex index (Some request) answer
measures_read index Depth text answer (Some read) reads measures same = measures_depth index read answer (sym reads.1 ∙ same) measures
measures_read index Depth text answer None reads measures same = absurd (reads Depth tt same)
measures_read index Spare text answer (Some read) reads measures same = measures_spare index read answer (sym reads.1 ∙ same) measures
measures_read index Spare text answer None reads measures same = absurd (reads Spare tt same)
measures_read index request text answer read reads measures same = tt

-- a line that is too long is not a request
pub returns-in_default-clause-says : goal.returns-in_default-clause-says
returns-in_default-clause-says g c = λ begun kept. inr (long_no_request begun (sym kept ∙ sym c.text.ensures ∙ ap (option_map (λ text. text.now)) c.in_default.is), refl, refl)

-- nor is it a spelling
pub returns-in_default-clause-measures : goal.returns-in_default-clause-measures
returns-in_default-clause-measures g c = λ request kept.
    let none : None ≡ Some (spelling request) = sym (ap (option_map (λ text. text.now)) c.in_default.is) ∙ c.text.ensures ∙ kept in
    absurd (cc)

pub returns-clause-says : goal.returns-clause-says
returns-clause-says g c = λ begun kept.
    let whole = kept_whole (nat_le (length begun) 256) begun c.in-Some.text.now (sym (ap (option_map (λ text. text.now)) c.in-Some.is) ∙ c.text.ensures ∙ kept) in
    says_read g.row.LEN c.args.index.now.pairs c.respond.new.index.pairs begun c.in-Some.text.now (answer_text c.respond.new.index.pairs c.respond.result) c.request_of.result c.request_of.ensures c.respond.ensures.responds whole

pub returns-clause-measures : goal.returns-clause-measures
returns-clause-measures g c = λ request kept.
    let same : Some c.in-Some.text.now ≡ Some (spelling request) = sym (ap (option_map (λ text. text.now)) c.in-Some.is) ∙ c.text.ensures ∙ kept in
    measures_read c.args.index.now request c.in-Some.text.now (answer_text c.respond.new.index.pairs c.respond.result) c.request_of.result c.request_of.ensures c.respond.ensures.measures (cc)

pub text-requires : goal.text-requires
text-requires g c = search fits

pub request_of-requires : goal.request_of-requires
request_of-requires g c = search fits

pub respond-requires : goal.respond-requires
respond-requires g c = search fits
