use Rattle.std.proofs.Common.{List, ℕ, sym, ◌∙◌, ap}
use Rattle.store_log.specs.Head.{head_at}
use Rattle.store_frames.specs.Seal.{text_of}
use Rattle.store_frames.proofs.Seals.{sealed_itself}
use Rattle.store_log.proofs.Examined.{no_head_batch, other_seal}
use Rattle.store_log.proofs.inspect.sealed_head.Goals as goal

pub returns-in_default-clause-none : goal.returns-in_default-clause-none
returns-in_default-clause-none c = no_head_batch c.args.batch.now (sym (c.in_default.ensures ∙ ap (λ (t : List ℕ). head_at t) c.text_in.ensures))

pub returns-in_default-unsealed-clause-none : goal.returns-in_default-unsealed-clause-none
returns-in_default-unsealed-clause-none c =
    other_seal c.args.batch.now c.in-Some.head (sym (c.in-Some.ensures ∙ ap (λ (t : List ℕ). head_at t) c.text_in.ensures)) c.in_default-unsealed.ensures.other

pub returns-clause-found : goal.returns-clause-found
returns-clause-found c = record {
  first = text_of c.args.batch.now;
  is = sym (c.in-Some.ensures ∙ ap (λ (t : List ℕ). head_at t) c.text_in.ensures);
  sealed_first = sealed_itself c.in-Some.head.key c.args.batch.now _ c.in-Some-unsealed.ensures.fits;
}
