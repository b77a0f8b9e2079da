use Rattle.std.proofs.Common.{◌≡◌, ◌+◌, ◌/◌, ◌%◌, ◌∷◌, ◌++◌, [], length, refl, sym, ap, ◌∙◌, append_assoc, length-append, arith, decimal}
use Rattle.std.proofs.lemmas.Fmt.{decimal_step, decimal_digit, decimal_nonempty}
use Rattle.tree_lines.proofs.Decimals.{length-decimal}
use Rattle.tree_lines.proofs.short_text.ShortText.push_number_front.Goals as goal

pub loop-rest-init : goal.loop-rest-init
loop-rest-init c = record { put = refl; room = omega (arith, length-decimal c.args.n (omega arith)); small = omega arith }

-- there is room for each remaining digit
pub push_front-requires : goal.push_front-requires
push_front-requires c = omega (arith, decimal_nonempty c.loop-rest.rest (omega arith))

pub push_front-requires-2 : goal.push_front-requires-2
push_front-requires-2 c = omega (arith, decimal_nonempty c.loop-rest.rest (omega arith))

-- the last digit of the rest was prepended
pub loop-rest-preserved : goal.loop-rest-preserved
loop-rest-preserved c =
    let rest = c.loop-rest.rest in
    let step : decimal rest ≡ decimal (rest / 10) ++ (48 + rest % 10) ∷ [] = decimal_step rest (omega arith) (omega arith) in
    record {
      put = rw c.push_front.ensures (c.loop-rest.invariant.put ∙ ap (λ l. l ++ c.loop-rest.self) step ∙ append_assoc (decimal (rest / 10)) ((48 + rest % 10) ∷ []) c.loop-rest.self);
      room = rw c.push_front.ensures (omega (arith, ap length step, length-append (decimal (rest / 10)) ((48 + rest % 10) ∷ [])));
      small = omega arith;
    }

-- the rest is one digit
pub returns : goal.returns
returns c = c.push_front-2.ensures ∙ ap (λ l. l ++ c.loop-rest.self) (sym (decimal_digit c.loop-rest.rest (omega arith))) ∙ sym c.loop-rest.invariant.put
