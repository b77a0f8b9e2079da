use Rattle.std.proofs.Common.{◌≡◌, ap, ◌∙◌, sym, rules, arith}
use Rattle.tree_node.proofs.Common.{fits}
use Rattle.std.proofs.lemmas.List.Elements.{All-push}
use Rattle.tree_state.specs.Ledgers.{Standing}
use Rattle.tree_state.specs.Tallies.{none, tally}
use Rattle.tree_state.specs.declared.tally.Tally.{Tally}
use Rattle.tree_shared.proofs.shared.SharedOver.new.Goals as goal

pub loop-i-init : goal.loop-i-init
loop-i-init g c = record {
  parts = omega (arith, ap (λ (s : Standing). s.parts) c.open-ledgers.ensures);
  kept = ap (λ (s : Standing). s.kept) c.open-ledgers.ensures;
  totals = ap (λ (s : Standing). s.totals) c.open-ledgers.ensures;
  count = c.in_ok-passes.ensures.len;
  zero = rw c.in_ok-passes.ensures.items (λ k d within. absurd (omega (arith, within)));
}

pub loop-i-preserved : goal.loop-i-preserved
loop-i-preserved g c = record {
  parts = omega arith;
  kept = search rules;
  totals = search rules;
  count = search rules;
  zero = rw c.in_ok-push.ensures.items (All-push (λ (p : Tally). p ≡ none) c.loop-i.passes.items c.hand_out.result c.loop-i.invariant.zero c.hand_out.ensures.zero);
}

pub new-requires : goal.new-requires
new-requires g c = (search (fits, c.requires-raw.1.1.1.1.1.1.1.1.0), c.requires.len)

pub invariant_of-locked-2 : goal.invariant_of-locked-2
invariant_of-locked-2 g c = record { tallied = c.loop-i.invariant.totals ∙ ap (λ h. tally h) (sym c.new.ensures.history) }
