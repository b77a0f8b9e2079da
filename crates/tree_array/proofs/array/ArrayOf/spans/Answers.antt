use Rattle.tree_array.proofs.Lemmas.{◌≡◌, ◌∙◌, drop, sym, from_place, same_from_push}
use Rattle.tree_array.proofs.array.ArrayOf.spans.Goals as goal

pub returns-then-is_le : goal.returns-then-is_le
returns-then-is_le g c =
    let first = c.in-Some.ensures in
    let last = c.in-Some-last_slot.ensures in
    let low_key : first.0 ≡ (c.key.result.now, c.key.ensures.0) = cc in
    let high_key : last.0 ≡ (c.key-then-is_le.result.now, c.key-then-is_le.ensures.0) = cc in (
      λ yes. record {
        first = first.0;
        rest = drop 1 c.args.self.now.entries;
        begins = from_place c.args.self.now.entries 0 first.0 first.2;
        low = rw low_key (sym (rw c.cmp.ensures at c.is_le.ensures) ∙ c.if-is_le.true);
        front = last.2;
        last = last.0;
        ends = last.3;
        high = rw high_key (sym (rw c.cmp-then-is_le.ensures at c.is_le-then-is_le.ensures) ∙ yes);
      },
      λ spans.
          let same = (same_from_push last.2 spans.front last.0 spans.last (sym last.3 ∙ spans.ends)).1 in
          c.is_le-then-is_le.ensures ∙ rw (c.cmp-then-is_le.ensures) (rw (← same, high_key) at spans.high),
    )
