use Rattle.tree_cursors.proofs.RangesCommon.{◌≡◌, ◌+◌, ◌-◌, ◌≤◌, ◌++◌, length, vec_len, vec_capacity, drop, map, IsAscending, StandsInside, after_all, answers, told}
use Rattle.tree_cursors.proofs.cursor.run_moves.Given as goal

-- the moves that are left complete the answers so far
abbrev pub invariant-loop-step : goal.invariant-loop-step
invariant-loop-step g l =
    let Seen = g.C.Cursor.cursor in
    record {
      answered : map told l.given.items ++ answers g.K.Ord.cmp (drop l.step-index l.moves) (Seen l.cursor) ≡ answers g.K.Ord.cmp l.moves (Seen l.fn.cursor);
      ended : after_all g.K.Ord.cmp (drop l.step-index l.moves) (Seen l.cursor) ≡ after_all g.K.Ord.cmp l.moves (Seen l.fn.cursor);
      same : (Seen l.cursor).pairs ≡ (Seen l.fn.cursor).pairs;
      ascending : 1 ≤ l.step-index → IsAscending g.K.Ord.cmp (Seen l.fn.cursor).pairs;
      first : l.step-index ≡ 0 → Seen l.cursor ≡ Seen l.fn.cursor;
      inside : 1 ≤ l.step-index → StandsInside (Seen l.fn.cursor).pairs (Seen l.fn.cursor).backward;
      within : l.step-index ≤ length l.moves;
      room : vec_len l.given + (length l.moves - l.step-index) ≤ vec_capacity l.given;
    }
