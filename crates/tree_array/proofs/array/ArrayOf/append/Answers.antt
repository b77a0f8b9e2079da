use Rattle.tree_array.proofs.Lemmas.{refl, sym, rules, arith, absent_beyond, count_seen, fields, is_stored, kept, parts_behind, room_from_not_full}
use Rattle.tree_array.proofs.array.ArrayOf.append.Goals as goal

pub let_in-requires : goal.let_in-requires
let_in-requires g c =
    let a = fields refl c.counts-entries.ensures.entries refl c.self.invariant c.self.view_is in
    let room = room_from_not_full g.row.LEN c.args.self.now (λ full. absurd (c.requires.room full)) in
    (search rules, (omega (arith, room.0), (room.1, parts_behind c.args.self.now.entries c.args.key g.met.K.Ord.total _ (sym (count_seen a)) c.requires.larger)))

pub returns : goal.returns
returns g c =
    let room = room_from_not_full g.row.LEN c.args.self.now (λ full. absurd (c.requires.room full)) in
    let absent = absent_beyond g.K.Ord.cmp c.args.self.now.entries c.args.key c.requires.larger in
    (is_stored (kept (fields refl refl refl c.self.invariant c.self.view_is) g.met.K.Ord.total) room (λ h. absent) c.let_in.ensures, absent)
