-- The names that most proofs here cite, passed on from one place. Declares nothing.
pub use Rattle.std.proofs.Common.{IsSome, List, None, Option, Some, T, [], arith, get_or, refl, rules, subst, sym, true, zero, ℕ, ◌&&◌, ◌++◌, ◌+◌, ◌<◌, ◌∙◌, ◌∷◌, ◌≡◌}
pub use Rattle.std.proofs.ResultValues.{and_tt}
pub use Rattle.std.proofs.raw_atomic.Walks.{leaves, proved, proved_at}
pub use Rattle.tree_slots.specs.Slot.{lent, lent_at, offset}
pub use base.Fml.{Fml, Incl, Incl-trans, Lft, fbor, flft, fsep, ftrue}
pub use base.Fraction.{full_share}
pub use base.Logic.{SProp, all_e, apply∗, emp, ent, id⊢, sep, wand}
pub use base.Shift.{Keyless}
pub use contract.Monad.{fact, fact_i}
pub use contract.Running.{tables}
pub use denote.Exit.{no, yes}
pub use denote.Laws.{Is, Lawful, Typed, shows}
unfoldable pub use denote.Memory.{cell_at, hidden_shr, part_at, part_of, shared_of}
pub use denote.Param.{layout, layouts, param}
pub use denote.Param.Laws.{Laws, param_laws}
pub use denote.Param.Send.{IsSend, IsSync}
pub use denote.RattleType.{Denots, RattleType, Valss, owns}
pub use denote.Ref.{mut_Tells, mut_vals, shr_Tells, shr_vals}
pub use denote.Signature.{plain, types_at}
pub use denote.Steps.{closes, heard, nothing, opens, peeks}
pub use denote.Struct.Members.{Member, parts_at, row_of, rows_of}
pub use denote.Struct.Parts.{PartsBack, Struct-parts, shape_of}
pub use denote.Struct.Struct.{Struct, within}
pub use denote.Triple.Entry.{alive}
pub use denote.Triple.Walked.{Goes-dropped, Goes-ref, Stays, stay_dropped, stay_ref, walk_of}
pub use mir.MapTy.{inst_fn}
pub use mir.Syntax.{Ty, a_type, named}
pub use mir.Val.{Val, WT, has_ty, of_list, vcons, vnil, vptr, vstruct}
pub use prog.Wp.{WpFn}
pub use seplogic.Ra.Ura.{Ura}
pub use types.ByLocal.{alloc_all, env, free_all, get, get_in, look_at, pass_all, sets, sets_last, through}
pub use types.Kit.{ !, at_ret, await, by, done, drop, feq_i, feq_l, fjoin, fjoin3, fpack, fpick, fsplit, fsplit3, join, keep, later, move, now, qed, raw, rewrite, split, suffices, updating, use0}
pub use types.Kit.{use1, use2, ‵, ◌$◌, ◌∵◌, ◌⊛◌}
pub use types.Logic.{Logic, lfts, sem}
pub use types.Part.{agg, sub, whole}
pub use types.Run.{addr, and_then, blocks, enter, exec, first, fld, load, look_raw, no_more, of_opd, returns, stop}
