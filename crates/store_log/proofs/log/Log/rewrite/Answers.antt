use Rattle.std.proofs.Common.{◌≡◌, inl, inr, ◌+◌, ◌-◌, [], ◌∷◌, ◌++◌, length, length-append, refl, sym, ◌∙◌, ap, subst, arith, IsTrue}
use Rattle.std.proofs.lemmas.Result.{err_from_is_err_and}
use Rattle.sqlite_disk.specs.Disk.{Holds, Only}
use Rattle.store_frames.specs.Frame.{frame}
use Rattle.store_frames.specs.Seal.{sealed}
use Rattle.store_log.specs.Head.{head_text}
use Rattle.store_log.specs.Spare.{next_head}
use Rattle.store_log.specs.declared.head.Head.{Head}
use Rattle.store_log.specs.declared.frame_file.FrameFile.{FrameFile}
use Rattle.store_log.proofs.Causes.{disk_caused}
use Rattle.store_log.proofs.Returned.{given_err}
use Rattle.store_log.proofs.Spares.{gate_open, gate_torn, staged_is, two_kept, two_texts}
use Rattle.store_log.proofs.Texts.{kept_leaves}
use Rattle.store_log.proofs.log.Log.rewrite.Goals as goal

pub returns-then-self-eq0-clause-refused : goal.returns-then-self-eq0-clause-refused
returns-then-self-eq0-clause-refused g c = inr (refl, c.requires.older)

pub returns-in_err-first-clause-refused : goal.returns-in_err-first-clause-refused
returns-in_err-first-clause-refused g c = given_err c.from_residual.result (inr (refl, c.requires.older))

pub returns-in_err-first-clause-crash : goal.returns-in_err-first-clause-crash
returns-in_err-first-clause-crash g c = given_err c.from_residual.result (λ own clean file left. inl (c.requires.older own clean file left))

pub returns-in_err-stage-clause-refused : goal.returns-in_err-stage-clause-refused
returns-in_err-stage-clause-refused g c =
    given_err c.from_residual-in_err-stage.result (inr (refl, λ own clean. c.stage.ensures.older c.args.self.now.head.generation clean (c.requires.older own (c.stage.ensures.clean clean))))

pub returns-in_err-stage-clause-crash : goal.returns-in_err-stage-clause-crash
returns-in_err-stage-clause-crash g c =
    given_err c.from_residual-in_err-stage.result (λ own clean file left. inl (c.stage.ensures.older c.args.self.now.head.generation clean (c.requires.older own (c.stage.ensures.clean clean)) file left))

pub returns-in_err-stage-clause-cause : goal.returns-in_err-stage-clause-cause
returns-in_err-stage-clause-cause g c =
    let p = err_from_is_err_and c.from_residual-in_err-stage.result c.from_residual-in_err-stage.ensures.1 in
    rw (p.1, p.2) (disk_caused _ c.in_err-stage.field-0.0 c.in_err-stage.ensures.cause)

pub returns-in_err-write_synced-clause-crash : goal.returns-in_err-write_synced-clause-crash
returns-in_err-write_synced-clause-crash g c =
    rw (← c.self.view_is) (given_err c.from_residual-in_err-write_synced.result (λ own clean file left.
    let head : Head = next_head c.self.inside.head in
    let spells = c.in_ok-first.ensures.spells in
    let short = c.in_ok-first.ensures.short in
    let staged = c.in_ok-stage.ensures.staged (c.write_synced.ensures.clean clean) in
    let is = staged_is head spells c.args.text.now short staged.0 (g.D.Disk.seen c.stage.new.disk) c.deref.result.now c.deref-2.result.now (c.deref.ensures.value ∙ c.in_ok-first.ensures.first) (c.deref-2.ensures.value ∙ c.in_ok-first.ensures.second) staged.1 in
    let from = c.write_synced.ensures.crash file left in
    gate_torn head spells c.args.text.now short staged.0 c.self.inside.head.generation from.0 file (c.in_ok-stage.ensures.durable from.0 from.1 ∙ is) from.2))

pub invariant_of-self-2 : goal.invariant_of-self-2
invariant_of-self-2 g c =
    let seen = g.D.Disk.seen in
    let may_leave = g.D.Disk.may_leave in
    let head : Head = next_head c.self.inside.head in
    let text = c.args.text.now in
    let spells = c.in_ok-first.ensures.spells in
    let short = c.in_ok-first.ensures.short in
    let one : c.deref.result.now ≡ frame (sealed head.key (head_text head)) = c.deref.ensures.value ∙ c.in_ok-first.ensures.first in
    let other : c.deref-2.result.now ≡ frame (sealed head.key text) ++ 0 ∷ [] = c.deref-2.ensures.value ∙ c.in_ok-first.ensures.second in
    let file : FrameFile g.row.D.Denot = record { disk = c.swap.new.x; alloc = c.self.inside.file.alloc; end = c.len.result + c.len-2.result - 1; room = 1 } in
    let end : c.len.result + c.len-2.result - 1 ≡ length (frame (sealed head.key (head_text head))) + length (frame (sealed head.key text)) =
    omega (arith, c.len.ensures, c.len-2.ensures, c.deref.ensures.len, c.deref-2.ensures.len, ap length one, ap length other, length-append (frame (sealed head.key text)) (0 ∷ [])) in
    record {
      usable = λ some. subst (λ d. IsTrue (g.D.Disk.is_usable d)) (sym c.swap.ensures.x_after) c.in_ok-write_synced.ensures.usable;
      kept = λ some clean.
          let staged = c.in_ok-stage.ensures.staged (c.write_synced.ensures.clean (subst (λ d. IsTrue (g.D.Disk.is_clean d)) c.swap.ensures.x_after clean)) in
          let is = staged_is head spells text short staged.0 (seen c.stage.new.disk) c.deref.result.now c.deref-2.result.now one other staged.1 in
          let opened : Holds (seen c.write_synced.new.disk) 0 (215 ∷ []) = c.in_ok-write_synced.ensures.written (omega arith) in
          let whole = ap seen c.swap.ensures.x_after ∙ gate_open head spells text short staged.0 (seen c.stage.new.disk) (seen c.write_synced.new.disk) is c.write_synced.ensures.others opened in
          two_kept head spells text short staged.0 seen may_leave file refl end whole (subst (λ d. Only (seen d) (may_leave d)) (sym c.swap.ensures.x_after) c.in_ok-write_synced.ensures.durable);
    }

pub returns-clause-rewritten : goal.returns-clause-rewritten
returns-clause-rewritten g c clean =
    let seen = g.D.Disk.seen in
    let may_leave = g.D.Disk.may_leave in
    let head : Head = next_head c.self.inside.head in
    let text = c.args.text.now in
    let spells = c.in_ok-first.ensures.spells in
    let short = c.in_ok-first.ensures.short in
    let one : c.deref.result.now ≡ frame (sealed head.key (head_text head)) = c.deref.ensures.value ∙ c.in_ok-first.ensures.first in
    let other : c.deref-2.result.now ≡ frame (sealed head.key text) ++ 0 ∷ [] = c.deref-2.ensures.value ∙ c.in_ok-first.ensures.second in
    let file : FrameFile g.row.D.Denot = record { disk = c.swap.new.x; alloc = c.self.inside.file.alloc; end = c.len.result + c.len-2.result - 1; room = 1 } in
    let end : c.len.result + c.len-2.result - 1 ≡ length (frame (sealed head.key (head_text head))) + length (frame (sealed head.key text)) =
    omega (arith, c.len.ensures, c.len-2.ensures, c.deref.ensures.len, c.deref-2.ensures.len, ap length one, ap length other, length-append (frame (sealed head.key text)) (0 ∷ [])) in
    let staged = c.in_ok-stage.ensures.staged (c.write_synced.ensures.clean (subst (λ d. IsTrue (g.D.Disk.is_clean d)) c.swap.ensures.x_after clean)) in
    let is = staged_is head spells text short staged.0 (seen c.stage.new.disk) c.deref.result.now c.deref-2.result.now one other staged.1 in
    let opened : Holds (seen c.write_synced.new.disk) 0 (215 ∷ []) = c.in_ok-write_synced.ensures.written (omega arith) in
    let whole = ap seen c.swap.ensures.x_after ∙ gate_open head spells text short staged.0 (seen c.stage.new.disk) (seen c.write_synced.new.disk) is c.write_synced.ensures.others opened in
    let durable = subst (λ d. Only (seen d) (may_leave d)) (sym c.swap.ensures.x_after) c.in_ok-write_synced.ensures.durable in
    (two_texts head spells text short staged.0 seen may_leave file refl end whole durable, kept_leaves seen may_leave head file (two_kept head spells text short staged.0 seen may_leave file refl end whole durable))
