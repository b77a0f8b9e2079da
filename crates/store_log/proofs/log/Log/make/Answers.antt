use Rattle.std.proofs.Common.{◌≡◌, ◌-◌, ◌∷◌, ◌++◌, [], ℕ, List, length, refl, sym, ◌∙◌, ap, subst, arith}
use Rattle.store_frames.specs.Frame.{frame}
use Rattle.store_frames.specs.Seal.{sealed}
use Rattle.store_log.specs.Head.{head_text}
use Rattle.store_log.specs.Log.{HasHead, IsBlank, LeavesTexts}
use Rattle.store_log.specs.declared.frame_file.FrameFile.{FrameFile}
use Rattle.store_log.proofs.Heads.{head_frame_has}
use Rattle.store_log.proofs.Texts.{alone_kept, alone_texts, kept_leaves}
use Rattle.store_log.proofs.log.Log.make.Goals as goal

pub write_head-requires-clause-head : goal.write_head-requires-clause-head
write_head-requires-clause-head g c = subst HasHead (sym (c.deref-3.ensures.value ∙ c.in-Ok-head_frame.ensures.frame)) (head_frame_has c.args.head c.in-Ok-head_frame.ensures.spells)

pub invariant_of-result : goal.invariant_of-result
invariant_of-result g c =
    let seen = g.D.Disk.seen in
    let may_leave = g.D.Disk.may_leave in
    let head = c.args.head in
    let file : FrameFile g.row.D.Denot = record { disk = c.write_head.new.disk; alloc = c.args.alloc; end = c.len.result - 1; room = 1 } in
    let bytes_are : c.deref-3.result.now ≡ frame (sealed head.key (head_text head)) ++ 0 ∷ [] = c.deref-3.ensures.value ∙ c.in-Ok-head_frame.ensures.frame in
    let end : c.len.result - 1 ≡ length (frame (sealed head.key (head_text head))) = omega (arith, c.len.ensures, c.deref-3.ensures.len, ap length bytes_are) in
    record {
      usable = λ some. c.in-Ok-write_head.ensures.usable;
      kept = λ some clean.
          alone_kept seen may_leave head (head_text head) c.in-Ok-head_frame.ensures.spells (omega arith) file refl end (c.in-Ok-write_head.ensures.written clean ∙ bytes_are) c.in-Ok-write_head.ensures.durable;
    }

pub returns-in-Ok-write_head-clause-empty : goal.returns-in-Ok-write_head-clause-empty
returns-in-Ok-write_head-clause-empty g c clean =
    let seen = g.D.Disk.seen in
    let may_leave = g.D.Disk.may_leave in
    let head = c.args.head in
    let file : FrameFile g.row.D.Denot = record { disk = c.write_head.new.disk; alloc = c.args.alloc; end = c.len.result - 1; room = 1 } in
    let bytes_are : c.deref-3.result.now ≡ frame (sealed head.key (head_text head)) ++ 0 ∷ [] = c.deref-3.ensures.value ∙ c.in-Ok-head_frame.ensures.frame in
    let end : c.len.result - 1 ≡ length (frame (sealed head.key (head_text head))) = omega (arith, c.len.ensures, c.deref-3.ensures.len, ap length bytes_are) in
    let whole = c.in-Ok-write_head.ensures.written clean ∙ bytes_are in
    let kept = alone_kept seen may_leave head (head_text head) c.in-Ok-head_frame.ensures.spells (omega arith) file refl end whole c.in-Ok-write_head.ensures.durable in
    let none = alone_texts seen may_leave head (head_text head) c.in-Ok-head_frame.ensures.spells (omega arith) file refl end whole c.in-Ok-write_head.ensures.durable in
    (none, subst (λ (t : List (List ℕ)). LeavesTexts head t (may_leave c.write_head.new.disk)) none (kept_leaves seen may_leave head file kept))

pub returns-clause-kept : goal.returns-clause-kept
returns-clause-kept g c clean occupied =
    let read : c.deref.result.now ≡ g.D.Disk.seen c.args.disk = c.deref.ensures.value ∙ c.in-Ok.ensures.bytes (c.write_head.ensures.clean clean) in
    absurd (occupied (subst IsBlank read (c.is_blank.ensures.0 c.if-not-is_blank.false)))
