use Rattle.std.proofs.Common.{◌≡◌, ◌+◌, ◌∷◌, [], length, sym, ◌∙◌, ap, arith, length-append}
use Rattle.std.proofs.lemmas.Result.{err_from_is_err_and}
use Rattle.store_frames.specs.Frame.{frame}
use Rattle.store_log.proofs.AtRest.{framed}
use Rattle.store_log.proofs.frame_file.FrameFile.append_frame.Goals as goal

pub returns-in_err-make_room-clause-cause : goal.returns-in_err-make_room-clause-cause
returns-in_err-make_room-clause-cause g c =
    let p = err_from_is_err_and c.from_residual.result c.from_residual.ensures.1 in
    rw (p.1, p.2) c.in_err-make_room.ensures.cause

pub append_once-requires : goal.append_once-requires
append_once-requires g c κs within =
    let room = c.in_ok-make_room.ensures.room in
    let is = c.requires.1.1.1.0 in
    let cut = framed c.args.bytes.now g.more.1 is in
    let long : length c.args.bytes.now ≡ length (frame g.more.1) + 1 = omega (arith, ap length is, length-append (frame g.more.1) (0 ∷ [])) in (
      within,
      (
        c.in_ok-make_room.ensures.usable,
        (
          c.in_ok-make_room.ensures.ok,
          (cut, (c.requires.1.1.1.1.0, (omega (arith, ap length cut, long, room.0), (omega (arith, room.1, c.requires.1.1.1.1.1), sym c.mixes-then-mixes.ensures ∙ c.if-mixes-2.true)))),
        ),
      ),
    )
