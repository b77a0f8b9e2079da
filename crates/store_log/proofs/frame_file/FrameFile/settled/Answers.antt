use Rattle.std.proofs.Common.{sym, arith}
use Rattle.store_frames.proofs.Spelled.{ended}
use Rattle.store_log.proofs.frame_file.FrameFile.settled.Goals as goal

pub settle-requires : goal.settle-requires
settle-requires g c κs within = (
  within,
  (
    c.requires.usable,
    (
      omega (arith, c.requires.within),
      λ clean.
          let same = sym (c.requires.read clean) in
          let e = ended (g.D.Disk.seen c.args.disk) c.args.bytes.now c.split_at.result.1.now c.args.end c.requires.scanned same c.split_at.ensures.back in
          record {
            file = e.file;
            ends = e.ends;
            none = e.none;
            short = e.short;
            durable = c.requires.durable;
          },
    ),
  ),
)
