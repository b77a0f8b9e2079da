use Rattle.store_frames.specs.Frame.{batches_of}
use Rattle.store_log.proofs.frame_file.FrameFile.settled.Given as goal

abbrev pub ghost-settle : goal.ghost-settle
ghost-settle g a = batches_of (g.D.Disk.seen a.disk.now)
