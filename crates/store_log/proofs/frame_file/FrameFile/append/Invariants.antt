use Rattle.std.proofs.Common.{length, take, drop, ◌-◌}
use Rattle.store_log.proofs.frame_file.FrameFile.append.Given as goal

abbrev pub ghost-append_frame : goal.ghost-append_frame
ghost-append_frame g a = (g.batches, drop 11 (take (length a.bytes.now - 1) a.bytes.now))
