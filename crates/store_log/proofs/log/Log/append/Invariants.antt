use Rattle.store_frames.specs.Frame.{batches_of}
use Rattle.store_log.proofs.log.Log.append.Given as goal

abbrev pub ghost-append : goal.ghost-append
ghost-append g a = batches_of (g.D.Disk.seen a.self.now.disk)
