use Rattle.std.proofs.Common.{drop}
use Rattle.tree_readers.proofs.Pending.{pushed_all}
use Rattle.tree_readers.proofs.writer.«WriterOf+K+V+R+LEN».append_all.Goals as goal

pub returns : goal.returns
returns g c =
    let sides = c.self.inside.sides in
    rw (← c.self.view_is) (pushed_all c.push_all.result sides.desk.shown.value.commands (drop sides.behind sides.log.items) c.self.inside.queue.items c.push_all.new.queue.items c.args.batch.now.items c.push_all.new.batch.items sides.desk.place.me.0.client.shows c.push_all.ensures)
