use Rattle.std.proofs.Common.{drop}
use Rattle.tree_readers.proofs.Pending.{pushed}
use Rattle.tree_readers.proofs.writer.«WriterOf+K+V+R+LEN».append.Goals as goal

pub returns : goal.returns
returns g c =
    let sides = c.self.inside.sides in
    rw (← c.self.view_is) (pushed c.push.result c.args.command sides.desk.shown.value.commands (drop sides.behind sides.log.items) c.self.inside.queue.items c.push.new.queue.items sides.desk.place.me.0.client.shows c.push.ensures)
