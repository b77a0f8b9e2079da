use Rattle.tree_readers.proofs.Pending.{shown_twice}
use Rattle.tree_readers.proofs.writer.«WriterOf+K+V+R+LEN».flush.Goals as goal

pub returns : goal.returns
returns g c =
    let old = c.args.self.now in let mid = c.publish.new.self in let new = c.publish-2.new.self in
    shown_twice c.publish-2.result old.published mid.published new.published old.pending mid.pending new.pending old.shows mid.shows new.shows
    c.in_ok-publish.ensures.0 c.in_ok-publish.ensures.1 c.in_ok-publish.ensures.2 c.publish-2.ensures
