use Rattle.std.proofs.Common.{drop, ap}
use Rattle.tree_node.proofs.Sizes.{fits}
use Rattle.tree_readers.proofs.Pending.{passed_and_shown}
use Rattle.tree_readers.proofs.writer.«WriterOf+K+V+R+LEN».publish.Goals as goal

-- the shown copy is as it was
pub replace_with-requires : goal.replace_with-requires
replace_with-requires g c = (search fits, rw c.pass_on.ensures.desk c.self.invariant)

pub returns : goal.returns
returns g c =
    let old = c.self.inside.sides in let mid = c.pass_on.new.sides in let new = c.replace_with.new.dest in
    rw (← c.self.view_is) (passed_and_shown c.replace_with.result old.desk.shown.value.commands mid.desk.shown.value.commands new.desk.shown.value.commands
    (drop old.behind old.log.items) (drop mid.behind mid.log.items) (drop new.behind new.log.items) c.self.inside.queue.items c.pass_on.new.queue.items
    old.desk.place.me.0.client.shows mid.desk.place.me.0.client.shows new.desk.place.me.0.client.shows
    (ap (λ d. d.shown.value.commands) c.pass_on.ensures.desk) (ap (λ d. d.place.me.0.client.shows) c.pass_on.ensures.desk) c.pass_on.ensures.pending c.in_ok-pass_on.ensures.ok c.replace_with.ensures.1)
