-- `Pending::push_back` meets its contract: it is the law of one item more.
use Rattle.bounded.proofs.Laws.{by-room}
use Rattle.pending.specs.Queue.{events}
use Rattle.pending.proofs.Pending.push_back.Goals as goal

pub returns : goal.returns
unfolding events
returns c = rw c.push.ensures.0 (by-room c.args.self.now.entries c.args.event c.push.ensures.1)
