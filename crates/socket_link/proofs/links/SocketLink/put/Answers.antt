use Rattle.std.proofs.Common.{take, ◌∙◌}
use Rattle.vod_base.specs.Links.{sends}
use Rattle.socket_link.proofs.Appends.{slots_heard-sends}
use Rattle.socket_link.proofs.HistorySteps.{followed, follows_put, newest_on}
use Rattle.socket_link.proofs.links.SocketLink.put.Goals as goal

pub invariant_of-self-clause-follows : goal.invariant_of-self-clause-follows
invariant_of-self-clause-follows g c = λ tells.
    follows_put (followed c.args.self.now tells) (take c.put-count.result c.args.bytes.now) c.put-count.ensures.waiting
    c.then-self.ensures

pub invariant_of-self-clause-newest : goal.invariant_of-self-clause-newest
invariant_of-self-clause-newest g c =
    let bytes = take c.put-count.result c.args.bytes.now in
    let same = newest_on c.args.self.now.history.doings (sends bytes) c.then-self.ensures ∙ slots_heard-sends _ bytes in
    rw same c.args.self.now.newest
