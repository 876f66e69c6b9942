use Rattle.std.proofs.Common.{◌≤◌, length}
use Rattle.rtsp_client.specs.HistoryInvariant.{HistoryInvariant}
use Rattle.rtsp_client.specs.ClientHistory.{History}
use Rattle.rtsp_client.specs.ClientState.{bytes_in}
use Rattle.rtsp_client.specs.ClientSteps.{HasTaken, observed}
use Rattle.rtsp_client.proofs.clients.Client.process_input.Given as goal

abbrev pub invariant-elements : goal.invariant-elements
invariant-elements g l =
    (bytes_in l.self ≤ bytes_in l.initial.self)
    × (g.K.Link.faults l.initial.link ≤ g.K.Link.faults l.link)
    × (g.O.Sink.faults l.initial.out ≤ g.O.Sink.faults l.out)
    × ((h : History) → HistoryInvariant l.wish h l.initial.self → HasTaken l.wish h l.initial.self.input l.self
    (observed (g.K.Link.told l.initial.link) (g.O.Sink.written l.initial.out))
    (observed (g.K.Link.told l.link) (g.O.Sink.written l.out)))

abbrev pub decreases-elements : goal.decreases-elements
decreases-elements g l = length l.self.input
