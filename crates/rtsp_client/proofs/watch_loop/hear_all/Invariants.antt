use Rattle.std.proofs.Common.{◌≤◌, ◌+◌, ◌*◌, length, Ok}
use Rattle.vod_base.specs.declared.links.TheConstants.{MAX_READ_BYTES}
use Rattle.interleave.specs.Elements.{IsFirst}
use Rattle.interleave.specs.declared.content_lengths.TheConstants.{MAX_BODY_BYTES}
use Rattle.interleave.specs.declared.message_heads.TheConstants.{MAX_HEAD_BYTES}
use Rattle.interleave.specs.declared.elements.Step.TheVariants.{More}
use Rattle.rtsp_client.specs.ClientState.{bytes_in}
use Rattle.rtsp_client.specs.ClientSteps.{HasRun, observed}
use Rattle.rtsp_client.proofs.watch_loop.hear_all.Given as goal

abbrev pub invariant-events : goal.invariant-events
invariant-events g l =
    (bytes_in l.client ≤ MAX_READ_BYTES * l._event)
    × (length l.client.input ≤ MAX_HEAD_BYTES + MAX_BODY_BYTES)
    × IsFirst l.client.input (Ok More)
    × HasRun l.wish l._event l.client (observed (g.K.Link.told l.initial.link) (g.O.Sink.written l.initial.out))
    (observed (g.K.Link.told l.link) (g.O.Sink.written l.out))
    × (g.K.Link.faults l.initial.link ≤ g.K.Link.faults l.link)
    × (g.O.Sink.faults l.initial.out ≤ g.O.Sink.faults l.out)
