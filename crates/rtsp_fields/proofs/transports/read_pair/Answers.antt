use Rattle.std.proofs.Common.{◌∙◌}
use Rattle.rtsp_fields.proofs.PartLemmas.{pair_at, within_once}
use Rattle.rtsp_fields.proofs.transports.read_pair.Goals as goal

pub returns-in_err-media : goal.returns-in_err-media
returns-in_err-media c =
    rw c.from_residual.ensures
    (λ channels pair. c.in_err-media.ensures.writes channels.media
    (pair_at c.part_end-dash.ensures pair).media)

pub returns-in_err-control : goal.returns-in_err-control
returns-in_err-control c =
    rw c.from_residual-in_err-control.ensures
    (λ channels pair. c.in_err-control.ensures.writes channels.control
    (pair_at c.part_end-dash.ensures pair).control)

pub returns-then-media-control : goal.returns-then-media-control
returns-then-media-control c = λ channels pair.
    let at = pair_at c.part_end-dash.ensures pair in
    at.differ (within_once at.media c.in_ok-media.ensures.writes ∙ c.if-media-control.true
    ∙ within_once c.in_ok-control.ensures.writes at.control)
