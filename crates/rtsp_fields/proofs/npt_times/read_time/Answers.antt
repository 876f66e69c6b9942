use Rattle.rtsp_fields.proofs.ClockTimes.{time_at, no_fraction}
use Rattle.rtsp_fields.proofs.npt_times.read_time.Goals as goal

pub returns-in_err-seconds : goal.returns-in_err-seconds
returns-in_err-seconds c =
    rw c.from_residual.ensures
    (λ n time.
    let at = time_at c.part_end-point.ensures time in
    c.in_err-seconds.ensures at.seconds at.whole)

pub returns-in_err-fraction : goal.returns-in_err-fraction
returns-in_err-fraction c =
    rw c.from_residual-in_err-fraction.ensures
    (λ n time. no_fraction c.if-point-text.true c.in_err-fraction.ensures
    (time_at c.part_end-point.ensures time))
