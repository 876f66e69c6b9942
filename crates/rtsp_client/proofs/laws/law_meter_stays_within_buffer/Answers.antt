use Rattle.std.proofs.Common.{arith}
use Rattle.rtsp_client.proofs.MeterBounds.{quiet-always}
use Rattle.rtsp_client.proofs.laws.law_meter_stays_within_buffer.Goals as goal

pub returns : goal.returns
returns c = λ wish sizes time h is timed some met.
    let q = quiet-always wish sizes h
    (record { slot_lasts = omega (arith, is.some_units); picture_lasts = timed }) some met in
    (q.over_none, q.under_none, q.most_fits)
