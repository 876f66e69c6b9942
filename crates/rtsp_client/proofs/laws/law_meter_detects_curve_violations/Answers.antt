use Rattle.std.proofs.Common.{arith}
use Rattle.rtsp_client.proofs.MeterViolations.{between-always, most_waiting-tells}
use Rattle.rtsp_client.proofs.laws.law_meter_detects_curve_violations.Goals as goal

pub returns : goal.returns
returns c = record {
  between = λ wish sizes time h is timed heard over under.
      between-always (record {
        wish = wish;
        all = sizes;
        picture_time = time;
        lasts = record { slot_lasts = omega (arith, is.some_units); picture_lasts = timed };
      }) h heard (record { over = over; under = under });
  most = most_waiting-tells;
}
