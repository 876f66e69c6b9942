use Rattle.std.proofs.Common.{refl, arith}
use Rattle.rtsp_fields.proofs.ClockTimes.{clock_at, inside_text}
use Rattle.rtsp_fields.proofs.npt_times.read_clock.Goals as goal

pub returns-in_err-minutes : goal.returns-in_err-minutes
returns-in_err-minutes c =
    rw c.from_residual-in_err-minutes.ensures (λ n clock. c.in_err-minutes.ensures _ (clock_at
    (record { hours_end = c.part_end-first.ensures; minutes_end = c.part_end-second.ensures }) clock).are_minutes)

pub returns-in_err-seconds : goal.returns-in_err-seconds
returns-in_err-seconds c =
    rw c.from_residual-in_err-seconds.ensures (λ n clock. c.in_err-seconds.ensures _ (clock_at
    (record { hours_end = c.part_end-first.ensures; minutes_end = c.part_end-second.ensures }) clock).are_seconds)

pub returns : goal.returns
returns c = (
  record {
    first = _;
    second = _;
    hours = _;
    minutes = _;
    rest = _;
    hours_end = c.part_end-first.ensures;
    minutes_end = c.part_end-second.ensures;
    at = record {
      inside = inside_text c.part_end-second.ensures c.if-second-text.false;
      are_hours = c.in_ok-hours.ensures.0;
      are_minutes = c.in_ok-minutes.ensures.0;
      are_seconds = c.in_ok-seconds.ensures.0;
      small_minutes = c.if-minutes-gt59.false;
      small_seconds = c.if-seconds-gt59.false;
    };
    seconds_are = refl;
  },
  omega (arith, c.in_ok-hours.ensures.1, c.if-minutes-gt59.false, c.if-seconds-gt59.false),
)
