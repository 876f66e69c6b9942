use Rattle.rtsp_fields.proofs.ClockTimes.{digits_or_clock}
use Rattle.rtsp_fields.proofs.npt_times.read_seconds.Goals as goal

pub returns-in-None : goal.returns-in-None
returns-in-None c = digits_or_clock c.read_clock.result c.args.text.now c.in-None.ensures c.read_clock.ensures
