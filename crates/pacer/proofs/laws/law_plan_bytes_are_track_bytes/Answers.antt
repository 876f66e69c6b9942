use Rattle.pacer.proofs.PlanBytesLemmas.{parts-join, sends-track, tells-boundaries, tells-end}
use Rattle.pacer.proofs.laws.law_plan_bytes_are_track_bytes.Goals as goal

pub returns : goal.returns
returns c = record { parts = parts-join; all = sends-track; boundary = tells-boundaries; done = tells-end }
