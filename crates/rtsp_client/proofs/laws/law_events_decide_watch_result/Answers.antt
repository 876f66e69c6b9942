use Rattle.rtsp_client.proofs.UniqueOutcome.{outcome-once}
use Rattle.rtsp_client.proofs.laws.law_events_decide_watch_result.Goals as goal

pub returns : goal.returns
returns c = λ wish told later out one other is is' same.
    outcome-once (record { outcome = one; is = is }) (record { outcome = other; is = is' }) (later, same)
