use Rattle.slot_calendar.proofs.PlanSlots.{sent-none, sent-through, sent-all, asked-slot, asked-before}
use Rattle.slot_calendar.proofs.laws.law_plan_bytes_follow_running_sum.Goals as goal

pub returns : goal.returns
returns c = record {
  before = sent-none;
  through = sent-through;
  end = λ segments start t plan past. sent-all segments start t plan.no_empty past;
  slot = asked-slot;
  outside = asked-before;
}
