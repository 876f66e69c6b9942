use Rattle.std.proofs.Common.{sym}
use Rattle.plan_cert.proofs.SlotSums.{sum_through-past}
use Rattle.plan_cert.proofs.PlanSlotLemmas.{sum_through_rises}
use Rattle.plan_cert.proofs.laws.law_running_sum_grows_by_each_slot.Goals as goal

pub returns-clause-rises : goal.returns-clause-rises
returns-clause-rises c = sum_through_rises

pub returns-clause-end : goal.returns-clause-end
returns-clause-end c = λ segments t plan past. sym (sum_through-past segments t plan past)
