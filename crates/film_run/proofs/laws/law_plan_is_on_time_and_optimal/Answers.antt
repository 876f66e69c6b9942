use Rattle.film_run.proofs.PlanLemmas.{sending-best, sending-fits, sending-in-time, sending-one}
use Rattle.film_run.proofs.UsedPictureLemmas.{used-on-time}
use Rattle.film_run.proofs.laws.law_plan_is_on_time_and_optimal.Goals as goal

pub returns : goal.returns
returns c = record {
  on_time = used-on-time;
  in_time = sending-in-time;
  fits = sending-fits;
  best = sending-best;
  one = sending-one;
}
