use Rattle.plan_cert.proofs.SlotSums.{length-plan_slots, sum-plan_slots}
use Rattle.plan_cert.proofs.CertTextLemmas.{sent_is_floor}
use Rattle.plan_cert.proofs.PlanSlotLemmas.{slot_in, slot_rounded}
use Rattle.plan_cert.proofs.laws.law_plan_slots_add_up_to_its_bytes.Goals as goal

pub returns : goal.returns
returns c = record {
  count = length-plan_slots;
  sum = λ segments plan. sum-plan_slots segments plan.no_empty;
  place = λ segments s i j inside is few. slot_in segments i j
      (record { inside = inside; segment_is = is }) few;
  rounded = slot_rounded;
  line = sent_is_floor;
}
