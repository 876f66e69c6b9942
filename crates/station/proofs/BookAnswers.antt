-- Which answers a play and a look have.
use Rattle.std.proofs.Common.{◌≡◌, ◌≢◌, ℕ, List, refl}
use Rattle.plan_cert.specs.declared.Segment.{Segment}
use Rattle.slot_calendar.specs.declared.profiles.CapStep.{CapStep}
use Rattle.admission.specs.declared.entries.Answer.{Answer}
use Rattle.admission.specs.declared.entries.Answer.TheVariants.{Admitted, Halted, Looked, Overflow}
use Rattle.admission.specs.declared.entries.Command.TheVariants.{Look, Play}
use Rattle.admission.specs.declared.entries.Noted.{Noted}
use Rattle.admission.specs.Books.{IsNoted, Journal}
use Rattle.admission.specs.Histories.{state_after}
use Rattle.admission.specs.Machine.{IsAnswer, State}
use Rattle.admission.proofs.HistoryPrefixes.{Machine}

-- a play that no slot refuses is admitted
pub admits : (m : Machine) (slot : ℕ) (plan : List Segment) (answer : Answer)
    → IsAnswer m.steps m.state (Play slot plan) answer
    → ((over booked asked : ℕ) → answer ≢ Overflow over booked asked) → (start : ℕ) × (answer ≡ Admitted start)
admits m slot plan (Admitted start) is fits = (start, refl)
admits m slot plan (Overflow over booked asked) is fits = absurd (fits over booked asked refl)
admits m slot plan Halted is fits = absurd is
admits m slot plan (Looked now at booked) is fits = absurd is

looks : (steps : List CapStep) (state : State) (slot : ℕ) (answer : Answer) → IsAnswer steps state (Look slot) answer
    → (now : ℕ) × (at : ℕ) × (booked : ℕ) × (answer ≡ Looked now at booked)
looks steps state slot (Admitted start) is = absurd is
looks steps state slot (Overflow over booked asked) is = absurd is
looks steps state slot Halted is = absurd is
looks steps state slot (Looked now at booked) is = (now, at, booked, refl)

pub look_answered : {old new : Journal} {maker slot : ℕ} {noted : Noted} → IsNoted old maker (Look slot) noted new
    → (now : ℕ) × (at : ℕ) × (booked : ℕ) × (noted.answer ≡ Looked now at booked)
look_answered {old} {slot} {noted} is = looks old.steps (state_after old.entries) slot noted.answer is.answer_is
