-- Each answer of the admission machine is of its command's kind.
use Rattle.std.proofs.Common.{List, take}
use Rattle.std.specs.Prelude.{slice_index_or}
use Rattle.slot_calendar.specs.declared.profiles.CapStep.{CapStep}
use Rattle.admission.specs.Machine.{State, IsAnswer}
use Rattle.admission.specs.declared.entries.Command.{Command}
use Rattle.admission.specs.declared.entries.Command.TheVariants.{Play, Halt, Look}
use Rattle.admission.specs.declared.entries.Answer.{Answer}
use Rattle.admission.specs.declared.entries.Answer.TheVariants.{Admitted, Overflow, Halted, Looked}
use Rattle.admission.specs.declared.entries.Entry.{Entry}
use Rattle.admission.specs.Histories.{IsLegal, state_after}
use Rattle.report.specs.AnswerKinds.{AreOfKind, IsOfKind}

pub kind_of_answer : (steps : List CapStep) (state : State) (command : Command) (answer : Answer)
    → IsAnswer steps state command answer → IsOfKind command answer
kind_of_answer steps state (Play slot plan) (Admitted start) is = tt
kind_of_answer steps state (Play slot plan) (Overflow over booked asked) is = tt
kind_of_answer steps state (Play slot plan) Halted is = is
kind_of_answer steps state (Play slot plan) (Looked now at booked) is = is
kind_of_answer steps state (Halt number keep) (Admitted start) is = is
kind_of_answer steps state (Halt number keep) (Overflow over booked asked) is = is
kind_of_answer steps state (Halt number keep) Halted is = tt
kind_of_answer steps state (Halt number keep) (Looked now at booked) is = is
kind_of_answer steps state (Look slot) (Admitted start) is = is
kind_of_answer steps state (Look slot) (Overflow over booked asked) is = is
kind_of_answer steps state (Look slot) Halted is = is
kind_of_answer steps state (Look slot) (Looked now at booked) is = tt

pub kinds_of_legal : (steps : List CapStep) (entries : List Entry) → IsLegal steps entries → AreOfKind entries
kinds_of_legal steps entries legal place none inside =
    let entry = slice_index_or entries place none in
    kind_of_answer steps (state_after (take place entries)) entry.command entry.answer (legal.each place none inside)
