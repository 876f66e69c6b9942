-- The line of a journal entry. Numbers are decimal, and the line ends with LF.
use Rattle.std.specs.Prelude.{ℕ, List, ◌++◌, codes, decimal}
use Rattle.plan_cert.specs.PlanSlots.{total_slots, total_bytes}
use Rattle.admission.specs.declared.entries.Command.{Command}
use Rattle.admission.specs.declared.entries.Command.TheVariants.{Play, Halt, Look}
use Rattle.admission.specs.declared.entries.Answer.{Answer}
use Rattle.admission.specs.declared.entries.Answer.TheVariants.{Admitted, Overflow, Halted, Looked}
use Rattle.admission.specs.declared.entries.Entry.{Entry}
use Rattle.vod_base.specs.Fields.{field}

-- what was asked: of a plan its slots and its bytes
abbrev pub command_text : Command → List ℕ
command_text (Play slot plan) =
    field (codes " play slot=") slot ++ field (codes " slots=") (total_slots plan)
    ++ field (codes " bytes=") (total_bytes plan)
command_text (Halt number keep) =
    field (codes " halt number=") number ++ field (codes " keep=") keep
command_text (Look slot) = field (codes " look slot=") slot

-- what was answered
abbrev pub answer_text : Answer → List ℕ
answer_text (Admitted start) = field (codes " admitted start=") start
answer_text (Overflow slot booked asked) =
    field (codes " overflow slot=") slot ++ field (codes " booked=") booked
    ++ field (codes " asked=") asked
answer_text Halted = codes " halted"
answer_text (Looked now at booked) =
    field (codes " looked now=") now ++ field (codes " at=") at ++ field (codes " booked=") booked

-- the entry at a place: the place, who asked, the command and its answer
abbrev pub entry_words : ℕ → Entry → List ℕ
entry_words place entry =
    decimal place ++ field (codes " seat=") entry.maker ++ command_text entry.command
    ++ answer_text entry.answer

abbrev pub entry_line : ℕ → Entry → List ℕ
entry_line place entry = entry_words place entry ++ codes "\n"
