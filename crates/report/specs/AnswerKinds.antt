-- Which answers go with which command.
use Rattle.std.specs.Prelude.{ℕ, ◌<◌, List, length, slice_index_or}
use Rattle.admission.specs.declared.entries.Command.{Command}
use Rattle.admission.specs.declared.entries.Command.TheVariants.{Play, Halt, Look}
use Rattle.admission.specs.declared.entries.Entry.{Entry}
use Rattle.admission.specs.declared.entries.Answer.{Answer}
use Rattle.admission.specs.declared.entries.Answer.TheVariants.{Admitted, Overflow, Halted, Looked}

-- the answer is of its command's kind: a play is admitted or overflows, a halt is halted, a look
-- has looked
abbrev pub IsOfKind : Command → Answer → Type 0
IsOfKind (Play slot plan) (Admitted start) = Unit {0}
IsOfKind (Play slot plan) (Overflow over booked asked) = Unit {0}
IsOfKind (Halt number keep) Halted = Unit {0}
IsOfKind (Look slot) (Looked now at booked) = Unit {0}
IsOfKind _ _ = ⊥

-- each entry of a list has an answer of its command's kind
abbrev pub AreOfKind : List Entry → Type 0
AreOfKind entries =
    (place : ℕ) (none : Entry) → place < length entries →
    IsOfKind (slice_index_or entries place none).command
    (slice_index_or entries place none).answer
