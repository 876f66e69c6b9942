-- The forms of an entry's line, each from its beginning to its end.
use Rattle.std.specs.Prelude.{ℕ, ◌≡◌, List, ◌++◌, codes, decimal}
use Rattle.plan_cert.specs.PlanSlots.{total_slots, total_bytes}
use Rattle.admission.specs.declared.entries.Command.{Command}
use Rattle.admission.specs.declared.entries.Command.TheVariants.{Play, Halt, Look}
use Rattle.admission.specs.declared.entries.Answer.{Answer}
use Rattle.admission.specs.declared.entries.Answer.TheVariants.{Admitted, Overflow, Halted, Looked}

-- the line of an entry, by its command and the answer of that command's kind
abbrev pub HasForm : ℕ → ℕ → List ℕ → Command → Answer → Type 0
HasForm place seat line (Play slot plan) (Admitted start) =
    line ≡ decimal place ++ codes " seat=" ++ decimal seat ++ codes " play slot=" ++ decimal slot
    ++ codes " slots=" ++ decimal (total_slots plan) ++ codes " bytes="
    ++ decimal (total_bytes plan)
    ++ codes " admitted start=" ++ decimal start ++ codes "\n"
HasForm place seat line (Play slot plan) (Overflow over booked asked) =
    line ≡ decimal place ++ codes " seat=" ++ decimal seat ++ codes " play slot=" ++ decimal slot
    ++ codes " slots=" ++ decimal (total_slots plan) ++ codes " bytes="
    ++ decimal (total_bytes plan)
    ++ codes " overflow slot=" ++ decimal over ++ codes " booked=" ++ decimal booked
    ++ codes " asked=" ++ decimal asked ++ codes "\n"
HasForm place seat line (Halt number keep) Halted =
    line ≡ decimal place ++ codes " seat=" ++ decimal seat ++ codes " halt number="
    ++ decimal number ++ codes " keep=" ++ decimal keep ++ codes " halted\n"
HasForm place seat line (Look slot) (Looked now at booked) =
    line ≡ decimal place ++ codes " seat=" ++ decimal seat ++ codes " look slot=" ++ decimal slot
    ++ codes " looked now=" ++ decimal now ++ codes " at=" ++ decimal at ++ codes " booked="
    ++ decimal booked ++ codes "\n"
HasForm place seat line _ _ = ⊥
