-- The line of each entry has one of the forms.
use Rattle.std.proofs.Common.{ℕ, ◌≡◌, List, [], ◌∷◌, ◌++◌, codes, decimal, append_assoc, sym, ap, ◌∙◌, refl}
use Rattle.plan_cert.specs.PlanSlots.{total_slots, total_bytes}
use Rattle.plan_cert.specs.declared.Segment.{Segment}
use Rattle.admission.specs.declared.entries.Command.{Command}
use Rattle.admission.specs.declared.entries.Command.TheVariants.{Play, Halt, Look}
use Rattle.admission.specs.declared.entries.Answer.{Answer}
use Rattle.admission.specs.declared.entries.Answer.TheVariants.{Admitted, Overflow, Halted, Looked}
use Rattle.report.specs.EntryLineForm.{HasForm}
use Rattle.report.specs.EntryLines.{answer_text, command_text}
use Rattle.vod_base.specs.Fields.{field}
use Rattle.report.specs.AnswerKinds.{IsOfKind}

-- a label, and the text after it
record Labelled : Type 0 where
  label : List ℕ
  text : List ℕ

-- a first one, and those after it
record Row : Type 0 where
  first : Labelled
  more : List Labelled

abbrev labelled : List ℕ → ℕ → Labelled
labelled label number = record { label = label; text = decimal number }

-- a text, then labelled texts, each grouped with its label; and the same as pieces in a row
abbrev grouped : List ℕ → List Labelled → List ℕ
grouped before [] = before
grouped before (one ∷ more) = grouped (before ++ (one.label ++ one.text)) more

abbrev spelled : List ℕ → List Labelled → List ℕ
spelled before [] = before
spelled before (one ∷ more) = spelled (before ++ one.label ++ one.text) more

abbrev words_of : Row → List ℕ
words_of row = grouped (row.first.label ++ row.first.text) row.more

abbrev spelled_row : List ℕ → Row → List ℕ
spelled_row before row = spelled (before ++ row.first.label ++ row.first.text) row.more

grouped_spelled : (before first : List ℕ) (more : List Labelled)
    → before ++ grouped first more ≡ spelled (before ++ first) more
grouped_spelled before first [] = refl
grouped_spelled before first (one ∷ more) =
    grouped_spelled before (first ++ (one.label ++ one.text)) more
    ∙ ap (λ (l : List ℕ). spelled l more) (sym (append_assoc before first (one.label ++ one.text))
    ∙ sym (append_assoc (before ++ first) one.label one.text))

row_spelled : (before : List ℕ) (row : Row) → before ++ words_of row ≡ spelled_row before row
row_spelled before row =
    grouped_spelled before (row.first.label ++ row.first.text) row.more
    ∙ ap (λ (l : List ℕ). spelled l row.more) (sym (append_assoc before row.first.label row.first.text))

-- the beginning of a line: its place, who asked, and the command
front_spelled : (place : List ℕ) (seat : Labelled) (command : Row) →
    place ++ (seat.label ++ seat.text) ++ words_of command ≡ spelled_row (place ++ seat.label ++ seat.text) command
front_spelled place seat command =
    row_spelled (place ++ (seat.label ++ seat.text)) command
    ∙ ap (λ (l : List ℕ). spelled_row l command) (sym (append_assoc place seat.label seat.text))

-- and the entire line, by its answer
line_spelled : (place : List ℕ) (seat : Labelled) (command answer : Row) →
    place ++ (seat.label ++ seat.text) ++ words_of command ++ words_of answer ++ codes "\n"
    ≡ spelled_row (spelled_row (place ++ seat.label ++ seat.text) command) answer ++ codes "\n"
line_spelled place seat command answer =
    ap (λ (l : List ℕ). l ++ codes "\n")
    (row_spelled (place ++ (seat.label ++ seat.text) ++ words_of command) answer
    ∙ ap (λ (l : List ℕ). spelled_row l answer) (front_spelled place seat command))

abbrev asked_play : ℕ → List Segment → Row
asked_play slot plan = record {
  first = labelled (codes " play slot=") slot;
  more = labelled (codes " slots=") (total_slots plan) ∷ labelled (codes " bytes=") (total_bytes plan) ∷ [];
}

pub has_form : (place seat : ℕ) (command : Command) (answer : Answer) → IsOfKind command answer →
    HasForm place seat
    (decimal place ++ field (codes " seat=") seat ++ command_text command ++ answer_text answer
    ++ codes "\n") command answer
has_form place seat (Play slot plan) (Admitted start) kind =
    line_spelled (decimal place) (labelled (codes " seat=") seat) (asked_play slot plan)
    (record { first = labelled (codes " admitted start=") start; more = [] })
has_form place seat (Play slot plan) (Overflow over booked asked) kind =
    line_spelled (decimal place) (labelled (codes " seat=") seat) (asked_play slot plan)
    (record {
      first = labelled (codes " overflow slot=") over;
      more = labelled (codes " booked=") booked ∷ labelled (codes " asked=") asked ∷ [];
    })
has_form place seat (Play slot plan) Halted kind = kind
has_form place seat (Play slot plan) (Looked now at booked) kind = kind
has_form place seat (Halt number keep) (Admitted start) kind = kind
has_form place seat (Halt number keep) (Overflow over booked asked) kind = kind
has_form place seat (Halt number keep) Halted kind =
    append_assoc (decimal place ++ field (codes " seat=") seat ++ command_text (Halt number keep)) (codes " halted")
    (codes "\n")
    ∙ ap (λ (l : List ℕ). l ++ codes " halted\n")
    (front_spelled (decimal place) (labelled (codes " seat=") seat)
    (record { first = labelled (codes " halt number=") number; more = labelled (codes " keep=") keep ∷ [] }))
has_form place seat (Halt number keep) (Looked now at booked) kind = kind
has_form place seat (Look slot) (Admitted start) kind = kind
has_form place seat (Look slot) (Overflow over booked asked) kind = kind
has_form place seat (Look slot) Halted kind = kind
has_form place seat (Look slot) (Looked now at booked) kind =
    line_spelled (decimal place) (labelled (codes " seat=") seat)
    (record { first = labelled (codes " look slot=") slot; more = [] })
    (record {
      first = labelled (codes " looked now=") now;
      more = labelled (codes " at=") at ∷ labelled (codes " booked=") booked ∷ [];
    })
