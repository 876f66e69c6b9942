use Rattle.report.proofs.CalendarLineLemmas.{line_stands, line_tells}
use Rattle.report.proofs.laws.law_slot_has_a_line_iff_booked.Goals as goal

pub returns-clause-stands : goal.returns-clause-stands
returns-clause-stands c = λ from slot booked are begun some. line_stands slot are begun some

pub returns-clause-tells : goal.returns-clause-tells
returns-clause-tells c = λ from slot told booked are small few stands.
    (line_tells (record { slot = slot; booked = told; small = small; few = few }) are stands).0

pub returns-clause-some : goal.returns-clause-some
returns-clause-some c = λ from slot told booked are small few stands.
    (line_tells (record { slot = slot; booked = told; small = small; few = few }) are stands).1

pub returns-clause-begun : goal.returns-clause-begun
returns-clause-begun c = λ from slot told booked are small few stands.
    (line_tells (record { slot = slot; booked = told; small = small; few = few }) are stands).2
