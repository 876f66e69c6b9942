-- The calendar beside the machine's state: its answers are the machine's, and it follows the next state.
use Rattle.std.proofs.Common.{◌≤◌, ℕ, List, [], ◌∷◌, ◌++◌, map, sym, subst}
use Rattle.std.proofs.lemmas.List.{map_push}
use Rattle.plan_cert.specs.declared.Segment.{Segment}
use Rattle.slot_calendar.specs.Plays.{Play as Booked, released_at, whole_play, truncated_play}
use Rattle.slot_calendar.specs.Calendars.{CalendarState, Represents, booked_at}
use Rattle.admission.specs.Machine.{AdmittedPlay, with_halted, admitted_play, plays_of}
use Rattle.admission.proofs.Halts.{WholePlay, play_of, plays-around}

-- a play more
pub stands-opened : (calendar : CalendarState) (held : List AdmittedPlay) (number start : ℕ) (segments : List Segment) →
    Represents calendar (map play_of held ++ whole_play start segments ∷ []) →
    Represents calendar (map play_of (held ++ admitted_play number start segments ∷ []))
stands-opened calendar held number start segments stands =
    subst (Represents calendar) (sym (map_push play_of held (admitted_play number start segments))) stands

-- from now on each slot has booked what a play gives back that keeps so many bytes
abbrev IsBooked : CalendarState → ℕ → List Segment → ℕ → Type 0
IsBooked calendar start segments keep =
    (t : ℕ) → calendar.first ≤ t → released_at segments start keep t ≤ booked_at calendar t

-- it may be cut
pub cut-allowed : {calendar : CalendarState} (keep : ℕ) (w : WholePlay) → Represents calendar (plays_of w.state)
    → ((before after : List Booked) → Represents calendar (before ++ whole_play w.start w.segments ∷ after)
    → IsBooked calendar w.start w.segments keep)
    → IsBooked calendar w.start w.segments keep
cut-allowed {calendar} keep w stands law =
    let around = plays-around w in
    law around.before around.after (subst (Represents calendar) around.were stands)

-- once it is stopped early, the calendar represents the plays with that one halted
pub stands-halted : {old new : CalendarState} (keep : ℕ) (w : WholePlay) → Represents old (plays_of w.state)
    → ((before after : List Booked) → Represents old (before ++ whole_play w.start w.segments ∷ after)
    → Represents new (before ++ truncated_play w.start w.segments keep ∷ after))
    → Represents new (map play_of (with_halted w.number keep w.state.held))
stands-halted {old} {new} keep w stands cut =
    let around = plays-around w in
    subst (Represents new) (sym (around.become keep))
    (cut around.before around.after (subst (Represents old) around.were stands))
