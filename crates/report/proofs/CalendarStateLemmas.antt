-- A calendar's text is that of the machine's state whose plays it represents.
use Rattle.std.proofs.Common.{ℕ, zero, suc, ◌+◌, ◌≤◌, ◌≡◌, List, [], ◌∷◌, ◌++◌, codes, All, arith, refl, ap, ◌∙◌}
use Rattle.std.specs.List.{range_with_len}
use Rattle.std.proofs.lemmas.List.Elements.{All-cons, All-head, All-nil, All-tail}
use Rattle.slot_calendar.specs.Calendars.{CalendarState, Represents, booked_at}
use Rattle.admission.specs.Machine.{State, booked_in, plays_of}
use Rattle.slot_calendar.specs.Totals.{ring_slots}
use Rattle.report.specs.CalendarTexts.{booked_slots, calendar_text, first_words}
use Rattle.report.proofs.SlotLemmas.{line_at, lines, lines_cons}

-- all slots of a range stand from its first one on
range_from : (a n : ℕ) (P : ℕ → Type 0) → ((t : ℕ) → a ≤ t → P t) → All P (range_with_len a n)
range_from a zero P each = All-nil P
range_from a (suc n) P each =
    All-cons P a (range_with_len (a + 1) n) (each a (omega arith))
    (range_from (a + 1) n P (λ t after. each t (omega (arith, after))))

-- slots in which the same bytes are booked have the same lines
same_line : (bytes others : ℕ → ℕ) (t : ℕ) → bytes t ≡ others t → line_at bytes t ≡ line_at others t
same_line bytes others t same = cc

same_lines : (bytes others : ℕ → ℕ) (slots : List ℕ) → All (λ t. bytes t ≡ others t) slots
    → lines bytes slots ≡ lines others slots
same_lines bytes others [] same = refl
same_lines bytes others (t ∷ rest) same =
    let here : line_at bytes t ≡ line_at others t =
    same_line bytes others t (All-head (λ t. bytes t ≡ others t) t rest same) in
    let next : lines bytes rest ≡ lines others rest =
    same_lines bytes others rest (All-tail (λ t. bytes t ≡ others t) t rest same) in
    lines_cons bytes t rest ∙ ap (λ (l : List ℕ). l ++ lines bytes rest) here
    ∙ ap (λ (l : List ℕ). line_at others t ++ l) next ∙ (let back = lines_cons others t rest in cc)

pub text_of_state : (calendar : CalendarState) (state : State) → calendar.first ≡ state.now
    → Represents calendar (plays_of state) →
    calendar_text calendar.first (booked_at calendar) ≡ calendar_text state.now (booked_in state)
unfolding booked_slots
text_of_state calendar state now stands =
    let slots = range_with_len calendar.first ring_slots in
    let same : lines (booked_at calendar) slots ≡ lines (booked_in state) slots =
    same_lines (booked_at calendar) (booked_in state) slots
    (range_from calendar.first ring_slots (λ t. booked_at calendar t ≡ booked_in state t) stands.each) in
    ap (λ (l : List ℕ). first_words calendar.first ++ codes "\n" ++ l ++ codes "end\n") same
    ∙ ap (λ n. first_words n ++ codes "\n" ++ lines (booked_in state) (range_with_len n ring_slots)
    ++ codes "end\n") now
