-- A calendar's text has its form.
use Rattle.std.proofs.Common.{ℕ, zero, suc, ◌+◌, ◌^◌, ◌<◌, ◌≤◌, nat_lt, Bool, true, false, cond, List, ◌∷◌, All, ap}
use Rattle.std.proofs.Common.{arith, inl, inr}
use Rattle.std.specs.List.{range_with_len}
use Rattle.std.proofs.lemmas.Bool.{cases_lt}
use Rattle.plan_cert.specs.CertGrammar.{Lines, lines_of}
use Rattle.slot_calendar.specs.Totals.{ring_slots}
use Rattle.report.specs.CalendarTextForm.{AreAscending, IsCalendarText}
use Rattle.report.specs.CalendarTexts.{AreBookings, booked_among, booked_slots, calendar_text}
use Rattle.report.proofs.CalendarLineLemmas.{all_booked, booked_stands, few_slots, lines_text}

ascending_slots : (booked : ℕ → ℕ) (a n : ℕ) → AreAscending (booked_among booked (range_with_len a n))
ascending_slots booked a zero = tt
ascending_slots booked a (suc n) =
    pick (nat_lt 0 (booked a))
    (all_booked booked (λ u. a < u) (a + 1) n (λ t after inside some. omega (arith, after)))
    (ascending_slots booked (a + 1) n)
  where
    rest : List ℕ
    rest = booked_among booked (range_with_len (a + 1) n)

    pick : (b : Bool) → All (λ u. a < u) rest → AreAscending rest → AreAscending (cond b (a ∷ rest) rest)
    pick true later others = (later, others)
    pick false later others = others

pub calendar_told : (from : ℕ) (booked : ℕ → ℕ) → AreBookings from booked
    → IsCalendarText from booked (lines_of (calendar_text from booked))
unfolding booked_slots
calendar_told from booked are =
    let small : from < 2 ^ 64 = omega (arith, are.first_small) in
    let told = lines_text from booked small (few_slots from booked are) in
    record {
      slots = booked_slots from booked;
      ascend = ascending_slots booked from ring_slots;
      some = all_booked booked (λ t. (from ≤ t) × (0 < booked t)) from ring_slots
          (λ t after inside some. (after, some));
      all = λ t after some. (
          let inside : t < from + ring_slots = elim (cases_lt t (from + ring_slots)) [
            | inl inside ↦ inside
            | inr past ↦ absurd (omega (arith, are.past t past, some))
          ] in
          booked_stands booked from ring_slots (after, inside) some
          );
      lines_are = ap (λ (ls : Lines). ls.whole) told;
      rest_is = ap (λ (ls : Lines). ls.rest) told;
    }
