use Rattle.std.proofs.Common.{◌≡◌, ◌++◌, ◌+◌, ◌-◌, ◌<◌, ◌≤◌, ℕ, List, Vec, Global, codes, ap, sym, ◌∙◌, arith}
use Rattle.std.proofs.Common.{append-nil}
use Rattle.std.specs.List.{range_with_len}
use Rattle.slot_calendar.specs.Calendars.{booked_at}
use Rattle.slot_calendar.specs.Totals.{ring_slots}
use Rattle.report.specs.CalendarTexts.{booked_slots, slot_words}
use Rattle.vod_base.proofs.AppendLemmas.{appended_as, both, cut_before, handed_on, then_appended}
use Rattle.report.proofs.SlotLemmas.{line_booked, line_free, lines, lines_around, lines_more}
use Rattle.report.proofs.calendars.push_slots.Goals as goal
use Rattle.report.proofs.calendars.push_slots.Goals.{then-booked-gt0+in_ok-push_slot, else-booked-gt0}

pub returns-in_err-push_slot : goal.returns-in_err-push_slot
unfolding booked_slots
returns-in_err-push_slot c =
    let calendar = c.args.calendar.now in
    let first = calendar.first in
    let slot = c.loop-slot.slot in
    let k = slot - first in
    let before = lines (booked_at calendar) (range_with_len first k) in
    let after = lines (booked_at calendar) (range_with_len (slot + 1) (ring_slots - (k + 1))) in
    let inside : k < ring_slots =
    omega (arith, c.loop-slot-test.true, c.now-now.ensures.value, c.loop-slot.auto.slot) in
    let place : slot ≡ first + k = omega (arith, c.now-now.ensures.value, c.loop-slot.auto.slot) in
    let some : 0 < booked_at calendar slot = omega (arith, c.booked-booked.ensures.value, c.if-booked-gt0.true) in
    let words = ap (λ n. before ++ ((slot_words slot n ++ codes "\n") ++ after)) c.booked-booked.ensures.value
    ∙ lines_around (booked_at calendar)
    (record { a = first; n = ring_slots; k = k; t = slot; is = place; inside = inside }) some in
    handed_on c.from_residual.result c.from_residual.ensures.0
    (appended_as words (then_appended before c.loop-slot.invariant (cut_before after c.in_err-push_slot.ensures)))

pub loop-slot-preserved : goal.loop-slot-preserved
loop-slot-preserved c =
    let calendar = c.args.calendar.now in
    let first = calendar.first in
    let slot = c.loop-slot.slot in
    let k = slot - first in
    let before = lines (booked_at calendar) (range_with_len first k) in
    let place : slot ≡ first + k = omega (arith, c.now-now.ensures.value, c.loop-slot.auto.slot) in
    let count : slot + 1 - first ≡ k + 1 = omega (arith, c.now-now.ensures.value, c.loop-slot.auto.slot) in
    let more = ap (λ n. lines (booked_at calendar) (range_with_len first n)) count
    ∙ lines_more (booked_at calendar) first k place in
    let out = c.args.out.now.items in
    elim c.if-booked-gt0.branch [
      | then-booked-gt0+in_ok-push_slot w ↦ (
          let some : 0 < booked_at calendar slot =
          omega (arith, c.booked-booked.ensures.value, w.if-booked-gt0.true) in
          let line = slot_words slot c.booked-booked.result ++ codes "\n" in
          let same = ap (λ n. slot_words slot n ++ codes "\n") c.booked-booked.ensures.value
          ∙ sym (line_booked (booked_at calendar) slot some) in
          ap (λ (v : Vec ℕ Global). v.items) w.out-is
          ∙ both out before line c.loop-slot.invariant w.in_ok-push_slot.ensures.whole
          ∙ ap (λ (l : List ℕ). out ++ l) (ap (λ (l : List ℕ). before ++ l) same ∙ sym more)
          )
      | else-booked-gt0 w ↦ (
          let none : booked_at calendar slot ≤ 0 =
          omega (arith, c.booked-booked.ensures.value, w.if-booked-gt0.false) in
          let same = more ∙ ap (λ (l : List ℕ). before ++ l) (line_free (booked_at calendar) slot none)
          ∙ append-nil before in
          ap (λ (v : Vec ℕ Global). v.items) w.out-is ∙ c.loop-slot.invariant ∙ ap (λ (l : List ℕ). out ++ l) (sym same)
          )
    ]

pub returns : goal.returns
unfolding booked_slots
returns c =
    let calendar = c.args.calendar.now in
    let all : c.loop-slot.slot - calendar.first ≡ ring_slots =
    omega (arith, c.loop-slot-test.false, c.now-now.ensures.value, c.loop-slot.auto.slot, c.loop-slot.auto.slot-end) in
    record {
      whole =
          c.loop-slot.invariant
          ∙ ap (λ n. c.args.out.now.items ++ lines (booked_at calendar) (range_with_len calendar.first n)) all;
      cut = tt;
    }
