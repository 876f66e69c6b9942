-- A plan has room everywhere or one first slot without room.
use Rattle.std.proofs.Common.{◌≡◌, ℕ, List, arith, sym, ap, ◌∙◌}
use Rattle.std.proofs.lemmas.Bool.{cases_order}
use Rattle.plan_cert.specs.declared.Segment.{Segment}
use Rattle.slot_calendar.specs.Plays.{asked_at}
use Rattle.slot_calendar.specs.Calendars.{HasRoom, IsFirstOverflow}
use Rattle.slot_calendar.specs.declared.calendar.Overflow.{Overflow}

module _ {from start : ℕ} {booked capacity : ℕ → ℕ} {segments : List Segment} where
  -- a slot without room leaves no room
  pub no-room : {over : Overflow} → IsFirstOverflow from booked capacity start segments over
      → HasRoom from booked capacity start segments → ⊥
  no-room {over} first room = omega (arith, first.overflows, room.each over.slot first.begun)

  -- there is one first slot without room
  pub overflow-once : {a b : Overflow} → IsFirstOverflow from booked capacity start segments a
      → IsFirstOverflow from booked capacity start segments b → a ≡ b
  overflow-once {a} {b} x y =
      let slot : a.slot ≡ b.slot = grind (arith, cases_order a.slot b.slot) in
      overflow_is slot (x.booked_is ∙ ap booked slot ∙ sym y.booked_is)
      (x.asked_is ∙ ap (asked_at segments start) slot ∙ sym y.asked_is)
    where
      overflow_is : {a b : Overflow} → a.slot ≡ b.slot → a.booked ≡ b.booked → a.asked ≡ b.asked → a ≡ b
      overflow_is {a} {b} slot booked asked = grind arith
