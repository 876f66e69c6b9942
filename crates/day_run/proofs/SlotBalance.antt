-- The clients book what the machine has booked once a slot has come, and at the end of a day; and what
-- is booked in past slots stays.
use Rattle.std.proofs.lemmas.Grind.{common_steps}
use Rattle.std.proofs.Common.{◌≡◌, ◌<◌, ◌≤◌, ◌+◌, ◌-◌, ◌==◌, ℕ, zero, suc, true, false, Bool, cond, List, [], ◌++◌}
use Rattle.std.proofs.Common.{length, map, take, set, get_or, arith, refl, sym, ap, subst, ◌∙◌}
use Rattle.slot_calendar.proofs.PlanSlots.{sent-rises}
use Rattle.std.proofs.lemmas.Bool.{eqb-true}
use Rattle.std.proofs.lemmas.List.{get_or-map, length-append, length-map, take_all}
use Rattle.plan_cert.specs.PlanSlots.{total_bytes}
use Rattle.slot_calendar.specs.Plays.{Play as Booked, truncated_play, share_at}
use Rattle.admission.specs.declared.entries.Entry.{Entry}
use Rattle.admission.specs.Books.{places_taken}
use Rattle.admission.specs.Histories.{open_count, state_after}
use Rattle.admission.specs.Machine.{booked_in}
use Rattle.day_run.specs.BookingBalance.{AreHeldOf, IsBalanced, share_of}
use Rattle.day_run.specs.Days.{DayState, at_slot, done_halt, halt_by, halt_entries, last_journal, open_halt}
use Rattle.day_run.specs.Clients.{after_open}
use Rattle.day_run.specs.ClientStates.{Idle, Playing, Pausing, Paused, ClientPlay, Rest, ClientState, after_play}
use Rattle.day_run.specs.ClientStates.{after_sending, booking_of, is_done, pausing_state, sent_by}
use Rattle.day_run.proofs.ScriptLines.{halt_entries-sent}
use Rattle.day_run.proofs.ClientSweepLemmas.{IsSwept, entries-more, swept-all, swept-set}
use Rattle.day_run.proofs.SentBookedLemmas.{BalancedClient, HeldClient, PlayStopped, balanced-halt, booked-halted}
use Rattle.day_run.proofs.SentBookedLemmas.{its-held, open-less, playing_one, share-done, sum-mapped, sum-zero}

-- ---- a slot comes
pause-share : (b : Bool) (t : ℕ) (stop : Booked) (rest : Rest) → (b ≡ true → share_at t stop ≡ 0)
    → share_of t (cond b (Paused rest) (Pausing stop rest)) ≡ share_at t stop
pause-share b t stop rest given = grind arith

pub pausing-share : (t slot : ℕ) (stop : Booked) (rest : Rest) → slot < t
    → share_of t (pausing_state slot stop rest) ≡ share_at t stop
pausing-share t slot stop rest later = grind (arith, pause-share, share-done, eqb-true)

sending-share : (t slot : ℕ) (state : ClientState) → slot < t → share_of t (after_sending slot state) ≡ share_of t state
sending-share t slot state given = grind (arith, pausing-share)

sending-play : (slot : ℕ) (state : ClientState) → playing_one (after_sending slot state) ≡ playing_one state
sending-play slot state = grind arith

sending-held : (entries : List Entry) (c slot : ℕ) (state : ClientState) → AreHeldOf entries c state
    → AreHeldOf entries c (after_sending slot state)
sending-held entries c slot state given = grind arith

balanced-sending : (m : DayState) (slot : ℕ) → m.heard ≤ slot → IsBalanced m.entries m.states m.heard
    → IsBalanced m.entries (map (after_sending slot) m.states) slot
balanced-sending m slot le balanced = record {
  each = λ t later. balanced.each t (omega (arith, le, later)) ∙ sym (sum-mapped (after_sending slot)
      (share_of t) (share_of t) (λ s. sending-share t slot s later) m.states);
  held = λ c within.
      let inside : c < length m.states = omega (arith, within, length-map m.states (after_sending slot)) in
      subst (AreHeldOf m.entries c) (sym (get_or-map (after_sending slot) m.states c Idle Idle inside))
      (sending-held m.entries c slot (get_or m.states c Idle) (balanced.held c inside));
  fresh = balanced.fresh;
  playing = balanced.playing ∙ sym (sum-mapped (after_sending slot) playing_one playing_one (sending-play slot)
      m.states);
  halts = balanced.halts;
}

-- a play that is done is halted
all-sent : (slot : ℕ) (play : ClientPlay) → is_done slot play ≡ true
    → sent_by (booking_of play) slot ≡ total_bytes play.plan
all-sent slot play done =
    let all : (sent_by (booking_of play) slot == total_bytes play.plan) ≡ true = grind arith in
    eqb-true (sent_by (booking_of play) slot) (total_bytes play.plan) all

-- ---- what is booked in past slots stays
abbrev Stays : ℕ → List Entry → List Entry → Type 0
Stays slot old new = (t : ℕ) → t ≤ slot → booked_in (state_after new) t ≡ booked_in (state_after old) t

-- what is kept of a play: no less than was sent
pub record KeepsSent (slot : ℕ) (play : ClientPlay) (keep : ℕ) : Type 0 where
  pub sent : sent_by (booking_of play) slot ≤ keep
  pub most : keep ≤ total_bytes play.plan

-- a play books in past slots what it did, where it keeps what was sent
stays-halt : {slot : ℕ} (entries : List Entry) (its : HeldClient entries) (keep : ℕ) → KeepsSent slot its.play keep
    → Stays slot entries (entries ++ halt_by its.c its.play.number keep)
stays-halt {slot} entries its keep kept t past = grind (arith, booked-halted entries its keep t, sent-rises)

-- ---- the halts of a slot, or of a day's end
-- what the halts of a slot, or of a day's end, leave: the balance, what is booked in past slots, and the places that
-- are taken
pub record IsHaltedAt (slot : ℕ) (old new : List Entry) (states : List ClientState) : Type 0 where
  pub balanced : IsBalanced new states slot
  pub stays : (t : ℕ) → t ≤ slot → booked_in (state_after new) t ≡ booked_in (state_after old) t
  pub places : places_taken new ≡ places_taken old

-- a halt takes the place that was kept for it
places-halt : (entries : List Entry) (its : HeldClient entries) (keep : ℕ)
    → places_taken (entries ++ halt_by its.c its.play.number keep) ≡ places_taken entries
places-halt entries its keep = grind (arith, open-less, length-append)

-- a client stays as it is
kept-step : {m : DayState} {state : ClientState} (own : BalancedClient m state)
    → IsHaltedAt m.heard m.entries (m.entries ++ []) (set m.states own.c state)
kept-step {m} {state} own = grind (arith, common_steps)

-- a client's play is halted, which keeps what was sent
pub halted-step : {m : DayState} {play : ClientPlay} (own : BalancedClient m (Playing play))
    (stop : PlayStopped m.heard play) → KeepsSent m.heard play stop.keep
    → IsHaltedAt m.heard m.entries (m.entries ++ halt_by own.c play.number stop.keep) (set m.states own.c stop.next)
halted-step {m} own stop kept = search (
  balanced-halt own stop,
  stays-halt m.entries (its-held own) stop.keep kept,
  places-halt m.entries (its-held own) stop.keep,
)

-- it keeps just that
idle-step : {m : DayState} {play : ClientPlay} (own : BalancedClient m (Playing play)) → IsHaltedAt m.heard m.entries
    (m.entries ++ halt_by own.c play.number (sent_by (booking_of play) m.heard)) (set m.states own.c Idle)
idle-step {m} {play} own =
    let keep = sent_by (booking_of play) m.heard in
    halted-step own (record {
      keep = keep;
      next = Idle;
      shut = tt;
      shares = λ t later.
          sym (share-done t m.heard (truncated_play play.start play.plan keep) later (omega arith));
    }) (record { sent = omega arith; most = omega arith })

step-play : {m : DayState} {play : ClientPlay} {done : Bool} (own : BalancedClient m (Playing play))
    → is_done m.heard play ≡ done → IsHaltedAt m.heard m.entries
    (m.entries ++ cond done (halt_by own.c play.number (total_bytes play.plan)) [])
    (set m.states own.c (cond done Idle (Playing play)))
step-play {m} {play} {done = true} own done =
    subst (λ (keep : ℕ). IsHaltedAt m.heard m.entries (m.entries ++ halt_by own.c play.number keep)
    (set m.states own.c Idle)) (all-sent m.heard play done) (idle-step own)
step-play {done = false} own done = kept-step own

step-state : (m : DayState) (state : ClientState) (own : BalancedClient m state)
    → IsHaltedAt m.heard m.entries (m.entries ++ done_halt m.heard own.c state)
    (set m.states own.c (after_play m.heard state))
step-state m (Playing play) own = step-play own refl
step-state m _ own = kept-step own

open-state : (m : DayState) (state : ClientState) (own : BalancedClient m state)
    → IsHaltedAt m.heard m.entries (m.entries ++ open_halt m.heard own.c state) (set m.states own.c (after_open state))
open-state m (Playing play) own = idle-step own
open-state m _ own = kept-step own

-- a way in which the plays of a day's clients are halted
record Halting : Type 0 where
  halt : ℕ → ℕ → ClientState → List Entry
  after : ℕ → ClientState → ClientState
  step : (m : DayState) (state : ClientState) (own : BalancedClient m state)
      → IsHaltedAt m.heard m.entries (m.entries ++ halt m.heard own.c state) (set m.states own.c (after m.heard state))

-- the plays of the clients before a place were halted so
record Ending (m : DayState) (h : Halting) (n : ℕ) : Type 0 where
  entries : List Entry
  states : List ClientState
  swept : IsSwept (h.after m.heard) n m.states states
  entries_are : entries ≡ m.entries ++ halt_entries (h.halt m.heard) 0 (take n m.states)
  is : IsHaltedAt m.heard m.entries entries states

-- the next client's play is halted too
ending-next : {m : DayState} {h : Halting} {n : ℕ} → n < length m.states → Ending m h n → Ending m h (n + 1)
ending-next {m} {h} {n} inside e =
    let state = get_or m.states n Idle in
    let halts = h.halt m.heard n state in
    let next = h.step (record { entries = e.entries; states = e.states; heard = m.heard }) state (record {
      c = n;
      inside = omega (arith, inside, e.swept.count);
      at = e.swept.later n (omega arith);
      balanced = e.is.balanced;
    }) in
    record {
      entries = e.entries ++ halts;
      states = set e.states n (h.after m.heard state);
      swept = swept-set inside e.swept;
      entries_are = grind (arith, entries-more (h.halt m.heard) m.states m.entries n inside);
      is = grind arith;
    }

ending : (m : DayState) (h : Halting) (n : ℕ) → n ≤ length m.states → IsBalanced m.entries m.states m.heard
    → Ending m h n
ending m h zero most balanced = grind (arith, common_steps)
ending m h (suc n) most balanced = search
    (arith, ending-next (omega (arith, most)) (ending m h n (omega (arith, most)) balanced))

all-ended : (m : DayState) (h : Halting) → IsBalanced m.entries m.states m.heard
    → IsHaltedAt m.heard m.entries (m.entries ++ halt_entries (h.halt m.heard) 0 m.states)
    (map (h.after m.heard) m.states)
all-ended m h balanced =
    let n = length m.states in
    let e = ending m h n (omega arith) balanced in
    let states = swept-all (h.after m.heard) n m.states e.states (omega arith) e.swept in
    let halts : List ClientState → List Entry = λ l. m.entries ++ halt_entries (h.halt m.heard) 0 l in
    let entries : e.entries ≡ halts m.states = e.entries_are ∙ ap halts (take_all n m.states (omega arith)) in
    let E : List Entry → Type 0 = λ es. IsHaltedAt m.heard m.entries es (map (h.after m.heard) m.states) in
    subst E entries (subst (λ (l : List ClientState). IsHaltedAt m.heard m.entries e.entries l) states e.is)

-- a slot comes
pub slot-halted : (old : DayState) (slot : ℕ) → old.heard ≤ slot → IsBalanced old.entries old.states old.heard
    → IsHaltedAt slot old.entries (at_slot old slot).entries (at_slot old slot).states
slot-halted old slot le balanced =
    let sent = map (after_sending slot) old.states in
    subst (λ (halts : List Entry). IsHaltedAt slot old.entries (old.entries ++ halts) (map (after_play slot) sent))
    (halt_entries-sent slot 0 old.states)
    (all-ended (record { entries = old.entries; states = sent; heard = slot })
    (record { halt = done_halt; after = after_play; step = step-state }) (balanced-sending old slot le balanced))

-- a day ends
pub last-halted : (m : DayState) → IsBalanced m.entries m.states m.heard
    → IsHaltedAt m.heard m.entries (last_journal m) (map after_open m.states)
last-halted m balanced =
    all-ended m (record { halt = open_halt; after = λ heard. after_open; step = open-state }) balanced

open-plays : (state : ClientState) → playing_one (after_open state) ≡ 0
open-plays state = search arith

pub last-open : (m : DayState) → IsBalanced m.entries m.states m.heard → open_count (last_journal m) ≡ 0
last-open m balanced = (last-halted m balanced).balanced.playing
    ∙ sum-mapped after_open playing_one (λ s. 0) open-plays m.states ∙ sum-zero (λ s. 0) (λ s. refl) m.states
