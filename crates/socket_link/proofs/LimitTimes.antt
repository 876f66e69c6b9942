-- The times that limits count from, after calls of which some move no byte.
use Rattle.std.proofs.Common.{◌≡◌, ℕ, ◌-◌, ◌^◌, ◌*◌, ◌<◌, ◌≤◌, List, [], ◌∷◌, ◌++◌, All, Option, Some, None, Bool, true}
use Rattle.std.proofs.Common.{false, ◌||◌, nat_le, unwrap_or, refl, ap, ◌∙◌, arith}
use Rattle.std.proofs.lemmas.Bool.{false_from_ne_true, le-leb, leb-true, or_from, or_left}
use Rattle.std.proofs.lemmas.List.Elements.{All-head, All-tail}
use Rattle.socket_link.specs.declared.sockets.Purpose.{Purpose}
use Rattle.socket_link.specs.declared.sockets.Purpose.TheVariants.{Accept, Slot, Idle, Patience, End}
use Rattle.socket_link.specs.declared.limits.Watch.{Watch}
use Rattle.socket_link.specs.Calls.{SocketCall, GaveBytes, TookBytes, ReadClock}
use Rattle.socket_link.specs.Limits.{clocked, has_passed, is_overdue, no_watch, watched, watch_of}
use Rattle.socket_link.specs.QuietCalls.{IsBeforePatience, IsQuiet, TakesNothing}
use Rattle.socket_link.proofs.Appends.{watch_of-append}

-- ---- one call

-- a quiet call changes neither time that idle readings look at
pub record SameIdle (w v : Watch) : Type 0 where
  pub active : v.active ≡ w.active
  pub unanswered : v.unanswered ≡ w.unanswered

quiet_call : (w : Watch) (call : SocketCall) → IsQuiet call → SameIdle w (watched w call)
quiet_call w (GaveBytes bytes) quiet = absurd quiet
quiet_call w (TookBytes bytes) quiet = absurd quiet
quiet_call w (ReadClock Accept time) quiet = absurd quiet
quiet_call w _ quiet = record { active = refl; unanswered = refl }

-- a call that takes nothing leaves the accept that waits for an answer
same_unanswered : (w : Watch) (call : SocketCall) → TakesNothing call → (watched w call).unanswered ≡ w.unanswered
same_unanswered w (TookBytes bytes) none = absurd none
same_unanswered w (ReadClock Accept time) none = absurd none
same_unanswered w _ none = refl

-- and the time since which writes take nothing, once there is one
same_stuck : (w : Watch) (call : SocketCall) (first : ℕ) → TakesNothing call → w.stuck ≡ Some first →
    (watched w call).stuck ≡ Some first
same_stuck w (TookBytes bytes) first none is = absurd none
same_stuck w (ReadClock Accept time) first none is = absurd none
same_stuck w (ReadClock Patience time) first none is = ap (λ (o : Option ℕ). Some (unwrap_or o time)) is
same_stuck w _ first none is = is

-- before a patience reading there is none
not_stuck : (w : Watch) (call : SocketCall) → IsBeforePatience call → w.stuck ≡ None → (watched w call).stuck ≡ None
not_stuck w (TookBytes bytes) none is = absurd none
not_stuck w (ReadClock Accept time) none is = absurd none
not_stuck w (ReadClock Patience time) none is = absurd none
not_stuck w _ none is = is

-- ---- several calls

pub quiet_calls : (w : Watch) (calls : List SocketCall) → All IsQuiet calls → SameIdle w (watch_of w calls)
quiet_calls w [] quiet = record { active = refl; unanswered = refl }
quiet_calls w (call ∷ calls) quiet =
    let first = quiet_call w call (All-head IsQuiet call calls quiet) in
    let rest = quiet_calls (watched w call) calls (All-tail IsQuiet call calls quiet) in
    record { active = rest.active ∙ first.active; unanswered = rest.unanswered ∙ first.unanswered }

pub unanswered_after : (w : Watch) (calls : List SocketCall) → All TakesNothing calls →
    (watch_of w calls).unanswered ≡ w.unanswered
unanswered_after w [] none = refl
unanswered_after w (call ∷ calls) none =
    unanswered_after (watched w call) calls (All-tail TakesNothing call calls none)
    ∙ same_unanswered w call (All-head TakesNothing call calls none)

pub stuck_after : (w : Watch) (calls : List SocketCall) (first : ℕ) → All TakesNothing calls → w.stuck ≡ Some first →
    (watch_of w calls).stuck ≡ Some first
stuck_after w [] first none is = is
stuck_after w (call ∷ calls) first none is =
    stuck_after (watched w call) calls first (All-tail TakesNothing call calls none)
    (same_stuck w call first (All-head TakesNothing call calls none) is)

pub not_stuck_after : (w : Watch) (calls : List SocketCall) → All IsBeforePatience calls → w.stuck ≡ None →
    (watch_of w calls).stuck ≡ None
not_stuck_after w [] none is = is
not_stuck_after w (call ∷ calls) none is =
    not_stuck_after (watched w call) calls (All-tail IsBeforePatience call calls none)
    (not_stuck w call (All-head IsBeforePatience call calls none) is)

-- ---- what an idle reading finds

-- whether it ends a connection with these times
abbrev pub idle_of : Option ℕ → ℕ → ℕ → Bool
idle_of unanswered active time =
    has_passed (15 * 10 ^ 9) unanswered time || has_passed (3600 * 10 ^ 9) (Some active) time

pub idle_is : (w : Watch) (unanswered : Option ℕ) (active time : ℕ) → w.unanswered ≡ unanswered → w.active ≡ active →
    is_overdue w Idle time ≡ idle_of unanswered active time
idle_is w unanswered active time one other =
    ap (λ (u : Option ℕ). idle_of u w.active time) one ∙ ap (λ (a : ℕ). idle_of unanswered a time) other

pub latest_is : (v : Watch) (purpose : Purpose) (time : ℕ) → (clocked v purpose time).latest ≡ time
latest_is v Accept time = refl
latest_is v _ time = refl

pub idle-first-send : (before after : List SocketCall) (accept time : ℕ) → All TakesNothing after →
    15 * 10 ^ 9 ≤ time - accept →
    is_overdue (watch_of no_watch (before ++ ReadClock Accept accept ∷ after)) Idle time ≡ true
idle-first-send before after accept time none late =
    let was = clocked (watch_of no_watch before) Accept accept in
    let now = watch_of was after in
    ap (λ (v : Watch). is_overdue v Idle time) (watch_of-append no_watch before (ReadClock Accept accept ∷ after))
    ∙ idle_is now (Some accept) now.active time (unanswered_after was after none) refl
    ∙ or_left (nat_le (15 * 10 ^ 9) (time - accept)) (nat_le (3600 * 10 ^ 9) (time - now.active))
    (le-leb (15 * 10 ^ 9) (time - accept) late)

not_yet : (limit passed : ℕ) → passed < limit → nat_le limit passed ≡ false
not_yet limit passed early =
    false_from_ne_true (nat_le limit passed) (λ yes_. omega (arith, early, leb-true limit passed yes_))

pub idle-early : (before quiet : List SocketCall) (accept time : ℕ) → All IsQuiet quiet →
    time - accept < 15 * 10 ^ 9 →
    is_overdue (watch_of no_watch (before ++ ReadClock Accept accept ∷ quiet)) Idle time ≡ false
idle-early before quiet accept time all early =
    let was = clocked (watch_of no_watch before) Accept accept in
    let same = quiet_calls was quiet all in
    ap (λ (v : Watch). is_overdue v Idle time) (watch_of-append no_watch before (ReadClock Accept accept ∷ quiet))
    ∙ idle_is (watch_of was quiet) (Some accept) accept time same.unanswered same.active
    ∙ or_from (nat_le (15 * 10 ^ 9) (time - accept)) (nat_le (3600 * 10 ^ 9) (time - accept))
    (not_yet (15 * 10 ^ 9) (time - accept) early) (not_yet (3600 * 10 ^ 9) (time - accept) (omega (arith, early)))
