-- How a slot carries a state on.
use Rattle.std.specs.Prelude.{ℕ, ◌≡◌, ◌≤◌, ⊤}
use Rattle.plan_cert.specs.PlanSlots.{total_bytes}
use Rattle.pacer.specs.PacerStates.{IsPacerState, PacerState}
use Rattle.session.specs.declared.states.State.{State}
use Rattle.session.specs.declared.states.State.TheVariants.{Init, Ready, Playing, Stopping}
use Rattle.session.specs.ResumedPlays.{IsPacedPlay}

-- the same sending, in which only more may be due
pub record IsSamePacing (old new : PacerState) : Type 0 where
  pub pacing : IsPacerState new
  pub pieces : new.pieces ≡ old.pieces
  pub before : new.before ≡ old.before
  pub plan : new.plan ≡ old.plan
  pub start : new.start ≡ old.start
  pub keep : new.keep ≡ old.keep
  pub due : old.due ≤ new.due

-- the same state, but for what was sent
abbrev pub IsCarried : State → State → Type 0
IsCarried Init Init = ⊤
IsCarried (Ready setup paused) (Ready s p) = (s ≡ setup) × (p ≡ paused)
IsCarried (Playing setup play) (Playing s p) =
    (s ≡ setup) × (p.run ≡ play.run) × (p.place ≡ play.place) × (p.start ≡ play.start)
    × (p.plan ≡ play.plan)
    × IsSamePacing play.pacer p.pacer
IsCarried (Stopping setup stop) (Stopping s p) =
    (s ≡ setup) × (p.paused ≡ stop.paused) × (p.start ≡ stop.start)
    × IsSamePacing stop.pacer p.pacer
IsCarried _ _ = ⊥

-- all that is due was sent
abbrev pub IsEven : State → Type 0
IsEven (Playing setup play) = play.pacer.due ≡ play.pacer.sent
IsEven (Stopping setup stop) = stop.pacer.due ≡ stop.pacer.sent
IsEven _ = ⊤

abbrev pub IsPacingIn : State → Type 0
IsPacingIn (Playing setup play) = IsPacerState play.pacer
IsPacingIn (Stopping setup stop) = IsPacerState stop.pacer
IsPacingIn _ = ⊤

-- so many bytes are due and weren't sent
abbrev pub IsLeft : State → ℕ → Type 0
IsLeft (Playing setup play) left = left ≡ 0 → play.pacer.due ≡ play.pacer.sent
IsLeft (Stopping setup stop) left = left ≡ 0 → stop.pacer.due ≡ stop.pacer.sent
IsLeft _ left = ⊤

-- a halt is asked for in Playing, within the plan
abbrev pub IsHaltIn : State → ℕ → Type 0
IsHaltIn (Playing setup play) keep = keep ≤ total_bytes play.plan
IsHaltIn _ keep = ⊥

-- a play's pacing, with the play's plan
abbrev pub IsPlayIn : State → Type 0
IsPlayIn (Playing setup play) = IsPacedPlay play
IsPlayIn _ = ⊤

-- the state as soon as the reply of a PAUSE or a TEARDOWN was sent
abbrev pub after_stop : State → State
after_stop (Stopping setup stop) = Ready setup stop.paused
after_stop state = state
