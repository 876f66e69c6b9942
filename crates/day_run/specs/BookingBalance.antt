-- What the clients book is what the link's machine has booked.
use Rattle.std.specs.Prelude.{ℕ, ◌≡◌, ◌<◌, List, All, count_by, length, slice_index_or, sum_by}
use Rattle.std.specs.Prelude.{Some}
use Rattle.slot_calendar.specs.Plays.{share_at}
use Rattle.admission.specs.declared.entries.Entry.{Entry}
use Rattle.admission.specs.Histories.{IsHalt, open_count, state_after}
use Rattle.admission.specs.Machine.{AdmittedPlay, admitted_play, booked_in, play_numbered}
use Rattle.admission.specs.Makers.{AreHaltsOwn}
use Rattle.day_run.specs.Days.{DayState}
use Rattle.day_run.specs.ClientStates.{ClientState, Idle, Playing, Pausing, Paused, ClientPlay}
use Rattle.day_run.specs.ClientStates.{booking_of, is_playing}

-- the bytes that a client books in a slot
abbrev pub share_of : ℕ → ClientState → ℕ
share_of t Idle = 0
share_of t (Playing play) = share_at t (booking_of play)
share_of t (Pausing stop rest) = share_at t stop
share_of t (Paused rest) = 0

-- the plays that the machine has open for the clients
pub record IsHeld (entries : List Entry) (client : ℕ) (play : ClientPlay) : Type 0 where
  pub inside : play.number < length entries
  pub maker : (none : Entry) → (slice_index_or entries play.number none).maker ≡ client
  pub held : play_numbered play.number (state_after entries).held
      ≡ Some (admitted_play play.number play.start play.plan)

abbrev pub AreHeldOf : List Entry → ℕ → ClientState → Type 0
AreHeldOf entries client Idle = Unit {0}
AreHeldOf entries client (Playing play) = IsHeld entries client play
AreHeldOf entries client (Pausing stop rest) = Unit {0}
AreHeldOf entries client (Paused rest) = Unit {0}

-- each halt is of a play that was asked for before it, by the same maker
pub record AreOwnHalts (entries : List Entry) : Type 0 where
  pub earlier : (i number keep : ℕ) → IsHalt entries i number keep → number < i
  pub own : AreHaltsOwn entries

-- the clients book all that is booked in the slots to come; as many plays are open as clients play
pub record IsBalanced (entries : List Entry) (states : List ClientState) (heard : ℕ) : Type 0 where
  pub each : (t : ℕ) → heard < t → booked_in (state_after entries) t ≡ sum_by (share_of t) states
  pub held : (c : ℕ) → c < length states → AreHeldOf entries c (slice_index_or states c Idle)
  pub fresh : All (λ (h : AdmittedPlay). h.number < length entries) (state_after entries).held
  pub playing : open_count entries ≡ count_by is_playing states
  pub halts : AreOwnHalts entries

-- the clients and what they book, at a moment
pub record IsReady (moment : DayState) : Type 0 where
  pub count : length moment.states ≡ 256
  pub balanced : IsBalanced moment.entries moment.states moment.heard
