-- Where replies stand among the bytes of films (RFC 2326 section 10.12).
use Rattle.std.specs.Prelude.{ℕ, ◌≡◌, ◌+◌, ◌-◌, ◌<◌, ◌≤◌, ◌⊎◌, ⊤, ◌++◌, max, List, [], ◌∷◌}
use Rattle.film_frames.specs.Tracks.{IsBoundary}
use Rattle.conn.specs.EventSteps.{Round}
use Rattle.conn.specs.InputSteps.{Answered, Passed, ElementStep}
use Rattle.connection_laws.specs.Courses.{slot_in}
use Rattle.connection_laws.specs.Plays.{FilmPlay, due_by}
use Rattle.connection_laws.specs.Replies.{PlacedText}

-- a boundary in the films of plays joined: where one begins, the end of a frame or of a report, or
-- of what is kept of a play
abbrev pub IsBoundaryIn : List FilmPlay → ℕ → Type 0
IsBoundaryIn [] place = place ≡ 0
IsBoundaryIn (play ∷ plays) place =
    ((place ≤ play.keep) × IsBoundary play.pieces (play.before + place))
    ⊎ ((play.keep ≤ place) × IsBoundaryIn plays (place - play.keep))

-- the least boundary at or after a place
pub record IsNextIn (plays : List FilmPlay) (at place : ℕ) : Type 0 where
  pub boundary : IsBoundaryIn plays place
  pub after : at ≤ place
  pub least : (other : ℕ) → IsBoundaryIn plays other → at ≤ other → place ≤ other

-- a reply whose request was processed in a slot was sent by another slot: at the least boundary at
-- or after what was due then
pub record IsSentAt (now : ℕ) (plays : List FilmPlay) (slot : ℕ) (placed : PlacedText)
    : Type 0 where
  pub next : IsNextIn plays (due_by slot plays) placed.place
  pub reached : placed.place ≤ due_by now plays

-- or it waits: what is due hasn't reached that boundary
abbrev pub IsUnsentAt : ℕ → List FilmPlay → ℕ → Type 0
IsUnsentAt now plays slot = (place : ℕ) → IsBoundaryIn plays place → due_by slot plays ≤ place →
    due_by now plays < place

-- so it is of each reply, in the order of their requests, which were processed in these slots
abbrev pub AreSentAt : ℕ → List FilmPlay → List ℕ → List PlacedText → Type 0
AreSentAt now plays [] [] = ⊤
AreSentAt now plays [] (placed ∷ texts) = ⊥
AreSentAt now plays (slot ∷ slots) [] = IsUnsentAt now plays slot × AreSentAt now plays slots []
AreSentAt now plays (slot ∷ slots) (placed ∷ texts) = IsSentAt now plays slot placed
    × AreSentAt now plays slots texts

-- of each request the greatest slot that was received when it was processed
abbrev pub takings_slots : ℕ → List ElementStep → List ℕ
takings_slots slot [] = []
takings_slots slot (Passed n ∷ takings) = takings_slots slot takings
takings_slots slot (Answered message outcome parts ∷ takings) = slot ∷ takings_slots slot takings

abbrev pub slots_from : ℕ → List Round → List ℕ
slots_from slot [] = []
slots_from slot (round ∷ rounds) =
    takings_slots (max slot (slot_in round.event)) round.takings
    ++ slots_from (max slot (slot_in round.event)) rounds
