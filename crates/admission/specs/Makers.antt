-- The entries of each maker of a history.
use Rattle.std.specs.Prelude.{ℕ, ◌≡◌, ◌+◌, ◌<◌, ◌≤◌, ◌==◌, List, [], ◌∷◌, Some, All, length}
use Rattle.std.specs.Prelude.{slice_index_or, if◌then◌else◌}
use Rattle.plan_cert.specs.declared.Segment.{Segment}
use Rattle.plan_cert.specs.PlanSlots.{total_bytes}
use Rattle.slot_calendar.specs.Plays.{whole_play}
use Rattle.admission.specs.declared.entries.Entry.{Entry}
use Rattle.admission.specs.Histories.{Halts, IsHalt, play_admitted}

-- an entry with its place
pub record PlacedEntry : Type 0 where
  pub place : ℕ
  pub entry : Entry

-- the entries of a maker in a list whose first entry stands at `place`
abbrev pub made_from : ℕ → ℕ → List Entry → List PlacedEntry
made_from place maker [] = []
made_from place maker (e ∷ rest) =
    if e.maker == maker
    then (record { place = place; entry = e } ∷ made_from (place + 1) maker rest)
    else made_from (place + 1) maker rest

-- the entries of a maker in a history, with their places
abbrev pub entries_by : ℕ → List Entry → List PlacedEntry
entries_by maker entries = made_from 0 maker entries

-- each play is halted by its own maker
pub record AreHaltsOwn (entries : List Entry) : Type 0 where
  pub each : (i number keep : ℕ) (none : Entry) → IsHalt entries i number keep →
      (slice_index_or entries i none).maker ≡ (slice_index_or entries number none).maker

-- this entry admitted a play of this number and plan, which begins at slot `start`
pub record Admits (placed : PlacedEntry) (number start : ℕ) (segments : List Segment) : Type 0 where
  pub place_is : placed.place ≡ number
  pub admitted : play_admitted placed.entry.command placed.entry.answer ≡
      Some (whole_play start segments)

-- one of a maker's entries admitted this play, and none of them halts it; `keep` bytes are at most
-- those of its plan
pub record IsOpenAmong (mine : List PlacedEntry) (number keep : ℕ) : Type 0 where
  pub start : ℕ
  pub segments : List Segment
  pub index : ℕ
  pub inside : index < length mine
  pub admission : (none : PlacedEntry) → Admits (slice_index_or mine index none) number start
      segments
  pub unhalted : All (λ p. ¬ Halts number p.entry.command) mine
  pub small : keep ≤ total_bytes segments
