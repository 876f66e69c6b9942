-- What is sent of films on one connection: its plays, what is due of each, and their bytes joined.
use Rattle.std.specs.Prelude.{ℕ, ◌≡◌, ⊤, ◌+◌, min, List, [], ◌∷◌, ◌++◌, drop, take, sum_by, Option}
use Rattle.std.specs.Prelude.{Some, None}
use Rattle.plan_cert.specs.declared.Segment.{Segment}
use Rattle.plan_cert.specs.PlanSlots.{total_bytes}
use Rattle.slot_calendar.specs.Plays.{Play as Booked, truncated_play, sent_before}
use Rattle.film_frames.specs.FramedRuns.{run_pieces}
use Rattle.film_frames.specs.Tracks.{framed_bytes}
use Rattle.admission.specs.Histories.{play_admitted}
use Rattle.admission.specs.Makers.{PlacedEntry}
use Rattle.admission.specs.declared.entries.Answer.{Answer}
use Rattle.admission.specs.declared.entries.Answer.TheVariants.{Admitted}
use Rattle.admission.specs.declared.entries.Command.{Command}
use Rattle.admission.specs.declared.entries.Command.TheVariants.{Halt as HaltCommand}
use Rattle.session.specs.declared.states.Awaited.{Awaited}
use Rattle.session.specs.declared.states.Awaited.TheVariants.{Play}
use Rattle.session.specs.declared.states.Prepared.{Prepared}
use Rattle.conn.specs.InputSteps.{Outcome, Entered}

-- a play of a film: the slot in which it begins, its plan, and the bytes that are kept of it; the
-- frames and reports of its run (RFC 2326 section 10.12), and the place in them of the plan's first
-- byte
pub record FilmPlay : Type 0 where
  pub start : ℕ
  pub plan : List Segment
  pub keep : ℕ
  pub before : ℕ
  pub pieces : List (List ℕ)

-- the bytes of a play's frames and reports from the plan's first one on
abbrev pub film_of : FilmPlay → List ℕ
film_of play = drop play.before (framed_bytes play.pieces)

-- the bytes of a play that are due by the end of a slot: what its plan has by then, and none past
-- what is kept
abbrev pub due_of : ℕ → FilmPlay → ℕ
due_of slot play = min (sent_before play.plan play.start (slot + 1)) play.keep

-- the bytes that are due of plays by the end of a slot
abbrev pub due_by : ℕ → List FilmPlay → ℕ
due_by slot plays = sum_by (due_of slot) plays

-- the films of plays joined in order, each but the last ended after what is kept of it
abbrev pub bytes_of_plays : List FilmPlay → List ℕ
bytes_of_plays [] = []
bytes_of_plays (play ∷ []) = film_of play
bytes_of_plays (play ∷ next ∷ plays) =
    take play.keep (film_of play) ++ bytes_of_plays (next ∷ plays)

-- what is written of films by the end of a slot: of the films joined, as many bytes as are due
abbrev pub film_written : ℕ → List FilmPlay → List ℕ
film_written slot plays = take (due_by slot plays) (bytes_of_plays plays)

-- each play that another one follows was sent as far as it is kept
abbrev pub AreOver : ℕ → List FilmPlay → Type 0
AreOver slot (play ∷ next ∷ plays) = (due_of slot play ≡ play.keep) × AreOver slot (next ∷ plays)
AreOver slot _ = ⊤

-- what a connection asked the station for, and what the station answered
pub data StationRequest : Type 0 where
  Asks : Awaited → Outcome → StationRequest

-- what is kept of a play, where this is kept if no halt comes: what the next halt keeps, since a
-- connection's plays follow one another
abbrev pub kept_by : Command → ℕ → ℕ
kept_by (HaltCommand number keep) later = keep
kept_by _ later = later

abbrev pub kept_with : Outcome → ℕ → ℕ
kept_with (Entered placed) later = kept_by placed.entry.command later
kept_with _ later = later

abbrev pub kept_in : List StationRequest → ℕ → ℕ
kept_in [] all = all
kept_in (Asks asked outcome ∷ askings) all = kept_with outcome (kept_in askings all)

-- the play that begins in a slot, with what is kept of it by what is asked later
abbrev pub play_by : Prepared → ℕ → List StationRequest → FilmPlay
play_by prepared start askings = record {
  start = start;
  plan = prepared.plan;
  keep = kept_in askings (total_bytes prepared.plan);
  before = prepared.run.sent;
  pieces = run_pieces prepared.frames;
}

-- the play that an answer admits, if any
abbrev pub plays_admitted : Awaited → Answer → List StationRequest → List FilmPlay
plays_admitted (Play prepared) (Admitted start) askings = play_by prepared start askings ∷ []
plays_admitted _ _ askings = []

abbrev pub plays_begun : Awaited → Outcome → List StationRequest → List FilmPlay
plays_begun asked (Entered placed) askings = plays_admitted asked placed.entry.answer askings
plays_begun asked _ askings = []

-- the plays that were admitted, in order
abbrev pub plays_of : List StationRequest → List FilmPlay
plays_of [] = []
plays_of (Asks asked outcome ∷ askings) = plays_begun asked outcome askings ++ plays_of askings

-- what the link has booked of a play
abbrev pub booking_of : FilmPlay → Booked
booking_of play = truncated_play play.start play.plan play.keep

-- what is kept of a play by the entries after its own: what the next halt keeps, or all
abbrev pub kept_among : List PlacedEntry → ℕ → ℕ
kept_among [] all = all
kept_among (placed ∷ made) all = kept_by placed.entry.command (kept_among made all)

-- the plays that a connection's entries record, in order
abbrev pub booked_by : Option Booked → List PlacedEntry → List Booked
booked_by None made = []
booked_by (Some play) made = truncated_play play.start play.segments (kept_among made play.keep) ∷
    []

abbrev pub booked_plays : List PlacedEntry → List Booked
booked_plays [] = []
booked_plays (placed ∷ made) =
    booked_by (play_admitted placed.entry.command placed.entry.answer) made ++ booked_plays made
