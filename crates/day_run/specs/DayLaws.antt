-- What is true for every day.
use Rattle.std.specs.Prelude.{ℕ, ◌≡◌, ◌+◌, ◌-◌, ◌*◌, ◌<◌, ◌≤◌, ◌⊎◌, ◌++◌, List, [], Option, Some}
use Rattle.std.specs.Prelude.{Bool, true, false, None, All, codes, count_by, flat_map, fold, length}
use Rattle.std.specs.Prelude.{map, max, slice_index_or, sum_by, take}
use Rattle.std.specs.List.{range_with_len}
use Rattle.admission.specs.Histories.{booked_after, is_admission, is_halt, state_after}
use Rattle.film_make.specs.Generator.{words_of}
use Rattle.admission.specs.Machine.{start_after}
use Rattle.early_start.specs.declared.Tried.{Tried}
use Rattle.vod_base.specs.Fields.{field}
use Rattle.slot_calendar.specs.Calendars.{HasRoom, IsFirstOverflow}
use Rattle.plan_cert.specs.declared.Segment.{Segment}
use Rattle.slot_calendar.specs.declared.profiles.CapStep.{CapStep}
use Rattle.slot_calendar.specs.Profiles.{capacity_at}
use Rattle.admission.specs.declared.entries.Command.{Command}
use Rattle.admission.specs.declared.entries.Command.TheVariants as commands
use Rattle.admission.specs.declared.entries.Entry.{Entry}
use Rattle.day_script.specs.declared.fair_totals.EntryCounts.{EntryCounts}
use Rattle.day_script.specs.declared.fair_totals.FairTotals.{FairTotals}
use Rattle.plan_cert.specs.PlanSlots.{sum_through, total_bytes}
use Rattle.film_run.specs.Units.{AreUnitSizes}
use Rattle.admission.specs.declared.book.TheConstants.{MAX_ENTRIES}
use Rattle.day_run.specs.Days.{AreLineSteps, IsLine, IsTold, SharedLink, DayState, booked_up_to}
use Rattle.day_run.specs.Days.{first_moment, sent_up_to}
use Rattle.film_frames.specs.Tracks.{IsBoundary}
use Rattle.film_run.specs.Plans.{CanPlay, IsPlanOf}
use Rattle.day_run.specs.ClientStates.{ClientState, Idle, Playing, Pausing, Paused, ClientPlay}
use Rattle.day_run.specs.ClientStates.{Rest, MediaContent, source_content}
use Rattle.day_run.specs.FairDays.{AreTurns, FairTurn, after_traces, at_later, fair_link}
use Rattle.day_script.specs.LineTexts.{fair_text, start_words, tried_text}
use Rattle.day_run.specs.declared.media.Source.{Source}
use Rattle.day_script.specs.declared.scripts.Line.{Line}
use Rattle.day_script.specs.declared.scripts.Line.TheVariants.{Play, Pause, Resume, Look, Slot}
use Rattle.day_script.specs.declared.scripts.Line.TheVariants.{Offer}

-- a reel that can be played: its sizes are those of a trace, and its pictures have a time
pub record IsSoundMedia (medium : MediaContent) : Type 0 where
  pub sizes : AreUnitSizes medium.sizes
  pub some_picture_units : 1 ≤ medium.picture_units
  pub picture_units_fit : medium.picture_units ≤ 360000

-- a film or trace that can be played, in slots from 1/360,000 s to 1 s
abbrev pub IsPlayable : Source → Type 0
IsPlayable source = (slot_units : ℕ) → 1 ≤ slot_units → slot_units ≤ 360000 →
    IsSoundMedia (source_content slot_units source)

-- a link whose slots are from 1/360,000 s to 1 s, and whose reels can be played
pub record IsLink (link : SharedLink) : Type 0 where
  pub some_slot_units : 1 ≤ link.slot_units
  pub slot_units_fit : link.slot_units ≤ 360000
  pub media : (i : ℕ) (none : MediaContent) → i < length link.media →
      IsSoundMedia (slice_index_or link.media i none)

-- What is left for a client can be played, and what was sent of it are complete frames and reports.
pub record IsSoundRest (rest : Rest) : Type 0 where
  pub can : CanPlay rest.sizes rest.playback rest.run
  pub boundary : IsBoundary rest.pieces rest.run.sent

-- A play is sent by the plan of what was left as it began, and in the slot that was received last
-- the plan had bytes left: a play is halted in the slot of its last byte.
pub record IsSoundPlay (heard : ℕ) (play : ClientPlay) : Type 0 where
  pub rest : IsSoundRest play.rest
  pub plan : IsPlanOf play.rest.sizes play.rest.playback play.rest.run play.plan
  pub left : play.start ≤ heard → sum_through play.plan (heard - play.start) < total_bytes play.plan

abbrev pub IsSoundClient : ℕ → ClientState → Type 0
IsSoundClient heard Idle = Unit {0}
IsSoundClient heard (Playing play) = IsSoundPlay heard play
IsSoundClient heard (Pausing stop rest) = IsSoundRest rest
IsSoundClient heard (Paused rest) = IsSoundRest rest

-- A day's moment after so many of its lines: what the clients are sent in the slots up to any later
-- one, after the slot that was received last, is what is booked there, and within the capacity of
-- those slots.
pub record SentIsBookedAfter (link : SharedLink) (lines : List Line) (count : ℕ) : Type 0 where
  pub texts : List (List ℕ)
  pub moment : DayState
  pub run : AreLineSteps link (take count lines) texts first_moment moment
  pub sent : (slot : ℕ) → moment.heard ≤ slot → sent_up_to moment slot ≡ booked_up_to moment slot
  pub within : (slot : ℕ) → moment.heard ≤ slot → sent_up_to moment slot ≤
      sum_by (capacity_at link.steps) (range_with_len (moment.heard + 1) (slot - moment.heard))

-- a plan that begins in a slot has room in each slot, beside all that is booked at a moment
abbrev pub HasRoomFor : SharedLink → DayState → List Segment → ℕ → Type 0
HasRoomFor link moment plan start =
    HasRoom 0 (booked_after moment.entries) (capacity_at link.steps) start plan

-- a start at which it has none, with the first slot without room
pub record IsWithoutRoom (link : SharedLink) (moment : DayState) (plan : List Segment) (start : ℕ)
    (tried : Tried) : Type 0 where
  pub start_is : tried.start ≡ start
  pub over : IsFirstOverflow 0 (booked_after moment.entries) (capacity_at link.steps) start plan
      tried.over

-- of the starts from one up to another this is the least that fits; None where none fits
abbrev pub IsLeast : (ℕ → Type 0) → ℕ → ℕ → Option ℕ → Type 0
IsLeast FitsAt first last (Some start) =
    (first ≤ start) × (start ≤ last) × FitsAt start
    × ((earlier : ℕ) → first ≤ earlier → earlier < start → ¬ FitsAt earlier)
IsLeast FitsAt first last None = (start : ℕ) → first ≤ start → start ≤ last → ¬ FitsAt start

-- so many starts were tried in vain, from the first one on
abbrev pub IsCount : ℕ → ℕ → Option ℕ → ℕ → Type 0
IsCount first last (Some start) count = first + count ≡ start
IsCount first last None count = first + count ≡ last + 1

-- What an offer answers at a moment: of the starts from the one that a play would get which is
-- asked for in the slot that was received last, up to the wait, the least at which the entire plan
-- has room beside all that is booked; and for each earlier one, in order, the first slot without
-- room.
pub record IsOfferAnswer (link : SharedLink) (rest : Rest) (wait : ℕ) (moment : DayState)
    (text : List ℕ) : Type 0 where
  pub plan : List Segment
  pub plan_is : IsPlanOf rest.sizes rest.playback rest.run plan
  pub first : ℕ
  pub first_is : first ≡ start_after (state_after moment.entries) moment.heard
  pub start : Option ℕ
  pub least : IsLeast (HasRoomFor link moment plan) first (first + wait) start
  pub tried : List Tried
  pub count : IsCount first (first + wait) start (length tried)
  pub each : (i : ℕ) (none : Tried) → i < length tried →
      IsWithoutRoom link moment plan (first + i) (slice_index_or tried i none)
  pub text_is : text ≡ flat_map tried_text tried
      ++ (start_words start ++ field (codes " tried=") (length tried) ++ codes "\n")

-- The bytes that are sent in the slots of a turn, up to any of them, are those that the day's
-- journal books there, and no more than the capacity of those slots. In each one of these slots
-- exactly the bytes that the journal books in it are sent, within its own capacity.
pub record IsTurnWithinCapacity (steps : List CapStep) (journal : List Entry) (turn : FairTurn)
    : Type 0 where
  pub sent : (slot : ℕ) → turn.old.heard ≤ slot → slot ≤ turn.mid.heard →
      sent_up_to turn.old slot ≡ sum_by (booked_after journal)
      (range_with_len (turn.old.heard + 1) (slot - turn.old.heard))
  pub within : (slot : ℕ) → turn.old.heard ≤ slot → slot ≤ turn.mid.heard →
      sent_up_to turn.old slot ≤ sum_by (capacity_at steps)
      (range_with_len (turn.old.heard + 1) (slot - turn.old.heard))
  pub each_slot : (slot : ℕ) → turn.old.heard ≤ slot → slot < turn.mid.heard →
      (sent_up_to turn.old (slot + 1) ≡ sent_up_to turn.old slot + booked_after journal (slot + 1))
      × (booked_after journal (slot + 1) ≤ capacity_at steps (slot + 1))

-- a number's turns, in each of which what is sent is what the journal books, within the capacity
pub record SentIsBookedEachTurn (steps : List CapStep) (number plays : ℕ) (journal : List Entry)
    : Type 0 where
  pub turns : List FairTurn
  pub evening : DayState
  pub count : length turns ≡ plays
  pub run : AreTurns (fair_link steps (words_of number)) (after_traces 16 (words_of number)) turns
      first_moment evening
  pub each : All (IsTurnWithinCapacity steps journal) turns

-- a command asks for a play
abbrev pub is_play : Command → Bool
is_play (commands.Play slot segments) = true
is_play _ = false

-- How many entries of a large day's journal have each answer: each play that was asked for is
-- admitted or overflows a slot, and each one that was admitted is halted.
pub record AreEntryCounts (entries : EntryCounts) (journal : List Entry) : Type 0 where
  pub admitted_is : entries.admitted ≡ count_by (λ (e : Entry). is_admission e.answer) journal
  pub halted_is : entries.halted ≡ count_by (λ (e : Entry). is_halt e.command) journal
  pub plays_are : entries.admitted + entries.overflows ≡
      count_by (λ (e : Entry). is_play e.command) journal
  pub all_halted : entries.halted ≡ entries.admitted

-- what the line of a large day says: a turn brings at most three slots; as many bytes were sent as
-- the journal books in all slots up to the last; the peak is the most that it books in one of them,
-- which is no more than the greatest capacity. Where the journal has two places for each turn, it
-- is never full.
pub record IsFairLine (steps : List CapStep) (plays : ℕ) (text : List ℕ) (journal : List Entry)
    : Type 0 where
  pub counts : FairTotals
  pub entries : EntryCounts
  pub text_is : text ≡ fair_text counts entries
  pub entries_are : AreEntryCounts entries journal
  pub turns_are : counts.turns ≡ plays
  pub never_full : 2 * plays ≤ MAX_ENTRIES → counts.full ≡ 0
  pub last : counts.last ≤ 3 * plays
  pub balanced : counts.sent ≡ counts.booked
  pub booked_is : counts.booked ≡ sum_by (booked_after journal) (range_with_len 1 counts.last)
  pub peak_is : counts.peak ≡ fold max 0 (map (booked_after journal) (range_with_len 1 counts.last))
  pub within : (most : ℕ) → ((t : ℕ) → capacity_at steps t ≤ most) → counts.peak ≤ most

-- the lines that a turn of a large day brings: a play of one of its 16 traces, for a buffer of
-- 16,384 to 32,767 bytes and a start delay of at most 25 slots; a pause; or a resume
abbrev pub IsDrawnLine : Line → Type 0
IsDrawnLine (Play client source buffer delay) =
    (client < 256) × (source < 16) × (16384 ≤ buffer) × (buffer < 32768) × (delay ≤ 25)
IsDrawnLine (Pause client) = client < 256
IsDrawnLine (Resume client) = client < 256
IsDrawnLine (Look slot) = ⊥
IsDrawnLine (Slot slot) = ⊥
IsDrawnLine (Offer client source buffer delay wait) = ⊥

-- a turn of a large day: the link comes to a slot that is at most three later, or stays at its own;
-- then such a line is run, or nothing is done
pub record IsDrawnTurn (link : SharedLink) (turn : FairTurn) : Type 0 where
  pub later : ℕ
  pub few : later ≤ 3
  pub mid_is : turn.mid ≡ at_later turn.old later
  pub done : IsTold [] turn.mid turn.new turn.text
      ⊎ ((line : Line) × (IsDrawnLine line × IsLine link line turn.mid turn.new turn.text))
