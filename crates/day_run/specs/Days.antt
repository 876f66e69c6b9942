-- A link's day: what the lines of a script bring on one link, line by line. Client C is maker C of
-- the link's machine, and maker 0 looks.
use Rattle.std.specs.Prelude.{ℕ, ◌+◌, ◌-◌, ◌≡◌, ◌<◌, ◌≤◌, ◌⊎◌, min, max, if◌then◌else◌, List, []}
use Rattle.std.specs.Prelude.{◌∷◌, ◌++◌, flat_map, length, map, replicate, sum_by, slice_index_or}
use Rattle.std.specs.Prelude.{slice_set}
use Rattle.std.specs.List.{range_with_len}
use Rattle.plan_cert.specs.declared.Segment.{Segment}
use Rattle.plan_cert.specs.PlanSlots.{total_bytes}
use Rattle.wire_curve.specs.declared.film.CurveFault.{CurveFault}
use Rattle.wire_curve.specs.CurveFaults.{HasCurveFault}
use Rattle.film_run.specs.Plans.{IsPlanOf, rest_sizes, timing_of}
use Rattle.slot_calendar.specs.declared.profiles.CapStep.{CapStep}
use Rattle.slot_calendar.specs.Profiles.{capacity_at}
use Rattle.admission.specs.declared.entries.Answer.{Answer}
use Rattle.admission.specs.declared.entries.Answer.TheVariants.{Admitted, Halted}
use Rattle.admission.specs.declared.entries.Command.{Command}
use Rattle.admission.specs.declared.entries.Command.TheVariants as commands
use Rattle.admission.specs.declared.entries.Entry.{Entry}
use Rattle.admission.specs.declared.entries.Full.{Full}
use Rattle.admission.specs.Books.{places_taken}
use Rattle.admission.specs.Histories.{IsAnswered, open_count, state_after}
use Rattle.admission.specs.Machine.{booked_in}
use Rattle.early_start.specs.StartSearch.{IsOffer, Offers}
use Rattle.report.specs.CalendarTexts.{calendar_text}
use Rattle.report.specs.EntryLines.{entry_line}
use Rattle.report.specs.JournalTexts.{journal_text}
use Rattle.vod_base.specs.declared.links.TheConstants.{LATEST_SLOT}
use Rattle.day_run.specs.declared.media.Source.{Source}
use Rattle.day_script.specs.declared.scripts.Line.{Line}
use Rattle.day_script.specs.declared.scripts.Line.TheVariants as lines
use Rattle.day_script.specs.LineTexts.{fault_text, full_text, offer_text, slot_text, state_text}
use Rattle.day_run.specs.ClientStates.{ClientState, Idle, Playing, Pausing, Paused, IfBusy, IsPause}
use Rattle.day_run.specs.ClientStates.{MediaContent, Rest, ClientPlay, after_play, after_sending}
use Rattle.day_run.specs.ClientStates.{booking_of, is_done, no_medium, sent_between, sent_by}
use Rattle.day_run.specs.ClientStates.{source_content, whole_rest}

-- the steps of the link's capacity, the most entries of its journal, the time of a slot in
-- 1/360,000 s, and what can be played
pub record SharedLink : Type 0 where
  pub steps : List CapStep
  pub limit : ℕ
  pub slot_units : ℕ
  pub media : List MediaContent

abbrev pub link_of : List CapStep → ℕ → ℕ → List Source → SharedLink
link_of steps limit slot_units sources =
    record {
      steps = steps;
      limit = limit;
      slot_units = slot_units;
      media = map (source_content slot_units) sources;
    }

-- a day as far as it has come: the journal, the clients, and the slot that was received last
pub record DayState : Type 0 where
  pub entries : List Entry
  pub states : List ClientState
  pub heard : ℕ

-- no client plays, and no slot was received
abbrev pub first_moment : DayState
first_moment = record { entries = []; states = replicate 256 Idle; heard = 0 }

abbrev pub state_at : DayState → ℕ → ClientState
state_at moment client = slice_index_or moment.states client Idle

abbrev pub entry_by : ℕ → Command → Answer → Entry
entry_by maker command answer = record { maker = maker; command = command; answer = answer }

-- all of a reel, the one at this place
abbrev pub rest_at : SharedLink → ℕ → ℕ → ℕ → Rest
rest_at link source buffer delay =
    whole_rest link.slot_units (slice_index_or link.media source no_medium) buffer delay

-- nothing but a text
pub record IsTold (told : List ℕ) (old new : DayState) (text : List ℕ) : Type 0 where
  pub kept : new ≡ old
  pub text_is : text ≡ told

-- The machine's answer is noted and printed, and the clients are then these.
pub record IsNoted (link : SharedLink) (entry : Entry) (states : List ClientState)
    (old new : DayState) (text : List ℕ) : Type 0 where
  pub answered : IsAnswered link.steps (state_after old.entries) entry
  pub new_is : new ≡ record {
    entries = old.entries ++ entry ∷ [];
    states = states;
    heard = old.heard;
  }
  pub text_is : text ≡ entry_line (length old.entries) entry

-- the journal has no room for so many more entries
abbrev pub full_of : List Entry → Full
full_of entries = record { entries = length entries; live = open_count entries }

pub record IsFull (link : SharedLink) (places : ℕ) (old new : DayState) (text : List ℕ)
    : Type 0 where
  pub full : link.limit < places_taken old.entries + places
  pub told : IsTold (full_text (full_of old.entries)) old new text

-- the curves of what is to be sent are refused
pub record IsFaulty (rest : Rest) (old new : DayState) (text : List ℕ) : Type 0 where
  pub fault : CurveFault
  pub fault_is : HasCurveFault (rest_sizes rest.sizes rest.run) (timing_of rest.playback rest.run)
      fault
  pub told : IsTold (fault_text fault) old new text

-- the clients, of which one begins a play where it was admitted
abbrev pub with_play : ℕ → Rest → List Segment → ℕ → Answer → List ClientState → List ClientState
with_play client rest plan number (Admitted start) states =
    slice_set states client (Playing (record {
      number = number;
      rest = rest;
      plan = plan;
      start = start;
    }))
with_play client rest plan number _ states = states

-- which client asks for a play, what is to be sent, and by which plan
pub record AskedPlay : Type 0 where
  pub client : ℕ
  pub rest : Rest
  pub plan : List Segment

-- the machine answers a play, for whose entry and whose halt's the journal has room
pub record IsAnsweredPlay (link : SharedLink) (asked : AskedPlay) (old new : DayState)
    (text : List ℕ) : Type 0 where
  pub room : places_taken old.entries + 2 ≤ link.limit
  pub answer : Answer
  pub noted : IsNoted link (entry_by asked.client (commands.Play old.heard asked.plan) answer)
      (with_play asked.client asked.rest asked.plan (length old.entries) answer old.states)
      old new text

-- there is a plan, and the journal has no room or the play is answered
pub record IsPlanned (link : SharedLink) (client : ℕ) (rest : Rest) (old new : DayState)
    (text : List ℕ) : Type 0 where
  pub plan : List Segment
  pub plan_is : IsPlanOf rest.sizes rest.playback rest.run plan
  pub done : IsFull link 2 old new text
      ⊎ IsAnsweredPlay link (record { client = client; rest = rest; plan = plan }) old new text

-- a client asks for what is to be sent: the curves are judged first, then the journal
abbrev pub IsAsked : SharedLink → ℕ → Rest → DayState → DayState → List ℕ → Type 0
IsAsked link client rest old new text = IsFaulty rest old new text
    ⊎ IsPlanned link client rest old new text

-- a client that plays, or whose pause isn't done, can't ask for a play; one that is paused begins
-- anew
abbrev pub IsPlayLine : SharedLink → ℕ → Rest → DayState → DayState → List ℕ → Type 0
IsPlayLine link client rest old new text =
    IfBusy (state_at old client) (IsTold state_text old new text)
    (IsAsked link client rest old new text)

-- a client that is paused goes on with what is left
abbrev pub IsResumeLine : SharedLink → ℕ → ClientState → DayState → DayState → List ℕ → Type 0
IsResumeLine link client Idle old new text = IsTold state_text old new text
IsResumeLine link client (Playing play) old new text = IsTold state_text old new text
IsResumeLine link client (Pausing stop rest) old new text = IsTold state_text old new text
IsResumeLine link client (Paused rest) old new text = IsAsked link client rest old new text

-- a play is halted at the boundary where its pause ends
pub record IsHaltedPlay (link : SharedLink) (client : ℕ) (play : ClientPlay) (old new : DayState)
    (text : List ℕ) : Type 0 where
  pub keep : ℕ
  pub state : ClientState
  pub pause : IsPause play old.heard keep state
  pub noted : IsNoted link (entry_by client (commands.Halt play.number keep) Halted)
      (slice_set old.states client state) old new text

-- a client that plays can be paused
abbrev pub IsPauseLine : SharedLink → ℕ → ClientState → DayState → DayState → List ℕ → Type 0
IsPauseLine link client Idle old new text = IsTold state_text old new text
IsPauseLine link client (Playing play) old new text = IsHaltedPlay link client play old new text
IsPauseLine link client (Pausing stop rest) old new text = IsTold state_text old new text
IsPauseLine link client (Paused rest) old new text = IsTold state_text old new text

-- the machine answers a look, for whose entry the journal has room
pub record IsAnsweredLook (link : SharedLink) (slot : ℕ) (old new : DayState) (text : List ℕ)
    : Type 0 where
  pub room : places_taken old.entries + 1 ≤ link.limit
  pub answer : Answer
  pub noted : IsNoted link (entry_by 0 (commands.Look slot) answer) old.states old new text

abbrev pub IsLookLine : SharedLink → ℕ → DayState → DayState → List ℕ → Type 0
IsLookLine link slot old new text = IsFull link 1 old new text
    ⊎ IsAnsweredLook link slot old new text

-- The earliest start within a wait is reported: of the starts after now and after the slot that was
-- received last. Nothing is booked.
pub record IsOffered (link : SharedLink) (rest : Rest) (wait : ℕ) (old new : DayState)
    (text : List ℕ) : Type 0 where
  pub plan : List Segment
  pub plan_is : IsPlanOf rest.sizes rest.playback rest.run plan
  pub found : Offers
  pub wait_is : found.wait ≡ wait
  pub found_is : IsOffer 0 (booked_in (state_after old.entries)) (capacity_at link.steps) plan
      (max (state_after old.entries).now old.heard + 1) found
  pub told : IsTold (offer_text found) old new text

abbrev pub IsOfferLine : SharedLink → Rest → ℕ → DayState → DayState → List ℕ → Type 0
IsOfferLine link rest wait old new text = IsFaulty rest old new text
    ⊎ IsOffered link rest wait old new text

-- the halt of a client's play that is done, which keeps all its bytes, and of one that is open,
-- which keeps what was sent
abbrev pub halt_by : ℕ → ℕ → ℕ → List Entry
halt_by client number keep = entry_by client (commands.Halt number keep) Halted ∷ []

abbrev pub done_halt : ℕ → ℕ → ClientState → List Entry
done_halt slot client Idle = []
done_halt slot client (Playing play) = if is_done slot play
    then halt_by client play.number (total_bytes play.plan) else []
done_halt slot client (Pausing stop rest) = []
done_halt slot client (Paused rest) = []

abbrev pub open_halt : ℕ → ℕ → ClientState → List Entry
open_halt heard client Idle = []
open_halt heard client (Playing play) = halt_by client play.number (sent_by (booking_of play) heard)
open_halt heard client (Pausing stop rest) = []
open_halt heard client (Paused rest) = []

-- such halts of all clients, in their order, from this client on
abbrev pub halt_entries : (ℕ → ClientState → List Entry) → ℕ → List ClientState → List Entry
halt_entries halt client [] = []
halt_entries halt client (state ∷ states) =
    halt client state ++ halt_entries halt (client + 1) states

-- the bytes that all clients are sent in the slots after the one that was received last up to this
-- one, and those booked there
abbrev pub sent_up_to : DayState → ℕ → ℕ
sent_up_to moment slot = sum_by (sent_between moment.heard slot) moment.states

abbrev pub booked_up_to : DayState → ℕ → ℕ
booked_up_to moment slot =
    sum_by (booked_in (state_after moment.entries)) (range_with_len (moment.heard
    + 1) (slot - moment.heard))

-- the halts of the plays that are done once a slot was sent
abbrev pub halts_at : DayState → ℕ → List Entry
halts_at moment slot = halt_entries (done_halt slot) 0 moment.states

-- The link comes to a slot: what is due is sent, and then the plays that are done are halted.
abbrev pub at_slot : DayState → ℕ → DayState
at_slot moment slot = record {
  entries = moment.entries ++ halts_at moment slot;
  states = map (after_play slot) (map (after_sending slot) moment.states);
  heard = slot;
}

abbrev pub slot_lines : DayState → ℕ → List ℕ
slot_lines moment slot =
    slot_text slot (sent_up_to moment slot) (booked_up_to moment slot)
    ++ journal_text (length moment.entries) (halts_at moment slot)

-- what a line makes of a moment, and what it prints
abbrev pub IsLine : SharedLink → Line → DayState → DayState → List ℕ → Type 0
IsLine link (lines.Play client source buffer delay) old new text =
    IsPlayLine link client (rest_at link source buffer delay) old new text
IsLine link (lines.Pause client) old new text =
    IsPauseLine link client (state_at old client) old new text
IsLine link (lines.Resume client) old new text =
    IsResumeLine link client (state_at old client) old new text
IsLine link (lines.Look slot) old new text = IsLookLine link (min slot LATEST_SLOT) old new text
IsLine link (lines.Slot slot) old new text = (new ≡ at_slot old slot) × (text ≡ slot_lines old slot)
IsLine link (lines.Offer client source buffer delay wait) old new text =
    IsOfferLine link (rest_at link source buffer delay) wait old new text

-- what lines make of a moment, one after the other, and what each of them prints
abbrev pub AreLineSteps : SharedLink → List Line → List (List ℕ) → DayState → DayState → Type 0
AreLineSteps link [] [] old new = new ≡ old
AreLineSteps link (line ∷ lines) (text ∷ texts) old new =
    (next : DayState) × (IsLine link line old next text × AreLineSteps link lines texts next new)
AreLineSteps link _ _ old new = ⊥

-- the halts of the plays that are open at a day's end
abbrev pub last_halts : DayState → List Entry
last_halts moment = halt_entries (open_halt moment.heard) 0 moment.states

abbrev pub last_journal : DayState → List Entry
last_journal moment = moment.entries ++ last_halts moment

-- their lines, and what is then booked
abbrev pub last_lines : DayState → List ℕ
last_lines moment =
    journal_text (length moment.entries) (last_halts moment)
    ++ calendar_text (state_after (last_journal moment)).now
    (booked_in (state_after (last_journal moment)))

-- A script's day: the journal, and the text that is printed, which is that of each line, in order,
-- and the end's.
pub record IsDay (link : SharedLink) (lines : List Line) (text : List ℕ) (journal : List Entry)
    : Type 0 where
  pub evening : DayState
  pub texts : List (List ℕ)
  pub run : AreLineSteps link lines texts first_moment evening
  pub text_is : text ≡ flat_map (λ (t : List ℕ). t) texts ++ last_lines evening
  pub journal_is : journal ≡ last_journal evening
