-- What is true for a day between its lines.
use Rattle.std.specs.Prelude.{ℕ, ◌≡◌, ◌≤◌, ◌++◌, List, Result, Ok, Err, length, map, drop, flat_map}
use Rattle.admission.specs.declared.entries.Entry.{Entry}
use Rattle.admission.specs.Histories.{state_after}
use Rattle.early_start.specs.StartSearch.{Offers}
use Rattle.wire_curve.specs.declared.film.CurveRefused.{CurveRefused}
use Rattle.wire_curve.specs.declared.film.CurveRefused.TheVariants.{Fault, NoMemory}
use Rattle.day_script.specs.declared.scripts.Line.{Line}
use Rattle.vod_base.specs.declared.limits.TheConstants.{MAX_BYTES, MAX_DELAY}
use Rattle.vod_base.specs.declared.links.TheConstants.{LATEST_SLOT}
use Rattle.day_run.specs.declared.clients.Client.{Client}
use Rattle.day_run.specs.declared.machine.DayMachine.{DayMachine}
use Rattle.day_run.specs.declared.machine.LineAnswer.{LineAnswer}
use Rattle.day_run.specs.declared.machine.LineAnswer.TheVariants as tolds
use Rattle.day_run.specs.Clients.{AreBooked, AreGoing, AreTimed, AreUndone, state_of}
use Rattle.report.specs.JournalTexts.{journal_text}
use Rattle.day_run.specs.Days.{AreLineSteps, SharedLink, DayState, first_moment}
use Rattle.day_script.specs.LineTexts.{fault_text, full_text, offer_text, state_text}
use Rattle.day_run.specs.MediaContents.{media_content}

-- the clients go on soundly, none of their plays is done, and the book has them open; the machine's
-- now isn't later than the slot that was received last, to which their plays have come
pub record IsSoundDay (slot_units heard : ℕ) (entries : List Entry) (clients : List Client)
    : Type 0 where
  pub count : length clients ≡ 256
  pub some_slot_units : 1 ≤ slot_units
  pub slot_units_fit : slot_units ≤ 360000
  pub heard_fits : heard ≤ LATEST_SLOT
  pub now_heard : (state_after entries).now ≤ heard
  pub going : AreGoing clients
  pub undone : AreUndone (length clients) clients
  pub booked : AreBooked entries clients
  pub timed : AreTimed heard clients

abbrev pub IsDayMachine : DayMachine → Type 0
IsDayMachine r = IsSoundDay r.slot_units r.heard r.book.entries r.clients.items

-- the link of a day, and how far the day has come
abbrev pub link_on : DayMachine → SharedLink
link_on r = record {
  steps = r.book.steps;
  limit = r.book.limit;
  slot_units = r.slot_units;
  media = map (media_content r.slot_units) r.media.now;
}

abbrev pub day_state_of : DayMachine → DayState
day_state_of r = record {
  entries = r.book.entries;
  states = map state_of r.clients.items;
  heard = r.heard;
}

-- the text of what a client is answered, by the entries
abbrev pub reply_text : List Entry → LineAnswer → List ℕ
reply_text entries (tolds.Entry place) = journal_text place (drop place entries)
reply_text entries (tolds.Full full) = full_text full
reply_text entries tolds.State = state_text
reply_text entries (tolds.Fault fault) = fault_text fault

-- a fact of the lines of an offer, or of the curves' fault; of none where memory ran out
abbrev pub IfSaid : Result Offers CurveRefused → (List ℕ → Type 0) → Type 0
IfSaid (Ok found) Is = Is (offer_text found)
IfSaid (Err (Fault fault)) Is = Is (fault_text fault)
IfSaid (Err NoMemory) Is = Unit {0}

-- what was printed after a text
pub record IsPrinted (before after : List ℕ) (Is : List ℕ → Type 0) : Type 0 where
  pub text : List ℕ
  pub after_is : after ≡ before ++ text
  pub is : Is text

-- lines were run from a day's beginning on, and this is all that they printed
pub record HasRun (link : SharedLink) (lines : List Line) (text : List ℕ) (moment : DayState)
    : Type 0 where
  pub texts : List (List ℕ)
  pub text_is : text ≡ flat_map (λ (t : List ℕ). t) texts
  pub run : AreLineSteps link lines texts first_moment moment

-- the link and the sources stay
pub record IsKept (old new : DayMachine) : Type 0 where
  pub link : link_on new ≡ link_on old
  pub steps : new.book.steps ≡ old.book.steps
  pub media : new.media.now ≡ old.media.now

-- the ranges of what is asked for
pub record IsWithinRanges (slot_units buffer delay : ℕ) : Type 0 where
  pub some_slot_units : 1 ≤ slot_units
  pub slot_units_fit : slot_units ≤ 360000
  pub some_buffer : 1 ≤ buffer
  pub buffer_fits : buffer ≤ MAX_BYTES
  pub delay_fits : delay ≤ MAX_DELAY
