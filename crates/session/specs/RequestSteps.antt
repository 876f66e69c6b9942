-- What each call of a session makes of it.
use Rattle.std.specs.Int.{w64, to_be_bytes}
use Rattle.hex.specs.Hex.{encode_lower}
use Rattle.film_streams.specs.declared.settings.Settings.{Settings}
use Rattle.film_streams.specs.declared.stream_numbers.StreamSource.{StreamSource}
use Rattle.std.specs.Prelude.{ℕ, ◌≡◌, ◌+◌, ◌-◌, ◌*◌, ◌^◌, slice_index, ◌++◌, ◌⊎◌, if◌then◌else◌}
use Rattle.std.specs.Prelude.{Bool, true, false, List, [], ◌∷◌, Option, Some, None, slice_get}
use Rattle.rtsp_text.specs.Fields.{first_sequence}
use Rattle.rtsp_text.specs.Requests.{IsFault}
use Rattle.rtsp_text.specs.declared.requests.Request.{Request}
use Rattle.rtsp_text.specs.declared.requests.RequestFault.{RequestFault}
use Rattle.admission.specs.declared.entries.Answer.TheVariants.{Admitted, Halted, Overflow, Looked}
use Rattle.session.specs.declared.commands.Ask.{Ask}
use Rattle.session_records.specs.declared.notes.OfferNote.{OfferNote}
use Rattle.session_records.specs.declared.records.TheConstants.{RESERVED_LOOKS}
use Rattle.session_records.specs.declared.notes.Receipt.TheVariants.{Entry, Full}
use Rattle.session.specs.declared.states.Awaited.{Awaited}
use Rattle.session.specs.declared.states.Awaited.TheVariants.{Nothing, Play}
use Rattle.film_streams.specs.declared.stream_numbers.Counts.{Counts}
use Rattle.session.specs.RefusalOrder.{IsReadAs}
use Rattle.rtsp_methods.specs.Refusals.{fault_refusal}
use Rattle.session.specs.Methods.{HearsRequest, IsRefused}
use Rattle.rtsp_replies.specs.Replies.{full_text, look_body, offer_body, overflow_text}
use Rattle.rtsp_replies.specs.Replies.{parameters_text, started_text}
use Rattle.session.specs.declared.states.AfterHalt.{AfterHalt}
use Rattle.session.specs.declared.states.AfterHalt.TheVariants.{Done, Torn}
use Rattle.film_run.specs.declared.runs.Run.{Run}
use Rattle.film_streams.specs.declared.setups.Setup.{Setup}
use Rattle.session.specs.declared.states.State.{State}
use Rattle.session.specs.declared.states.State.TheVariants.{Init, Playing}
use Rattle.session.specs.RunRequests.{sending_of}
use Rattle.film_streams.specs.StreamNumbers.{counts_after, source_of}
use Rattle.film_frames.specs.declared.stored_films.Stored.{Stored}
use Rattle.session.specs.SlotSteps.{admitted_in, halted_in, halted_notes, kept_of, next_of}
use Rattle.session.specs.SessionStates.{SessionState, after_answer, sequence_of}

abbrev pub new_session_state : List Stored → Settings → List ℕ → SessionState
new_session_state films settings words = record {
  films = films;
  settings = settings;
  id = encode_lower (to_be_bytes w64 (slice_index words 0 * 2 ^ 32 + slice_index words 1));
  source = source_of words;
  state = Init;
  counts = record { frames = 0; octets = 0 };
  awaited = Nothing;
  text = [];
  waits = false;
  tearing = false;
  torn = false;
  lost = false;
  heard = 0;
  late = 0;
  looks_left = RESERVED_LOOKS;
  receipts = [];
  plays = [];
  offers = [];
}

-- a message that is no request
pub record AnswersBadRequest (old : SessionState) (message : List ℕ) (ask : Ask)
    (new : SessionState) : Type 0 where
  pub fault : RequestFault
  pub is_fault : IsFault message fault
  pub refused : IsRefused old (first_sequence message) (fault_refusal fault) [] ask new

-- a request
pub record AnswersGoodRequest (old : SessionState) (message : List ℕ) (ask : Ask)
    (new : SessionState) : Type 0 where
  pub request : Request
  pub is_request : IsReadAs message request
  pub hears : HearsRequest old request ask new

-- what a message asks of the station, and the session after it
abbrev pub Hears : SessionState → List ℕ → Ask → SessionState → Type 0
Hears old message ask new = AnswersBadRequest old message ask new
    ⊎ AnswersGoodRequest old message ask new

-- what was sent before the run that is asked for
abbrev pub counts_of : Awaited → Counts → Counts
counts_of (Play prepared) counts = prepared.counts
counts_of _ counts = counts

-- the session once the play was admitted that it asked for
abbrev pub after_admission : SessionState → ℕ → ℕ → SessionState
after_admission old place start =
    record (after_answer old (Entry place (Admitted start))
    (started_text old.text (start - old.heard))) {
      state = admitted_in old.state old.awaited place start;
      counts = counts_of old.awaited old.counts;
    }

-- once the link had no room for it
abbrev pub after_overflow : SessionState → ℕ → ℕ → ℕ → ℕ → SessionState
after_overflow old place slot booked asked =
    after_answer old (Entry place (Overflow slot booked asked))
    (overflow_text (sequence_of old.awaited) slot booked asked)

-- once the journal had no room for the play or the look
abbrev pub after_full : SessionState → ℕ → ℕ → SessionState
after_full old entries live =
    after_answer old (Full entries live)
    (full_text (sequence_of old.awaited) entries live)

-- what was sent in all, once a play is done that kept so many bytes of its run
abbrev pub counts_done : StreamSource → Counts → Setup → Run → ℕ → Option Stored → Counts
counts_done source counts setup run keep None = counts
counts_done source counts setup run keep (Some stored) =
    counts_after counts (sending_of stored.film source setup counts run) (run.sent + keep)

-- only a play that is done is counted
abbrev pub counts_next : Counts → Counts → AfterHalt → Counts
counts_next counts done Done = done
counts_next counts done _ = counts

abbrev pub halted_counts : SessionState → State → Counts
halted_counts old (Playing setup play) =
    counts_next old.counts (counts_done old.source old.counts setup play.run
    (kept_of old.awaited play.pacer.due) (slice_get old.films setup.film)) (next_of old.awaited)
halted_counts old _ = old.counts

-- a PAUSE and a TEARDOWN are answered once the rest up to a boundary was sent; a play that is done
-- has no reply
abbrev pub is_answered : AfterHalt → Bool
is_answered Done = false
is_answered _ = true

abbrev pub is_torn : AfterHalt → Bool
is_torn Torn = true
is_torn _ = false

-- once the booking was halted
abbrev pub after_halt : SessionState → ℕ → SessionState
after_halt old place = record old {
  state = halted_in old.state old.awaited;
  counts = halted_counts old old.state;
  awaited = Nothing;
  waits = if is_answered (next_of old.awaited) then true else old.waits;
  tearing = if is_torn (next_of old.awaited) then true else old.tearing;
  receipts = old.receipts ++ Entry place Halted ∷ [];
  plays = old.plays ++ halted_notes old.state old.awaited;
}

abbrev pub Halts : SessionState → ℕ → SessionState → Type 0
Halts old place new = new ≡ after_halt old place

-- once the station had looked
abbrev pub after_look : SessionState → ℕ → ℕ → ℕ → ℕ → SessionState
after_look old place now at booked =
    after_answer old (Entry place (Looked now at booked))
    (parameters_text (sequence_of old.awaited) (look_body now at booked))

-- once the station had made an offer
abbrev pub after_offer : SessionState → OfferNote → SessionState
after_offer old note = record old {
  awaited = Nothing;
  text = parameters_text (sequence_of old.awaited) (offer_body note.offers.start note.offers.tried);
  waits = true;
  offers = old.offers ++ note ∷ [];
}
