-- How many looks a connection may ask for without fail.
use Rattle.std.specs.Prelude.{ℕ, ◌≡◌, ◌<◌, List, [], ◌∷◌, codes, sum_by}
use Rattle.film_frames.specs.declared.stored_films.Stored.{Stored}
use Rattle.rtsp_text.specs.declared.requests.Request.{Request}
use Rattle.session.specs.declared.commands.Ask.{Ask}
use Rattle.session.specs.declared.commands.Ask.TheVariants.{Look as AskLook}
use Rattle.session_records.specs.declared.notes.OfferNote.{OfferNote}
use Rattle.session_records.specs.declared.records.TheConstants.{RESERVED_LOOKS}
use Rattle.film_streams.specs.declared.settings.Settings.{Settings}
use Rattle.session.specs.RequestSteps.{Hears, after_admission, after_full, after_halt, after_look}
use Rattle.session.specs.RequestSteps.{after_offer, after_overflow, new_session_state}
use Rattle.session.specs.RefusalOrder.{IsReadAs}
use Rattle.rtsp_methods.specs.Methods.{IsWord}
use Rattle.session.specs.SlotSteps.{sent_reply, after_slot}
use Rattle.session.specs.SessionStates.{SessionState}

-- what happens to a session: a message is received, the station answers, a slot comes, a reply is
-- sent
pub data SessionEvent : Type 0 where
  Message : List ℕ → Ask → SessionEvent
  Admission : ℕ → ℕ → SessionEvent
  Overflow : ℕ → ℕ → ℕ → ℕ → SessionEvent
  Full : ℕ → ℕ → SessionEvent
  Halt : ℕ → SessionEvent
  Look : ℕ → ℕ → ℕ → ℕ → SessionEvent
  Offer : OfferNote → SessionEvent
  Slot : ℕ → SessionEvent
  Sending : SessionEvent

-- the session after it
abbrev pub IsAfter : SessionState → SessionEvent → SessionState → Type 0
IsAfter old (Message message ask) new = Hears old message ask new
IsAfter old (Admission place start) new = new ≡ after_admission old place start
IsAfter old (Overflow place slot booked asked) new =
    new ≡ after_overflow old place slot booked asked
IsAfter old (Full entries live) new = new ≡ after_full old entries live
IsAfter old (Halt place) new = new ≡ after_halt old place
IsAfter old (Look place now at booked) new = new ≡ after_look old place now at booked
IsAfter old (Offer note) new = new ≡ after_offer old note
IsAfter old (Slot slot) new = new ≡ after_slot old slot
IsAfter old Sending new = new ≡ sent_reply old

-- one after another
abbrev pub AreAfter : SessionState → List SessionEvent → SessionState → Type 0
AreAfter old [] new = new ≡ old
AreAfter old (happening ∷ rest) new = (next : SessionState)
    × (IsAfter old happening next × AreAfter next rest new)

-- how many looks the station was asked for
abbrev pub looks_in : Ask → ℕ
looks_in (AskLook slot) = 1
looks_in _ = 0

abbrev pub looks_of : SessionEvent → ℕ
looks_of (Message message ask) = looks_in ask
looks_of _ = 0

abbrev pub looks_asked : List SessionEvent → ℕ
looks_asked happenings = sum_by looks_of happenings

-- a message is a GET_PARAMETER for what is booked (RFC 2326 section 10.8)
pub record AsksBooked (message : List ℕ) : Type 0 where
  pub request : Request
  pub is_request : IsReadAs message request
  pub method : request.method.now ≡ codes "GET_PARAMETER"
  pub body : IsWord (codes "x-Booked") request.body.now

-- a connection that asked for fewer than 1,024 looks
pub record HasLooksLeft (films : List Stored) (settings : Settings) (words : List ℕ)
    (now : SessionState) : Type 0 where
  pub happenings : List SessionEvent
  pub are : AreAfter (new_session_state films settings words) happenings now
  pub few : looks_asked happenings < RESERVED_LOOKS
