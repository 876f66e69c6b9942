-- Each reply as a complete message (RFC 2326 sections 4.4 and 7).
use Rattle.std.specs.Prelude.{ℕ, ◌≡◌, ◌<◌, ◌≤◌, ◌^◌, List}
use Rattle.std.specs.Int.{w64, to_be_bytes}
use Rattle.hex.specs.Hex.{encode_lower}
use Rattle.interleave.specs.Heads.{IsHead}
use Rattle.rtsp_replies.specs.Messages.{AreOffersInWords, IsMessage}
use Rattle.session.specs.declared.commands.Ask.{Ask}
use Rattle.session.specs.declared.commands.Ask.TheVariants.{Play as AskPlay, Look as AskLook}
use Rattle.session.specs.declared.commands.Ask.TheVariants.{Offer as AskOffer}
use Rattle.session_records.specs.declared.notes.OfferNote.{OfferNote}
use Rattle.session.specs.RequestSteps.{after_admission, after_full, after_look, after_offer}
use Rattle.session.specs.RequestSteps.{after_overflow}
use Rattle.film_streams.specs.SettingRanges.{AreFilms}
use Rattle.session.specs.SessionStates.{SessionState}

-- what a session keeps from its beginning: films of good names, and an id of 64 bits in hexadecimal
-- digits
pub record HasValidIds (standing : SessionState) : Type 0 where
  pub films : AreFilms standing.films
  pub number : ℕ
  pub id_is : standing.id ≡ encode_lower (to_be_bytes w64 number)

-- the head of a request is 512 bytes shorter than a head may be: a reply repeats its URL's
-- authority, or the option that it requires
abbrev pub LeavesRoom : List ℕ → Type 0
LeavesRoom message = (head : ℕ) → IsHead message head → head ≤ 15872

-- the reply to a PLAY, whether the station admits it, has no room on its link, or none in its
-- journal
pub record AnswersPlay (asking : SessionState) : Type 0 where
  pub admission : (place start : ℕ) → start < 2 ^ 64
      → IsMessage (after_admission asking place start).text
  pub overflow : (place slot booked asked : ℕ) → slot < 2 ^ 64 → booked < 2 ^ 64 → asked < 2 ^ 64
      → IsMessage (after_overflow asking place slot booked asked).text
  pub full : (entries live : ℕ) → entries < 2 ^ 64 → live < 2 ^ 64
      → IsMessage (after_full asking entries live).text

-- the reply to a look
pub record AnswersLook (asking : SessionState) : Type 0 where
  pub look : (place now at booked : ℕ) → now < 2 ^ 64 → at < 2 ^ 64 → booked < 2 ^ 64
      → IsMessage (after_look asking place now at booked).text
  pub full : (entries live : ℕ) → entries < 2 ^ 64 → live < 2 ^ 64
      → IsMessage (after_full asking entries live).text

-- the reply to a request is a complete message: the session's own, the one that waits for a halt,
-- or the one that the station's answer makes, in numbers of 64 bits
abbrev pub RepliesAreComplete : Ask → SessionState → Type 0
RepliesAreComplete (AskPlay plan) new = AnswersPlay new
RepliesAreComplete (AskLook slot) new = AnswersLook new
RepliesAreComplete (AskOffer plan offers) new = (note : OfferNote) → AreOffersInWords note.offers
    → IsMessage (after_offer new note).text
RepliesAreComplete _ new = IsMessage new.text
