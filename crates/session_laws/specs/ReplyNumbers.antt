-- The CSeq of replies (RFC 2326 section 12.17).
use Rattle.std.specs.Prelude.{ℕ, ◌≡◌, List, Some}
use Rattle.rtsp_text.specs.Replies.{Field, reply_text}
use Rattle.session.specs.declared.commands.Ask.{Ask}
use Rattle.session.specs.declared.commands.Ask.TheVariants.{Play as AskPlay, Look as AskLook}
use Rattle.session.specs.declared.commands.Ask.TheVariants.{Offer as AskOffer}
use Rattle.session_records.specs.declared.notes.OfferNote.{OfferNote}
use Rattle.session.specs.RequestSteps.{after_admission, after_full, after_look, after_offer}
use Rattle.session.specs.RequestSteps.{after_overflow}
use Rattle.session.specs.SessionStates.{SessionState}

-- a reply with this CSeq
pub record HasNumber (sequence : ℕ) (text : List ℕ) : Type 0 where
  pub code : ℕ
  pub fields : List Field
  pub body : List ℕ
  pub text_is : text ≡ reply_text code (Some sequence) fields body

-- the reply to a PLAY, whether the station admits it, has no room on its link, or none in its
-- journal
pub record NumbersPlay (sequence : ℕ) (asking : SessionState) : Type 0 where
  pub admission : (place start : ℕ) → HasNumber sequence (after_admission asking place start).text
  pub overflow : (place slot booked asked : ℕ)
      → HasNumber sequence (after_overflow asking place slot booked asked).text
  pub full : (entries live : ℕ) → HasNumber sequence (after_full asking entries live).text

-- the reply to a look
pub record NumbersLook (sequence : ℕ) (asking : SessionState) : Type 0 where
  pub look : (place now at booked : ℕ)
      → HasNumber sequence (after_look asking place now at booked).text
  pub full : (entries live : ℕ) → HasNumber sequence (after_full asking entries live).text

-- the reply to a request has this CSeq: the session's own, the one that waits for a halt, or the
-- one that the station's answer makes
abbrev pub RepliesHaveNumber : ℕ → Ask → SessionState → Type 0
RepliesHaveNumber sequence (AskPlay plan) new = NumbersPlay sequence new
RepliesHaveNumber sequence (AskLook slot) new = NumbersLook sequence new
RepliesHaveNumber sequence (AskOffer plan offers) new =
    (note : OfferNote) → HasNumber sequence (after_offer new note).text
RepliesHaveNumber sequence _ new = HasNumber sequence new.text
