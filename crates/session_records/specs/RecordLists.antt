-- The lists of receipts and notes, and for how many more each has room.
use Rattle.std.specs.Prelude.{ℕ, ◌≡◌, List}
use Rattle.session_records.specs.declared.notes.Receipt.{Receipt}
use Rattle.session_records.specs.declared.notes.PlayNote.{PlayNote}
use Rattle.session_records.specs.declared.notes.OfferNote.{OfferNote}

pub record SessionRecords : Type 0 where
  pub receipts : List Receipt
  pub plays : List PlayNote
  pub offers : List OfferNote
  pub receipt_room : ℕ
  pub play_room : ℕ
  pub offer_room : ℕ

-- the lists are the same, whatever the room
pub record IsSameLists (old new : SessionRecords) : Type 0 where
  pub receipts : new.receipts ≡ old.receipts
  pub plays : new.plays ≡ old.plays
  pub offers : new.offers ≡ old.offers
