use Rattle.slot_calendar.proofs.PlayShares.{share-cut, share-whole, shares-first}
use Rattle.slot_calendar.proofs.laws.law_play_books_its_kept_bytes.Goals as goal

pub returns : goal.returns
returns c = record { whole = share-whole; cut = share-cut; first = shares-first }
