-- What a connection's report notes of the station's answers: a receipt of each entry and of each
-- full journal, and the offers.
use Rattle.std.specs.Prelude.{List, [], ◌∷◌, ◌++◌}
use Rattle.session_records.specs.declared.notes.OfferNote.{OfferNote}
use Rattle.session_records.specs.declared.notes.Receipt.{Receipt}
use Rattle.session_records.specs.declared.notes.Receipt.TheVariants.{Entry, Full}
use Rattle.conn.specs.InputSteps.{Outcome, Entered, WasFull, Offered}

-- an entry's receipt has its place in the journal and the answer; that of a full journal has how
-- many entries it had, and how many of its plays were open
abbrev pub receipt_in : Outcome → List Receipt
receipt_in (Entered placed) = Entry placed.place placed.entry.answer ∷ []
receipt_in (WasFull more entries live) = Full entries live ∷ []
receipt_in _ = []

abbrev pub receipts_in : List Outcome → List Receipt
receipts_in [] = []
receipts_in (outcome ∷ outcomes) = receipt_in outcome ++ receipts_in outcomes

abbrev pub offer_in : Outcome → List OfferNote
offer_in (Offered at_slot note) = note ∷ []
offer_in _ = []

abbrev pub offers_in : List Outcome → List OfferNote
offers_in [] = []
offers_in (outcome ∷ outcomes) = offer_in outcome ++ offers_in outcomes
