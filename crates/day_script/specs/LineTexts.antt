-- The printed lines of a day that are no entries of the journal. Numbers are decimal, and each line
-- ends with LF.
use Rattle.std.specs.Prelude.{ℕ, List, ◌++◌, Option, Some, None, codes, length, flat_map}
use Rattle.admission.specs.declared.entries.Full.{Full}
use Rattle.early_start.specs.StartSearch.{Offers}
use Rattle.early_start.specs.declared.Tried.{Tried}
use Rattle.vod_base.specs.Fields.{field}
use Rattle.wire_curve.specs.declared.film.CurveFault.{CurveFault}
use Rattle.wire_curve.specs.declared.film.CurveFault.TheVariants.{NoPictures, TooManySlots}
use Rattle.wire_curve.specs.declared.film.CurveFault.TheVariants.{BufferTooSmall}
use Rattle.day_script.specs.declared.fair_totals.FairTotals.{FairTotals}
use Rattle.day_script.specs.declared.fair_totals.EntryCounts.{EntryCounts}

-- a client isn't in a state in which it can be asked
abbrev pub state_text : List ℕ
state_text = codes "refused state\n"

-- the name of the curves' refusal, and its numbers
abbrev pub fault_words : CurveFault → List ℕ
fault_words NoPictures = codes "refused NoPictures"
fault_words (TooManySlots slots) = field (codes "refused TooManySlots ") slots
fault_words (BufferTooSmall slot used least) =
    field (codes "refused BufferTooSmall ") slot ++ field (codes " ") used
    ++ field (codes " ") least

abbrev pub fault_text : CurveFault → List ℕ
fault_text fault = fault_words fault ++ codes "\n"

-- a journal that has no room
abbrev pub full_text : Full → List ℕ
full_text full = field (codes "refused journal entries=") full.entries
    ++ field (codes " open=") full.live ++ codes "\n"

-- a slot, with the bytes sent, and those booked since the last slot that was received
abbrev pub slot_text : ℕ → ℕ → ℕ → List ℕ
slot_text slot sent booked =
    field (codes "slot ") slot ++ field (codes " sent=") sent ++ field (codes " booked=") booked
    ++ codes "\n"

-- a start that was tried in vain
abbrev pub tried_text : Tried → List ℕ
tried_text tried =
    field (codes "tried start=") tried.start ++ field (codes " slot=") tried.over.slot
    ++ field (codes " booked=") tried.over.booked
    ++ field (codes " asked=") tried.over.asked ++ codes "\n"

abbrev pub start_words : Option ℕ → List ℕ
start_words (Some start) = field (codes "offer start=") start
start_words None = codes "offer none"

-- the starts that were tried in vain, and what is offered
abbrev pub offer_text : Offers → List ℕ
offer_text found =
    flat_map tried_text found.tried
    ++ (start_words found.start ++ field (codes " tried=") (length found.tried) ++ codes "\n")

-- how many entries of a fair have each answer
unfoldable pub entry_words : EntryCounts → List ℕ
entry_words entries =
    field (codes " admitted=") entries.admitted ++ field (codes " overflow=") entries.overflows
    ++ field (codes " halted=") entries.halted

-- what its slots brought
unfoldable pub sum_words : FairTotals → List ℕ
sum_words counts = field (codes " sent=") counts.sent ++ field (codes " booked=") counts.booked
    ++ field (codes " peak=") counts.peak

-- its turns, and how many entries have each answer
unfoldable pub turn_words : FairTotals → EntryCounts → List ℕ
turn_words counts entries = field (codes "fair turns=") counts.turns ++ entry_words entries

-- how often the journal was full, the last slot, and what the slots brought
unfoldable pub slot_words : FairTotals → List ℕ
slot_words counts = field (codes " full=") counts.full ++ field (codes " last=") counts.last
    ++ sum_words counts

-- what a fair prints at its end
abbrev pub fair_text : FairTotals → EntryCounts → List ℕ
fair_text counts entries = turn_words counts entries ++ slot_words counts ++ codes "\n"
