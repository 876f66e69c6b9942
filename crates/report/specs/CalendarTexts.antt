-- The text of the bytes that are booked in the slots from one on. Numbers are decimal, and each
-- line ends with LF.
use Rattle.std.specs.Prelude.{ℕ, ◌≡◌, ◌+◌, ◌≤◌, nat_lt, List, ◌++◌, filter, flat_map, codes}
use Rattle.std.specs.List.{range_with_len}
use Rattle.plan_cert.specs.CertGrammar.{lines_of}
use Rattle.slot_calendar.specs.Totals.{ring_slots}
use Rattle.slot_calendar.specs.declared.profiles.TheConstants.{MAX_CAPACITY}
use Rattle.vod_base.specs.declared.links.TheConstants.{LATEST_SLOT}
use Rattle.vod_base.specs.Fields.{field}

-- What is true for the bytes booked on a link in the slots from one on: a ring's slots alone have
-- some, and none has more than a capacity can be.
pub record AreBookings (from : ℕ) (booked : ℕ → ℕ) : Type 0 where
  pub first_small : from ≤ LATEST_SLOT
  pub few : (t : ℕ) → from ≤ t → booked t ≤ MAX_CAPACITY
  pub past : (t : ℕ) → from + ring_slots ≤ t → booked t ≡ 0

-- the slots among these in which bytes are booked
abbrev pub booked_among : (ℕ → ℕ) → List ℕ → List ℕ
booked_among booked slots = filter (λ t. nat_lt 0 (booked t)) slots

-- the slots of a ring, from slot `from` on, in which bytes are booked
unfoldable pub booked_slots : ℕ → (ℕ → ℕ) → List ℕ
booked_slots from booked = booked_among booked (range_with_len from ring_slots)

-- a slot with its booked bytes
abbrev pub slot_words : ℕ → ℕ → List ℕ
slot_words slot booked = field (codes "at ") slot ++ field (codes " booked=") booked

abbrev pub slot_line : (ℕ → ℕ) → ℕ → List ℕ
slot_line booked t = slot_words t (booked t) ++ codes "\n"

-- the first slot
abbrev pub first_words : ℕ → List ℕ
first_words first = field (codes "calendar from=") first

-- that slot, each slot in which bytes are booked, and an end
abbrev pub calendar_text : ℕ → (ℕ → ℕ) → List ℕ
calendar_text from booked =
    first_words from ++ codes "\n" ++ flat_map (slot_line booked) (booked_slots from booked)
    ++ codes "end\n"

-- the lines of that text
unfoldable pub calendar_lines : ℕ → (ℕ → ℕ) → List (List ℕ)
calendar_lines from booked = (lines_of (calendar_text from booked)).whole
