-- How the totals are kept: 1,048,576 slots at their number modulo 1,048,576, in 1,024 blocks of
-- 1,024 places each.
use Rattle.std.specs.Prelude.{ℕ, ◌≡◌, ◌≢◌, ◌+◌, ◌/◌, ◌%◌, ◌<◌, ◌≤◌, ◌++◌, List, Option, Some}
use Rattle.std.specs.Prelude.{length, take, drop, slice_index}
use Rattle.slot_calendar.specs.Totals.{ring_slots, total_at}
use Rattle.slot_calendar.specs.declared.ring.TheConstants.{BLOCK, BLOCKS}
use Rattle.slot_calendar.specs.declared.ring.Ring.TheInside.{Inside}

-- the list that begins at place `from` and comes round to it
abbrev pub rotation : ℕ → List ℕ → List ℕ
rotation from places = drop from places ++ take from places

-- a ring: the totals of the slots from `first` on, and the block that was lowered and not read
-- again, if any
pub record Slots : Type 0 where
  pub first : ℕ
  pub totals : List ℕ
  pub stale : Option ℕ

-- the total of slot t, from the first one on; 0 after the ring's end
abbrev pub total_of : Slots → ℕ → ℕ
total_of ring t = total_at ring.first ring.totals t

-- some place of block b holds `top`
pub record IsReached (places : List ℕ) (b top : ℕ) : Type 0 where
  pub place : ℕ
  pub inside : place < ring_slots
  pub of_block : place / BLOCK ≡ b
  pub holds : slice_index places place ≡ top

-- each block has its greatest total, but for the stale one, which has a number that is at least as
-- great
pub record AreBlockMaxima (places tops : List ℕ) (stale : Option ℕ) : Type 0 where
  pub places_are : length places ≡ ring_slots
  pub tops_are : length tops ≡ BLOCKS
  pub bounded : (i : ℕ) → i < ring_slots → slice_index places i ≤ slice_index tops (i / BLOCK)
  pub reached : (b : ℕ) → b < BLOCKS → stale ≢ Some b → IsReached places b (slice_index tops b)
  pub stale_in : (b : ℕ) → stale ≡ Some b → b < BLOCKS

abbrev pub slots_of_ring : Inside → Slots
slots_of_ring ring =
    record {
      first = ring.first;
      totals = rotation (ring.first % ring_slots) ring.places.items;
      stale = ring.stale;
    }

-- no slot from slot t on, or from the first one on where that is later, has a total above 0
abbrev pub IsEmptyFrom : Slots → ℕ → Type 0
IsEmptyFrom ring t = (u : ℕ) → ring.first ≤ u → t ≤ u → total_of ring u ≡ 0

-- the blocks have their greatest totals, and nothing is booked after slot `last`
pub record IsRing (ring : Inside) : Type 0 where
  pub maxima : AreBlockMaxima ring.places.items ring.tops.items ring.stale
  pub empty : IsEmptyFrom (slots_of_ring ring) (ring.last + 1)

-- the greatest of some numbers
pub record IsGreatest (numbers : List ℕ) (top : ℕ) : Type 0 where
  pub bounded : (i : ℕ) → i < length numbers → slice_index numbers i ≤ top
  pub index : ℕ
  pub inside : index < length numbers
  pub holds : slice_index numbers index ≡ top

-- so many zeros
pub record AreZeros (numbers : List ℕ) (count : ℕ) : Type 0 where
  pub count_is : length numbers ≡ count
  pub each : (i : ℕ) → slice_index numbers i ≡ 0
