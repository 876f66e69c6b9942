-- The first element of a connection's input (RFC 2326 sections 4, 6 and 10.12): bytes CR and LF
-- before a request, an interleaved block, or a request.
use Rattle.std.specs.Prelude.{◌≡◌, ℕ, ◌+◌, ◌*◌, ◌<◌, ◌≤◌, ◌==◌, ◌⊎◌, true, false, List, length}
use Rattle.std.specs.Prelude.{take, slice_index, Result, Ok, Err}
use Rattle.interleave.specs.declared.content_lengths.TheConstants.{MAX_BODY_BYTES}
use Rattle.interleave.specs.declared.elements.TheConstants.{BLOCK_START}
use Rattle.interleave.specs.declared.message_heads.TheConstants.{MAX_HEAD_BYTES}
use Rattle.interleave.specs.Heads.{is_line_end, HasNoHead, IsHead}
use Rattle.interleave.specs.Lengths.{IsBodyLength, IsLongBody}
use Rattle.interleave.specs.declared.elements.Step.{Step}
use Rattle.interleave.specs.declared.elements.Step.TheVariants.{Request, Block, Skip, More}
use Rattle.interleave.specs.declared.elements.DemuxFault.{DemuxFault}
use Rattle.interleave.specs.declared.elements.DemuxFault.TheVariants.{HeadTooLong, BodyTooLong}

-- the bytes begin with `$`, which begins an interleaved block
abbrev pub StartsBlock : List ℕ → Type 0
StartsBlock bytes = (0 < length bytes) × (slice_index bytes 0 ≡ BLOCK_START)

-- the bytes begin with another byte than CR, LF and `$`, which begins a request
abbrev pub StartsMessage : List ℕ → Type 0
StartsMessage bytes = (0 < length bytes) × (is_line_end (slice_index bytes 0) ≡ false)
    × ((slice_index bytes 0 == BLOCK_START) ≡ false)

-- the bytes CR and LF at the start are these `n`
pub record AreLineEnds (bytes : List ℕ) (n : ℕ) : Type 0 where
  pub within : n ≤ length bytes
  pub line_ends : (k : ℕ) → k < n → is_line_end (slice_index bytes k) ≡ true
  pub last : n < length bytes → is_line_end (slice_index bytes n) ≡ false

-- the length of the first block: `$`, the channel, the number of the bytes of data in two bytes,
-- and the data
abbrev pub block_length : List ℕ → ℕ
block_length bytes = 4 + (slice_index bytes 2 * 256 + slice_index bytes 3)

-- the first request has a complete head of at most 16,384 bytes and a body of at most 65,536, and
-- this length in all
pub record IsMessageLength (bytes : List ℕ) (total : ℕ) : Type 0 where
  pub head : ℕ
  pub body : ℕ
  pub is_head : IsHead bytes head
  pub fits : head ≤ MAX_HEAD_BYTES
  pub is_body : IsBodyLength (take head bytes) body
  pub small : body ≤ MAX_BODY_BYTES
  pub total_is : total ≡ head + body

-- the first request has a complete head of at most 16,384 bytes, and a body of more than 65,536
pub record IsBodyTooLong (bytes : List ℕ) : Type 0 where
  pub head : ℕ
  pub is_head : IsHead bytes head
  pub fits : head ≤ MAX_HEAD_BYTES
  pub long : IsLongBody (take head bytes)

-- the first request isn't complete: its head isn't, or its length is known and more than what waits
abbrev pub IsUnfinished : List ℕ → Type 0
IsUnfinished bytes =
    (HasNoHead bytes (length bytes) × (length bytes < MAX_HEAD_BYTES))
    ⊎ ((total : ℕ) × (IsMessageLength bytes total × (length bytes < total)))

-- the first element of the waiting bytes
abbrev pub IsFirst : List ℕ → Result Step DemuxFault → Type 0
IsFirst bytes (Ok (Skip n)) = (0 < n) × AreLineEnds bytes n
IsFirst bytes (Ok (Block channel n)) =
    StartsBlock bytes × (4 ≤ length bytes) × (channel ≡ slice_index bytes 1)
    × (n ≡ block_length bytes) × (n ≤ length bytes)
IsFirst bytes (Ok (Request n)) = StartsMessage bytes × IsMessageLength bytes n × (n ≤ length bytes)
IsFirst bytes (Ok More) =
    (length bytes ≡ 0)
    ⊎ ((StartsBlock bytes × (4 ≤ length bytes → length bytes < block_length bytes))
    ⊎ (StartsMessage bytes × IsUnfinished bytes))
IsFirst bytes (Err HeadTooLong) = StartsMessage bytes × (MAX_HEAD_BYTES ≤ length bytes)
    × HasNoHead bytes MAX_HEAD_BYTES
IsFirst bytes (Err BodyTooLong) = StartsMessage bytes × IsBodyTooLong bytes

-- the answer is a fault or a complete element, and no byte that comes later belongs to it: after CR
-- and LF another byte waits
abbrev pub IsWholeElement : List ℕ → Result Step DemuxFault → Type 0
IsWholeElement bytes (Ok (Skip n)) = n < length bytes
IsWholeElement bytes (Ok (Block channel n)) = Unit {0}
IsWholeElement bytes (Ok (Request n)) = Unit {0}
IsWholeElement bytes (Ok More) = ⊥
IsWholeElement bytes (Err fault) = Unit {0}

-- at least the first `n` bytes are CR or LF
abbrev pub IsLongerSkip : ℕ → Result Step DemuxFault → Type 0
IsLongerSkip n (Ok (Skip m)) = n ≤ m
IsLongerSkip n (Ok (Block channel m)) = ⊥
IsLongerSkip n (Ok (Request m)) = ⊥
IsLongerSkip n (Ok More) = ⊥
IsLongerSkip n (Err fault) = ⊥
