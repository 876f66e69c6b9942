-- A system stream as a list of items and what stands after them: its video, or why it is refused.
use Rattle.std.specs.Prelude.{◌≡◌, ◌≢◌, ℕ, ◌+◌, ◌*◌, ◌/◌, ◌<◌, ◌≤◌, ◌⊎◌, true, List, ◌∷◌, ◌++◌}
use Rattle.std.specs.Prelude.{length, replicate, Option, None}
use Rattle.sys_demux.specs.PacketContents.{video_in}
use Rattle.sys_demux.specs.StreamItems.{Item, with_prefix, item_bytes, zeros_of, choose, is_chosen}
use Rattle.sys_demux.specs.StreamItems.{chosen_after, IsItem, AreItems, video_of, bytes_of}
use Rattle.sys_demux.specs.declared.faults.SystemFault.{SystemFault}
use Rattle.sys_demux.specs.declared.faults.SystemFault.TheVariants.{NotPack, BadCode, BadPacket}
use Rattle.sys_demux.specs.declared.faults.SystemFault.TheVariants.{Truncated}

-- bytes 00 alone
pub record AreZeroBytes (tail : List ℕ) : Type 0 where
  pub count : ℕ
  pub are : tail ≡ replicate count 0

-- the code of the end, and any bytes after it
pub record IsEndCode (tail : List ℕ) : Type 0 where
  pub zeros : ℕ
  pub rest : List ℕ
  pub is : tail ≡ with_prefix zeros (185 ∷ rest)

-- what may stand after the last item
abbrev pub IsEnd : List ℕ → Type 0
IsEnd tail = AreZeroBytes tail ⊎ IsEndCode tail

-- a pack header whose fifth byte has other high bits; the place is that of its prefix
pub record IsNotPack (start : ℕ) (tail : List ℕ) (place : ℕ) : Type 0 where
  pub zeros : ℕ
  pub mark : ℕ
  pub rest : List ℕ
  pub is : tail ≡ with_prefix zeros (186 ∷ mark ∷ rest)
  pub other : mark / 16 ≢ 2
  pub place_is : place ≡ start + zeros

-- where an item must stand, a byte that no bytes 00 and prefix can have; the place is its own
pub record IsBadByte (start : ℕ) (tail : List ℕ) (place : ℕ) : Type 0 where
  pub count : ℕ
  pub byte : ℕ
  pub rest : List ℕ
  pub is : tail ≡ replicate count 0 ++ byte ∷ rest
  pub some : byte ≢ 0
  pub early : byte ≡ 1 → count < 2
  pub place_is : place ≡ start + count

-- a start code of a value below B9; the place is that of the prefix
pub record IsBadValue (start : ℕ) (tail : List ℕ) (place : ℕ) : Type 0 where
  pub zeros : ℕ
  pub value : ℕ
  pub rest : List ℕ
  pub is : tail ≡ with_prefix zeros (value ∷ rest)
  pub low : value < 185
  pub place_is : place ≡ start + zeros

-- a packet of the chosen stream, of whose content so many bytes stand that no content of its length
-- that begins so has a header; the place is that of its prefix
pub record IsBadPacket (chosen : Option ℕ) (start : ℕ) (tail : List ℕ) (place : ℕ) : Type 0 where
  pub zeros : ℕ
  pub value : ℕ
  pub high : ℕ
  pub low : ℕ
  pub front : List ℕ
  pub rest : List ℕ
  pub is : tail ≡ with_prefix zeros (value ∷ high ∷ low ∷ (front ++ rest))
  pub value_is : 187 ≤ value
  pub chosen_is : is_chosen (choose chosen value) value ≡ true
  pub within : length front ≤ high * 256 + low
  pub none : (more : List ℕ) → length front + length more ≡ high * 256 + low →
      video_in (front ++ more) ≡ None
  pub place_is : place ≡ start + zeros

-- the first bytes of an item, from its prefix on, without its last byte at least; the place is that
-- of the prefix
pub record IsTruncatedItem (chosen : Option ℕ) (start : ℕ) (tail : List ℕ) (place : ℕ) : Type 0
  where
    pub item : Item
    pub lacking : List ℕ
    pub is_item : IsItem chosen item
    pub is : item_bytes item ≡ tail ++ lacking
    pub begun : zeros_of item + 3 ≤ length tail
    pub some : 0 < length lacking
    pub place_is : place ≡ start + zeros_of item

-- why the bytes after some items are no system stream
abbrev pub IsFault : Option ℕ → ℕ → List ℕ → SystemFault → Type 0
IsFault chosen start tail (NotPack place) = IsNotPack start tail place
IsFault chosen start tail (BadCode place) = IsBadByte start tail place ⊎ IsBadValue start tail place
IsFault chosen start tail (BadPacket place) = IsBadPacket chosen start tail place
IsFault chosen start tail (Truncated place) = IsTruncatedItem chosen start tail place

-- the bytes are a system stream with this video: items, and an end
pub record IsSystem (bytes video : List ℕ) : Type 0 where
  pub items : List Item
  pub tail : List ℕ
  pub are : AreItems None items
  pub bytes_are : bytes ≡ bytes_of items ++ tail
  pub end : IsEnd tail
  pub video_is : video ≡ video_of None items

-- the bytes are no system stream: after some items stands this fault
pub record IsBadStream (bytes : List ℕ) (fault : SystemFault) : Type 0 where
  pub items : List Item
  pub tail : List ℕ
  pub are : AreItems None items
  pub bytes_are : bytes ≡ bytes_of items ++ tail
  pub fault_is : IsFault (chosen_after None items) (length (bytes_of items)) tail fault
