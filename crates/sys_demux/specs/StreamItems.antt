-- The items of an MPEG-1 system stream (ISO/IEC 11172-1, section 2.4.3): packs and packets, each
-- with any number of bytes 00 before it.
use Rattle.std.specs.Prelude.{◌≡◌, ℕ, ◌+◌, ◌*◌, ◌/◌, ◌≤◌, ◌==◌, ◌&&◌, Bool, true, false}
use Rattle.std.specs.Prelude.{if◌then◌else◌, nat_le, List, [], ◌∷◌, ◌++◌, length, slice_index}
use Rattle.std.specs.Prelude.{replicate, flat_map, Option, Some, None, IsSome, unwrap_or}
use Rattle.sys_demux.specs.PacketContents.{video_in}

-- a pack has 8 bytes after its start code; a packet its stream_id, a length in two bytes, and its
-- content
pub data Item : Type 0 where
  Pack : (zeros : ℕ) (rest : List ℕ) → Item
  Packet : (zeros value high low : ℕ) (content : List ℕ) → Item

-- bytes 00, and the prefix 00 00 01 before these bytes
abbrev pub with_prefix : ℕ → List ℕ → List ℕ
with_prefix zeros rest = replicate zeros 0 ++ (0 ∷ 0 ∷ 1 ∷ rest)

-- its bytes
abbrev pub item_bytes : Item → List ℕ
item_bytes (Pack zeros rest) = with_prefix zeros (186 ∷ rest)
item_bytes (Packet zeros value high low content) = with_prefix zeros (value ∷ high ∷ low ∷ content)

-- the number of bytes before its prefix
abbrev pub zeros_of : Item → ℕ
zeros_of (Pack zeros rest) = zeros
zeros_of (Packet zeros value high low content) = zeros

-- a stream_id of video: E0 to EF
abbrev pub is_video_stream_id : ℕ → Bool
is_video_stream_id value = nat_le 224 value && nat_le value 239

-- the chosen stream_id once a packet of this one stands: that of the first packet of video
abbrev pub choose : Option ℕ → ℕ → Option ℕ
choose None value = if is_video_stream_id value then Some value else None
choose (Some chosen) value = Some chosen

-- whether a packet of this stream_id is one of the chosen stream
abbrev pub is_chosen : Option ℕ → ℕ → Bool
is_chosen None value = false
is_chosen (Some chosen) value = chosen == value

-- the chosen stream_id after an item, and after some
abbrev pub chosen_next : Option ℕ → Item → Option ℕ
chosen_next chosen (Pack _ rest) = chosen
chosen_next chosen (Packet _ value high low content) = choose chosen value

abbrev pub chosen_after : Option ℕ → List Item → Option ℕ
chosen_after chosen [] = chosen
chosen_after chosen (item ∷ items) = chosen_after (chosen_next chosen item) items

-- a pack whose fifth byte has the high four bits 2
pub record IsPack (rest : List ℕ) : Type 0 where
  pub eight : length rest ≡ 8
  pub mark : slice_index rest 0 / 16 ≡ 2

-- a packet of value BB to FF, whose content has the length that it says, and where it is of the
-- chosen stream, a header and video
pub record IsPacket (chosen : Option ℕ) (value high low : ℕ) (content : List ℕ) : Type 0 where
  pub value_is : 187 ≤ value
  pub length_is : length content ≡ high * 256 + low
  pub header : is_chosen (choose chosen value) value ≡ true → IsSome (video_in content)

-- an item where this stream_id is chosen
abbrev pub IsItem : Option ℕ → Item → Type 0
IsItem chosen (Pack _ rest) = IsPack rest
IsItem chosen (Packet _ value high low content) = IsPacket chosen value high low content

-- items one after another
abbrev pub AreItems : Option ℕ → List Item → Type 0
AreItems chosen [] = Unit {0}
AreItems chosen (item ∷ items) = IsItem chosen item × AreItems (chosen_next chosen item) items

-- the video bytes of an item, and of some: those of the packets of the chosen stream
abbrev pub item_video : Option ℕ → Item → List ℕ
item_video chosen (Pack _ rest) = []
item_video chosen (Packet _ value high low content) =
    if is_chosen (choose chosen value) value then unwrap_or (video_in content) [] else []

abbrev pub video_of : Option ℕ → List Item → List ℕ
video_of chosen [] = []
video_of chosen (item ∷ items) = item_video chosen item ++ video_of (chosen_next chosen item) items

abbrev pub bytes_of : List Item → List ℕ
bytes_of items = flat_map item_bytes items
