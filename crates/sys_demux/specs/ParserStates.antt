-- What an unwrapper knows of the bytes that it was fed.
use Rattle.std.specs.Prelude.{◌≡◌, ℕ, ◌+◌, ◌-◌, ◌*◌, ◌<◌, ◌≤◌, ◌==◌, if◌then◌else◌, true, List, []}
use Rattle.std.specs.Prelude.{◌∷◌, ◌++◌, length, drop, replicate, min, ◌⊎◌, Option, Some, None}
use Rattle.sys_demux.specs.PacketContents.{video_in, from_stuffing, from_stamp, after_bytes}
use Rattle.sys_demux.specs.StreamItems.{Item, with_prefix, item_bytes, zeros_of, choose, is_chosen}
use Rattle.sys_demux.specs.StreamItems.{chosen_next, chosen_after, IsItem, AreItems, item_video}
use Rattle.sys_demux.specs.StreamItems.{video_of, bytes_of}
use Rattle.sys_demux.specs.SystemStreams.{IsFault}
use Rattle.sys_demux.specs.declared.faults.SystemFault.{SystemFault}
use Rattle.sys_demux.specs.declared.faults.SystemFault.TheVariants.{NotPack, BadCode, BadPacket}
use Rattle.sys_demux.specs.declared.faults.SystemFault.TheVariants.{Truncated}
use Rattle.sys_demux.specs.declared.headers.Header.{Header}
use Rattle.sys_demux.specs.declared.headers.Header.TheVariants.{Stuffing, Second, Stamp, Rest}
use Rattle.sys_demux.specs.declared.parser_states.ParserState.{ParserState}
use Rattle.sys_demux.specs.declared.parser_states.ParserState.TheVariants.{Zeros, Value, Mark, High}
use Rattle.sys_demux.specs.declared.parser_states.ParserState.TheVariants.{Low, InHeader, Pass}
use Rattle.sys_demux.specs.declared.parser_states.ParserState.TheVariants.{Video, End, Failed}
use Rattle.sys_demux.specs.declared.unwrapper.Unwrapper.{Unwrapper}

-- the video in the rest of a content, by where in its header that begins
abbrev pub video_from : Header → List ℕ → Option (List ℕ)
video_from (Stuffing count) rest = from_stuffing (16 - count) rest
video_from Second rest = from_stamp (drop 1 rest)
video_from Stamp rest = from_stamp rest
video_from (Rest count) rest = after_bytes count rest

-- what items leave for a part after them: the stream_id that was chosen, and where they end
pub record Beginning : Type 0 where
  pub chosen : Option ℕ
  pub start : ℕ

abbrev pub begins_at : Option ℕ → ℕ → Beginning
begins_at chosen start = record { chosen = chosen; start = start }

-- a part of the bytes that begins there: the place of its item, the stream_id that is chosen after
-- it, its bytes and the video in them
pub record Part : Type 0 where
  pub after : Beginning
  pub place : ℕ
  pub now : Option ℕ
  pub bytes : List ℕ
  pub kept : List ℕ

abbrev pub of_item : Part → ℕ → Part
of_item p place = record p { place = place }

abbrev pub choosing : Part → Option ℕ → Part
choosing p now = record p { now = now }

abbrev pub with_byte : Part → ℕ → Part
with_byte p byte = record p { bytes = p.bytes ++ byte ∷ [] }

-- an item with these bytes and this video
pub record IsDone (p : Part) (zeros : ℕ) : Type 0 where
  pub item : Item
  pub is_item : IsItem p.after.chosen item
  pub bytes_are : item_bytes item ≡ p.bytes
  pub zeros_are : zeros_of item ≡ zeros
  pub next_is : chosen_next p.after.chosen item ≡ p.now
  pub video_is : item_video p.after.chosen item ≡ p.kept

-- bytes 00, of which up to two count
pub record IsAtZeros (p : Part) (zeros : ℕ) : Type 0 where
  pub count : ℕ
  pub are : p.bytes ≡ replicate count 0
  pub zeros_are : zeros ≡ min count 2
  pub now_is : p.now ≡ p.after.chosen
  pub none : p.kept ≡ []

-- bytes 00, a prefix and these bytes, of an item at this place
pub record IsAtPrefix (p : Part) (rest : List ℕ) (wanted : Option ℕ) : Type 0 where
  pub zeros : ℕ
  pub are : p.bytes ≡ with_prefix zeros rest
  pub place_is : p.place ≡ p.after.start + zeros
  pub now_is : p.now ≡ wanted
  pub none : p.kept ≡ []

-- inside the header of a packet of the chosen stream, with so many bytes of its content left
pub record IsAtHeader (p : Part) (header : Header) (left : ℕ) : Type 0 where
  pub zeros : ℕ
  pub value : ℕ
  pub high : ℕ
  pub low : ℕ
  pub front : List ℕ
  pub are : p.bytes ≡ with_prefix zeros (value ∷ high ∷ low ∷ front)
  pub value_is : 187 ≤ value
  pub chosen_is : is_chosen (choose p.after.chosen value) value ≡ true
  pub length_is : length front + left ≡ high * 256 + low
  pub video_is : (rest : List ℕ) → length rest ≡ left →
      video_in (front ++ rest) ≡ video_from header rest
  pub place_is : p.place ≡ p.after.start + zeros
  pub now_is : p.now ≡ choose p.after.chosen value
  pub none : p.kept ≡ []

-- inside an item that any bytes of this number end, all of them video or none
pub record IsAtRest (p : Part) (left : ℕ) (video : List ℕ → List ℕ) : Type 0 where
  pub zeros : ℕ
  pub begun : zeros + 3 ≤ length p.bytes
  pub some : 0 < left
  pub ends : (rest : List ℕ) → length rest ≡ left →
      IsDone (record p { bytes = p.bytes ++ rest; kept = p.kept ++ video rest }) zeros
  pub place_is : p.place ≡ p.after.start + zeros

-- the end's code was read
pub record IsAtEnd (p : Part) : Type 0 where
  pub zeros : ℕ
  pub rest : List ℕ
  pub are : p.bytes ≡ with_prefix zeros (185 ∷ rest)
  pub none : p.kept ≡ []

-- a fault that bytes show, whatever follows them
abbrev pub IsShown : SystemFault → Type 0
IsShown (NotPack place) = Unit {0}
IsShown (BadCode place) = Unit {0}
IsShown (BadPacket place) = Unit {0}
IsShown (Truncated place) = ⊥

-- it leads to this state
abbrev pub IsPart : Part → ParserState → Type 0
IsPart p (Zeros zeros) = IsAtZeros p zeros
IsPart p Value = IsAtPrefix p [] p.after.chosen
IsPart p Mark = IsAtPrefix p (186 ∷ []) p.after.chosen
IsPart p (High value) = IsAtPrefix p (value ∷ []) (choose p.after.chosen value) × (187 ≤ value)
IsPart p (Low value high) =
    IsAtPrefix p (value ∷ high ∷ []) (choose p.after.chosen value) × (187 ≤ value)
IsPart p (InHeader header left) = IsAtHeader p header left
IsPart p (Pass left) = IsAtRest p left (λ rest. [])
IsPart p (Video left) = IsAtRest p left (λ rest. rest)
IsPart p End = IsAtEnd p
IsPart p (Failed fault) =
    IsFault p.after.chosen p.after.start p.bytes fault × (p.kept ≡ []) × IsShown fault

-- the same, or an item ends there
abbrev pub LeadsTo : Part → ParserState → Type 0
LeadsTo p state = IsPart p state ⊎ ((zeros : ℕ) × (IsDone p zeros × (state ≡ Zeros 0)))

-- a state, for an item at this place and the stream_id that is chosen now, after these bytes, and
-- the video in them so far
pub record Reading : Type 0 where
  pub state : ParserState
  pub place : ℕ
  pub now : Option ℕ
  pub seen : List ℕ
  pub video : List ℕ

abbrev pub part_after : List Item → Reading → List ℕ → List ℕ → Part
part_after items a part kept = record {
  after = begins_at (chosen_after None items) (length (bytes_of items));
  place = a.place;
  now = a.now;
  bytes = part;
  kept = kept;
}

-- the bytes lead to the state
pub record IsReached (a : Reading) : Type 0 where
  pub items : List Item
  pub part : List ℕ
  pub kept : List ℕ
  pub are : AreItems None items
  pub seen_is : a.seen ≡ bytes_of items ++ part
  pub video_is : a.video ≡ video_of None items ++ kept
  pub is_part : IsPart (part_after items a part kept) a.state

-- an unwrapper was fed these bytes, and gave this video
pub record WasFed (unwrapper : Unwrapper) (seen video : List ℕ) : Type 0 where
  pub count : unwrapper.fed ≡ length seen
  pub reached : IsReached (record {
    state = unwrapper.place;
    place = unwrapper.item;
    now = unwrapper.chosen;
    seen = seen;
    video = video;
  })

-- the fault that an unwrapper has answered
abbrev pub fault_at : ParserState → Option SystemFault
fault_at (Zeros _) = None
fault_at Value = None
fault_at Mark = None
fault_at (High value) = None
fault_at (Low value high) = None
fault_at (InHeader header left) = None
fault_at (Pass left) = None
fault_at (Video left) = None
fault_at End = None
fault_at (Failed fault) = Some fault

abbrev pub fault_of : Unwrapper → Option SystemFault
fault_of unwrapper = fault_at unwrapper.place

-- where bytes are taken one by one
abbrev pub IsByByte : ParserState → Type 0
IsByByte (Zeros _) = Unit {0}
IsByByte Value = Unit {0}
IsByByte Mark = Unit {0}
IsByByte (High value) = Unit {0}
IsByByte (Low value high) = Unit {0}
IsByByte (InHeader header left) = Unit {0}
IsByByte (Pass left) = ⊥
IsByByte (Video left) = ⊥
IsByByte End = ⊥
IsByByte (Failed fault) = ⊥

-- where the header of a packet goes on, with so many bytes of the packet to come
abbrev pub place_in : Header → ℕ → ParserState
place_in (Stuffing count) left = InHeader (Stuffing count) left
place_in Second left = InHeader Second left
place_in Stamp left = InHeader Stamp left
place_in (Rest count) left =
    if count == 0 then (if left == 0 then Zeros 0 else Video left) else InHeader (Rest count) left

-- why a stream that ends at a place, in the item at `item`, is none
abbrev pub end_fault : ParserState → ℕ → Option SystemFault
end_fault (Zeros _) item = None
end_fault Value item = Some (Truncated item)
end_fault Mark item = Some (Truncated item)
end_fault (High value) item = Some (Truncated item)
end_fault (Low value high) item = Some (Truncated item)
end_fault (InHeader header left) item = Some (Truncated item)
end_fault (Pass left) item = Some (Truncated item)
end_fault (Video left) item = Some (Truncated item)
end_fault End item = None
end_fault (Failed fault) item = Some fault
