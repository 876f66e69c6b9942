-- A system stream in the fields of ISO/IEC 11172-1, 2.4.3, as a multiplexer writes them: packs and
-- packets, each field a number of so many bits, the highest first, and each marker bit 1.
use Rattle.std.specs.Prelude.{◌≡◌, ℕ, ◌+◌, ◌-◌, ◌*◌, ◌/◌, ◌%◌, ◌^◌, ◌<◌, ◌≤◌, ◌==◌, ◌⊎◌}
use Rattle.std.specs.Prelude.{if◌then◌else◌, ◌≢◌, List, [], ◌∷◌, ◌++◌, length, replicate}
use Rattle.std.specs.Prelude.{slice_index, Option, Some, None, take}

-- 16 bits, and 24
abbrev pub two_bytes : ℕ → List ℕ
two_bytes n = n / 256 ∷ n % 256 ∷ []

abbrev pub three_bytes : ℕ → List ℕ
three_bytes n = n / 65536 ∷ n / 256 % 256 ∷ n % 256 ∷ []

-- a start code with its value, any number of bytes 00 before it, and what follows it
abbrev pub with_code : ℕ → ℕ → List ℕ → List ℕ
with_code front value rest = replicate front 0 ++ (0 ∷ 0 ∷ 1 ∷ value ∷ rest)

-- ---- fields

-- a time of 33 bits after 4 bits that say which it is: bits 32 to 30, 29 to 15 and 14 to 0, each
-- part with a marker bit after it
abbrev pub time_bytes : ℕ → ℕ → List ℕ
time_bytes which time =
    (which * 16 + time / 2 ^ 30 * 2 + 1)
    ∷ two_bytes (time / 2 ^ 15 % 2 ^ 15 * 2 + 1) ++ two_bytes (time % 2 ^ 15 * 2 + 1)

-- a pack header after its code: 0010 and the system_clock_reference; then mux_rate, of 22 bits,
-- between marker bits
abbrev pub pack_fields : ℕ → ℕ → List ℕ
pack_fields clock_reference mux_rate =
    time_bytes 2 clock_reference ++ three_bytes (2 ^ 23 + mux_rate * 2 + 1)

-- the size of a decoder's buffer: STD_buffer_scale, of 1 bit, and STD_buffer_size, of 13
pub record Buffer : Type 0 where
  pub scale : ℕ
  pub size : ℕ

-- the time stamps of a packet: none; when its first picture is shown; and also when it is decoded
pub data Stamps : Type 0 where
  NoStamp : Stamps
  Shown : (shown : ℕ) → Stamps
  ShownAndDecoded : (shown decoded : ℕ) → Stamps

-- 01 before a buffer's size
abbrev pub buffer_bytes : Option Buffer → List ℕ
buffer_bytes None = []
buffer_bytes (Some buffer) = two_bytes (2 ^ 14 + buffer.scale * 2 ^ 13 + buffer.size)

-- 0010 before a time of showing alone; 0011 before one and 0001 before a time of decoding after it;
-- 0000 1111 where there is neither
abbrev pub stamp_bytes : Stamps → List ℕ
stamp_bytes NoStamp = 0x0f ∷ []
stamp_bytes (Shown shown) = time_bytes 2 shown
stamp_bytes (ShownAndDecoded shown decoded) = time_bytes 3 shown ++ time_bytes 1 decoded

-- what a packet of video has after its length: bytes FF of stuffing, its header, and its video
abbrev pub content_of : ℕ → Option Buffer → Stamps → List ℕ → List ℕ
content_of stuffing buffer stamps video =
    replicate stuffing 0xff ++ (buffer_bytes buffer ++ stamp_bytes stamps ++ video)

-- ---- a stream

-- a pack header; a packet of video stream 0 to 15; another packet, also a system header, a packet
-- of audio or padding; each with a number of bytes 00 before it
pub data Element : Type 0 where
  PackHeader : (front clock_reference mux_rate : ℕ) → Element
  VideoPacket : (front stream stuffing : ℕ) (buffer : Option Buffer) (stamps : Stamps)
      (video : List ℕ) → Element
  OtherPacket : (front value : ℕ) (content : List ℕ) → Element

-- a packet with its stream_id: its length in 16 bits, and its content
abbrev pub packet_bytes : ℕ → ℕ → List ℕ → List ℕ
packet_bytes front value content = with_code front value (two_bytes (length content) ++ content)

-- the stream_id of a video stream: 1110 and the stream's number
abbrev pub video_stream_id : ℕ → ℕ
video_stream_id stream = 0xe * 16 + stream

abbrev pub element_bytes : Element → List ℕ
element_bytes (PackHeader front clock_reference mux_rate) =
    with_code front 0xba (pack_fields clock_reference mux_rate)
element_bytes (VideoPacket front stream stuffing buffer stamps video) =
    packet_bytes front (video_stream_id stream) (content_of stuffing buffer stamps video)
element_bytes (OtherPacket front value content) = packet_bytes front value content

abbrev pub stream_bytes : List Element → List ℕ
stream_bytes [] = []
stream_bytes (element ∷ elements) = element_bytes element ++ stream_bytes elements

-- the bytes 00 before an element's prefix
abbrev pub front_of : Element → ℕ
front_of (PackHeader front clock_reference mux_rate) = front
front_of (VideoPacket front stream stuffing buffer stamps video) = front
front_of (OtherPacket front value content) = front

-- Bytes begin with elements, and after these stands a byte at a place that no start code can have:
-- only bytes 00 come before it, and it is neither 00 nor, after two of them, 01.
pub record IsStrayByte (elements : List Element) (bytes : List ℕ) (at : ℕ) : Type 0 where
  pub begins : take (length (stream_bytes elements)) bytes ≡ stream_bytes elements
  pub after : length (stream_bytes elements) ≤ at
  pub inside : at < length bytes
  pub zeros : (k : ℕ) → length (stream_bytes elements) ≤ k → k < at → slice_index bytes k ≡ 0
  pub some : slice_index bytes at ≢ 0
  pub early : slice_index bytes at ≡ 1 → at < length (stream_bytes elements) + 2

-- fields that fit their bits
abbrev pub FitsBuffer : Option Buffer → Type 0
FitsBuffer None = Unit {0}
FitsBuffer (Some buffer) = (buffer.scale < 2) × (buffer.size < 2 ^ 13)

abbrev pub FitStamps : Stamps → Type 0
FitStamps NoStamp = Unit {0}
FitStamps (Shown shown) = shown < 2 ^ 33
FitStamps (ShownAndDecoded shown decoded) = (shown < 2 ^ 33) × (decoded < 2 ^ 33)

-- a packet of video with at most 16 bytes of stuffing
pub record IsVideoPacket (stream stuffing : ℕ) (buffer : Option Buffer) (stamps : Stamps)
    (video : List ℕ) : Type 0 where
  pub stream_fits : stream < 16
  pub few : stuffing ≤ 16
  pub buffer_fits : FitsBuffer buffer
  pub stamps_fit : FitStamps stamps
  pub long : length (content_of stuffing buffer stamps video) < 2 ^ 16

-- the start code values of other packets: BB to DF, and F0 to FF
abbrev pub IsOtherValue : ℕ → Type 0
IsOtherValue value = ((0xbb ≤ value) × (value ≤ 0xdf)) ⊎ ((0xf0 ≤ value) × (value ≤ 0xff))

abbrev pub IsElement : Element → Type 0
IsElement (PackHeader front clock_reference mux_rate) =
    (clock_reference < 2 ^ 33) × (mux_rate < 2 ^ 22)
IsElement (VideoPacket front stream stuffing buffer stamps video) =
    IsVideoPacket stream stuffing buffer stamps video
IsElement (OtherPacket front value content) = IsOtherValue value × (length content < 2 ^ 16)

abbrev pub AreElements : List Element → Type 0
AreElements [] = Unit {0}
AreElements (element ∷ elements) = IsElement element × AreElements elements

-- the stream ends, or its code of the end stands there, and any bytes after that
abbrev pub IsStreamEnd : List ℕ → Type 0
IsStreamEnd tail = (tail ≡ []) ⊎ ((rest : List ℕ) × (tail ≡ with_code 0 0xb9 rest))

-- the number of the first video stream of which a packet stands there
abbrev pub first_stream : List Element → Option ℕ
first_stream [] = None
first_stream (PackHeader _ clock_reference mux_rate ∷ elements) = first_stream elements
first_stream (VideoPacket _ stream stuffing buffer stamps video ∷ elements) = Some stream
first_stream (OtherPacket _ value content ∷ elements) = first_stream elements

-- the video of a stream, in order
abbrev pub video_of_stream : ℕ → List Element → List ℕ
video_of_stream number [] = []
video_of_stream number (PackHeader _ clock_reference mux_rate ∷ elements) =
    video_of_stream number elements
video_of_stream number (VideoPacket _ stream stuffing buffer stamps video ∷ elements) =
    (if number == stream then video else []) ++ video_of_stream number elements
video_of_stream number (OtherPacket _ value content ∷ elements) = video_of_stream number elements

-- that of the first stream of video
abbrev pub video_by : Option ℕ → List Element → List ℕ
video_by None elements = []
video_by (Some number) elements = video_of_stream number elements

abbrev pub first_video : List Element → List ℕ
first_video elements = video_by (first_stream elements) elements

-- ---- which bytes a packet of video may begin with

-- the first so many bits of bytes
abbrev pub first_bits : ℕ → List ℕ → ℕ
first_bits count bytes = slice_index bytes 0 / 2 ^ (8 - count)

-- none, or two bytes that begin with 01
abbrev pub IsSizeField : List ℕ → Type 0
IsSizeField bytes = (bytes ≡ []) ⊎ ((length bytes ≡ 2) × (first_bits 2 bytes ≡ 1))

-- 5 bytes that begin with 0010, 10 bytes with 0011, or the byte 0000 1111
abbrev pub IsStampField : List ℕ → Type 0
IsStampField bytes =
    ((length bytes ≡ 5) × (first_bits 4 bytes ≡ 2))
    ⊎ (((length bytes ≡ 10) × (first_bits 4 bytes ≡ 3)) ⊎ (bytes ≡ 0x0f ∷ []))

-- a content is a header and this video
pub record HasHeader (content video : List ℕ) : Type 0 where
  pub stuffing : ℕ
  pub size : List ℕ
  pub stamp : List ℕ
  pub few : stuffing ≤ 16
  pub size_is : IsSizeField size
  pub stamp_is : IsStampField stamp
  pub is : content ≡ replicate stuffing 0xff ++ (size ++ stamp ++ video)
