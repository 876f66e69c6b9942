-- The content of a packet of video (ISO/IEC 11172-1, section 2.4.3.3): stuffing, a buffer size, a
-- time stamp and the video bytes.
use Rattle.std.specs.Prelude.{ℕ, ◌/◌, ◌==◌, if◌then◌else◌, nat_le, List, [], ◌∷◌, length, drop}
use Rattle.std.specs.Prelude.{Option, Some, None, zero, suc}

-- the bytes after these `count`, where there are as many
abbrev pub after_bytes : ℕ → List ℕ → Option (List ℕ)
after_bytes count bytes = if nat_le count (length bytes) then Some (drop count bytes) else None

-- from the time stamp on: 5 bytes where the first one's high four bits are 2, 10 where they are 3,
-- or the one byte 0F
abbrev pub from_stamp : List ℕ → Option (List ℕ)
from_stamp [] = None
from_stamp (b ∷ bytes) =
    if b / 16 == 2 then after_bytes 4 bytes
    else (if b / 16 == 3 then after_bytes 9 bytes else (if b == 15 then Some bytes else None))

-- from the buffer size on: two bytes, where the first one's high two bits are 01
abbrev pub from_size : List ℕ → Option (List ℕ)
from_size [] = None
from_size (b ∷ bytes) = if b / 64 == 1 then from_stamp (drop 1 bytes) else from_stamp (b ∷ bytes)

-- from the stuffing on: at most so many bytes FF
abbrev pub from_stuffing : ℕ → List ℕ → Option (List ℕ)
from_stuffing most [] = None
from_stuffing zero (b ∷ bytes) = from_size (b ∷ bytes)
from_stuffing (suc most) (b ∷ bytes) = if b == 255
    then from_stuffing most bytes else from_size (b ∷ bytes)

-- the video bytes of a content: what stands after its header; None where that isn't complete or of
-- another form
unfoldable pub video_in : List ℕ → Option (List ℕ)
video_in content = from_stuffing 16 content
