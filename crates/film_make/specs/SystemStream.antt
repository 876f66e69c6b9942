-- A system stream (ISO/IEC 11172-1) of one video stream, in packets of at most 2,000 video bytes.
use Rattle.std.specs.Prelude.{ℕ, ◌+◌, ◌*◌, ◌/◌, List, [], ◌∷◌, ◌++◌, length, take, drop}
use Rattle.std.specs.Int.{w16, to_be_bytes}
use Rattle.film_make.specs.Generator.{end_to_end}

-- a pack header (2.4.3.2)
abbrev pub pack_header : List ℕ
pack_header = 0 ∷ 0 ∷ 1 ∷ 0xba ∷ 0x21 ∷ 0x00 ∷ 0x01 ∷ 0x00 ∷ 0x01 ∷ 0x80 ∷ 0x00 ∷ 0x03 ∷ []

-- a pack of one packet (2.4.3.3) of video stream 0 without time stamps: its length counts the byte
-- 0F and the video bytes
abbrev pub pack_of : List ℕ → List ℕ
pack_of bytes =
    pack_header ++ (0 ∷ 0 ∷ 1 ∷ 0xe0 ∷ to_be_bytes w16 (length bytes + 1)) ++ 0x0f ∷ bytes

-- the first n packs of video: pack i has the 2,000 bytes from 2000 * i on, or what is left
abbrev pub packs_of : List ℕ → ℕ → List ℕ
packs_of video n = end_to_end (λ i. pack_of (take 2000 (drop (2000 * i) video))) n

-- video in as many packs as it needs, and the end code
abbrev pub system_of : List ℕ → List ℕ
system_of video = packs_of video ((length video + 1999) / 2000) ++ 0 ∷ 0 ∷ 1 ∷ 0xb9 ∷ []
