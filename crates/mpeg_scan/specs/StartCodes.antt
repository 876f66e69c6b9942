-- The start codes of MPEG-1 video (ISO/IEC 11172-2, 2.4.2.1).
use Rattle.std.specs.Prelude.{ℕ, ◌-◌, ◌==◌, ◌&&◌, Bool, true, false, List, [], ◌∷◌, if◌then◌else◌}
use Rattle.std.specs.Prelude.{length, slice_index_or}
use Rattle.mpeg_scan.specs.HeaderBytes.{header_with}
use Rattle.mpeg_scan.specs.declared.codes.Code.{Code}
use Rattle.mpeg_scan.specs.declared.codes.Prefix.{Prefix}
use Rattle.mpeg_scan.specs.declared.codes.Prefix.TheVariants.{Nothing, Zero, Zeros, Whole}

-- the bytes in xs read after those in r, the latest first
abbrev pub read_after : List ℕ → List ℕ → List ℕ
read_after r [] = r
read_after r (x ∷ xs) = read_after (x ∷ r) xs

-- the byte i places back from the latest one, or 256 where there is none
abbrev pub byte_back : List ℕ → ℕ → ℕ
byte_back r i = slice_index_or r i 256

-- how much of the prefix 00 00 01 stands at the end of the bytes, which are given the latest first
unfoldable pub latest_prefix : List ℕ → Prefix
latest_prefix r =
    if byte_back r 0 == 1 && (byte_back r 1 == 0 && byte_back r 2 == 0) then Whole
    else (if byte_back r 0 == 0 && byte_back r 1 == 0 then Zeros
    else (if byte_back r 0 == 0 then Zero else Nothing))

-- the same once a byte 1, or a byte 0, or any byte is read
abbrev pub after_one : Prefix → Prefix
after_one Zeros = Whole
after_one _ = Nothing

abbrev pub after_zero : Prefix → Prefix
after_zero Zero = Zeros
after_zero Zeros = Zeros
after_zero _ = Zero

abbrev pub next_prefix : Prefix → ℕ → Prefix
next_prefix p x = if x == 1 then after_one p else (if x == 0 then after_zero p else Nothing)

abbrev pub is_whole : Prefix → Bool
is_whole Whole = true
is_whole _ = false

-- a byte more for the header bytes of a code
abbrev pub note : Code → ℕ → Code
note c x = record c { header = header_with c.header x }

-- a byte more, for those of the latest code
abbrev pub note_latest : List Code → ℕ → List Code
note_latest [] x = []
note_latest (c ∷ past) x = note c x ∷ past

-- the start codes, the latest first: each byte before which 00 00 01 stands is the value of a code,
-- whose place is that of these three
unfoldable pub codes_of : List ℕ → List Code
codes_of [] = []
codes_of (x ∷ r) =
    if is_whole (latest_prefix r)
    then record { place = length r - 3; value = x; header = [] } ∷ note_latest (codes_of r) x
    else note_latest (codes_of r) x
