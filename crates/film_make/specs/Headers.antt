-- The headers of a generated film, read at the bits of ISO/IEC 11172-2, 2.4.2.
use Rattle.std.specs.Prelude.{ℕ, ◌+◌, ◌-◌, ◌*◌, ◌/◌, ◌%◌, ◌^◌, ◌≡◌, List, [], ◌∷◌, map, take}
use Rattle.std.specs.Prelude.{slice_index}
use Rattle.std.specs.List.{range_with_len}
use Rattle.film_make.specs.Film.{picture_header}

-- a sequence header (2.4.2.3): horizontal_size and vertical_size have 12 bits, pel_aspect_ratio and
-- picture_rate 4, bit_rate 18, a marker bit, vbv_buffer_size 10, then three flags. Pictures of 352
-- by 288 square samples, 25 a second, at a variable rate
pub record IsSequenceHeader (bytes : List ℕ) : Type 0 where
  pub code : take 4 bytes ≡ 0 ∷ 0 ∷ 1 ∷ 0xb3 ∷ []
  pub horizontal_size : slice_index bytes 4 * 16 + slice_index bytes 5 / 16 ≡ 352
  pub vertical_size : slice_index bytes 5 % 16 * 256 + slice_index bytes 6 ≡ 288
  pub pel_aspect_ratio : slice_index bytes 7 / 16 ≡ 1
  pub picture_rate : slice_index bytes 7 % 16 ≡ 3
  pub bit_rate :
      slice_index bytes 8 * 1024 + slice_index bytes 9 * 4 + slice_index bytes 10 / 64 ≡ 2 ^ 18 - 1
  pub marker_bit : slice_index bytes 10 / 32 % 2 ≡ 1
  pub vbv_buffer_size : slice_index bytes 10 % 32 * 32 + slice_index bytes 11 / 8 ≡ 20
  pub no_flag : slice_index bytes 11 % 8 ≡ 0

-- the four bytes of a group header after its code as one number
abbrev pub group_word : List ℕ → ℕ
group_word bytes =
    slice_index bytes 4 * 2 ^ 24 + slice_index bytes 5 * 2 ^ 16 + slice_index bytes 6 * 2 ^ 8
    + slice_index bytes 7

-- a group header (2.4.2.4): time_code has 25 bits, the thirteenth a marker bit, then closed_gop and
-- broken_link. A closed group at time 0
pub record IsGroupHeader (bytes : List ℕ) : Type 0 where
  pub code : take 4 bytes ≡ 0 ∷ 0 ∷ 1 ∷ 0xb8 ∷ []
  pub time_code : group_word bytes / 2 ^ 7 ≡ 2 ^ 12
  pub closed_gop : group_word bytes / 2 ^ 6 % 2 ≡ 1
  pub broken_link : group_word bytes / 2 ^ 5 % 2 ≡ 0

-- a field of each picture header of a group, in the order of the stream
abbrev pub field_of : (List ℕ → ℕ → ℕ) → List ℕ
field_of field = map (λ j. field (picture_header j) 0) (range_with_len 0 12)
