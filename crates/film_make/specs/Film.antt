-- The film of a number's words: MPEG-1 video (ISO/IEC 11172-2), twelve pictures to a group.
use Rattle.std.specs.Prelude.{ℕ, zero, suc, ◌+◌, ◌-◌, ◌*◌, ◌/◌, ◌%◌, ◌^◌, ◌==◌, List, [], ◌∷◌, ◌++◌}
use Rattle.std.specs.Prelude.{if◌then◌else◌, map, fold, drop}
use Rattle.std.specs.Int.{w64, to_be_bytes}
use Rattle.std.specs.List.{range_with_len, sum_by}
use Rattle.film_make.specs.declared.pictures.CodingType.{CodingType}
use Rattle.film_make.specs.declared.pictures.CodingType.TheVariants.{Intra, Predicted}
use Rattle.film_make.specs.declared.pictures.CodingType.TheVariants.{Bidirectional}
use Rattle.film_make.specs.Generator.{words_after, end_to_end}

-- fields from the highest bit on, each a value and its number of bits, as one number
abbrev pub in_bits : List (ℕ × ℕ) → ℕ
in_bits fields = fold (λ bits field. bits * 2 ^ field.1 + field.0) 0 fields

-- the bytes of fields that fill whole bytes, at most eight of them
abbrev pub in_bytes : List (ℕ × ℕ) → List ℕ
in_bytes fields = drop (8 - sum_by (λ field. field.1) fields / 8) (to_be_bytes w64 (in_bits fields))

-- the sequence header (2.4.2.3): 352 by 288, square samples, picture rate 3, which is 25 a second,
-- a variable bit rate, and a buffer of 20; and the group header (2.4.2.4): time 0, closed
abbrev pub sequence_and_group : List ℕ
sequence_and_group =
    0 ∷ 0 ∷ 1 ∷ 0xb3 ∷ 0x16 ∷ 0x01 ∷ 0x20 ∷ 0x13 ∷ 0xff ∷ 0xff ∷ 0xe0 ∷ 0xa0
    ∷ 0 ∷ 0 ∷ 1 ∷ 0xb8 ∷ 0x00 ∷ 0x08 ∷ 0x00 ∷ 0x40 ∷ []

-- the end of the sequence
abbrev pub sequence_end : List ℕ
sequence_end = 0 ∷ 0 ∷ 1 ∷ 0xb7 ∷ []

-- the type of picture j of a group, in the order of the stream: I P B P B P B P B P B P
unfoldable pub coding_type : ℕ → CodingType
coding_type j = if j == 0 then Intra else (if j % 2 == 1 then Predicted else Bidirectional)

-- its place in the order of showing: I, then each P one later than it stands but the last, and each
-- B one earlier
unfoldable pub temporal_reference : ℕ → ℕ
temporal_reference j =
    if j == 0 then 0 else (if j == 11 then 11 else (if j % 2 == 1 then j + 1 else j - 1))

-- the fields of a picture header after its start code (2.4.2.5): temporal_reference,
-- picture_coding_type, vbv_delay, and the full-pel bit and f-code of each kind of vector that the
-- type has; zero bits fill the last byte
abbrev pub picture_fields : CodingType → ℕ → List (ℕ × ℕ)
picture_fields Intra tr = (tr, 10) ∷ (1, 3) ∷ (0xffff, 16) ∷ (0, 3) ∷ []
picture_fields Predicted tr = (tr, 10) ∷ (2, 3) ∷ (0xffff, 16) ∷ (0, 1) ∷ (1, 3) ∷ (0, 7) ∷ []
picture_fields Bidirectional tr =
    (tr, 10) ∷ (3, 3) ∷ (0xffff, 16) ∷ (0, 1) ∷ (1, 3) ∷ (0, 1) ∷ (1, 3) ∷ (0, 3) ∷ []

-- the picture header of picture j of a group
unfoldable pub picture_header : ℕ → List ℕ
picture_header j = 0 ∷ 0 ∷ 1 ∷ 0 ∷ in_bytes (picture_fields (coding_type j) (temporal_reference j))

-- the least length of a slice's body, and how many lengths there are from it on
abbrev pub least_body : CodingType → ℕ
least_body Intra = 300
least_body Predicted = 60
least_body Bidirectional = 30

abbrev pub body_lengths : CodingType → ℕ
body_lengths Intra = 1200
body_lengths Predicted = 400
body_lengths Bidirectional = 200

-- the length of a slice's body, by the next word
unfoldable pub body_length : (ℕ → ℕ) → CodingType → ℕ
body_length words kind = least_body kind + words 0 % body_lengths kind

-- the words after those of a slice: one for the length of the body, and one for each byte
unfoldable pub after_slice : CodingType → (ℕ → ℕ) → ℕ → ℕ
after_slice kind words = words_after (1 + body_length words kind) words

-- a body of n bytes from 128 to 255, a word each
unfoldable pub body_of : (ℕ → ℕ) → ℕ → List ℕ
body_of words n = map (λ i. 128 + words i % 128) (range_with_len 0 n)

-- a slice: its start code, and its body, whose length is drawn before its bytes
unfoldable pub slice_of : (ℕ → ℕ) → CodingType → ℕ → List ℕ
slice_of words kind code = 0 ∷ 0 ∷ 1 ∷ code ∷ body_of (words_after 1 words) (body_length words kind)

-- the words from which slice s of a picture is drawn
unfoldable pub slice_words : CodingType → (ℕ → ℕ) → ℕ → ℕ → ℕ
slice_words kind words zero = words
slice_words kind words (suc s) = after_slice kind (slice_words kind words s)

-- the words from which picture k of a film is drawn: each picture before it has four slices
unfoldable pub picture_words : (ℕ → ℕ) → ℕ → ℕ → ℕ
picture_words words zero = words
picture_words words (suc k) = slice_words (coding_type (k % 12)) (picture_words words k) 4

-- the first n slices of a picture, with codes from 1 on
abbrev pub slices_of : (ℕ → ℕ) → CodingType → ℕ → List ℕ
slices_of words kind n = end_to_end (λ s. slice_of (slice_words kind words s) kind (s + 1)) n

-- picture k: the sequence and group headers where it is the first of its group, its header, and
-- slices 1 to 4
unfoldable pub picture_of : (ℕ → ℕ) → ℕ → List ℕ
picture_of words k =
    (if k % 12 == 0 then sequence_and_group else []) ++ picture_header (k % 12)
    ++ slices_of words (coding_type (k % 12)) 4

-- the first n pictures of a film
abbrev pub pictures_of : (ℕ → ℕ) → ℕ → List ℕ
pictures_of words n = end_to_end (λ k. picture_of (picture_words words k) k) n

-- the film of n pictures
abbrev pub film_of : (ℕ → ℕ) → ℕ → List ℕ
film_of words n = pictures_of words n ++ sequence_end
