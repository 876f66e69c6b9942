-- The grammar of certificates, line by line.
use Rattle.std.specs.Prelude.{ℕ, ◌≡◌, ◌≢◌, ◌+◌, ◌<◌, ◌≤◌, ◌^◌, ◌⊎◌, List, [], ◌∷◌, ◌++◌, codes}
use Rattle.std.specs.Prelude.{decimal, length, All, drop, flat_map, slice_index_or, if◌then◌else◌}
use Rattle.std.specs.Prelude.{◌==◌, true, not}
use Rattle.std.specs.List.{list_all}
use Rattle.plan_cert.specs.declared.cert_reader.TheConstants.{MAX_NUMBER, MAX_SEGMENTS}
use Rattle.plan_cert.specs.declared.Segment.{Segment}
use Rattle.plan_cert.specs.declared.cert_reader.CertRead.{CertRead}
use Rattle.plan_cert.specs.declared.cert_reader.CertRead.TheVariants.{BadCert, NoMemory}
use Rattle.plan_cert.specs.PlanSlots.{total_slots, total_bytes}
use Rattle.plan_cert.specs.CertFormat.{cert_text, cert_head, segment_line, segment_words}

-- a text as its lines, each ended by LF, and what stands after the last LF
pub record Lines : Type 0 where
  pub whole : List (List ℕ)
  pub rest : List ℕ

abbrev pub with_front : ℕ → List (List ℕ) → List ℕ → Lines
with_front byte [] rest = record { whole = []; rest = byte ∷ rest }
with_front byte (line ∷ lines) rest = record { whole = (byte ∷ line) ∷ lines; rest = rest }

abbrev pub lines_of : List ℕ → Lines
lines_of [] = record { whole = []; rest = [] }
lines_of (byte ∷ text) =
    if byte == 10 then record { whole = [] ∷ (lines_of text).whole; rest = (lines_of text).rest }
    else with_front byte (lines_of text).whole (lines_of text).rest

-- the word and a number up to 2^42, without leading zeros
pub record IsNumberLine (word line : List ℕ) (n : ℕ) : Type 0 where
  pub small : n ≤ MAX_NUMBER
  pub words : line ≡ word ++ decimal n

-- a segment whose numbers are up to 2^42
pub record IsSegmentLine (line : List ℕ) (s : Segment) : Type 0 where
  pub few_slots : s.slots ≤ MAX_NUMBER
  pub few_bytes : s.bytes ≤ MAX_NUMBER
  pub words : line ≡ segment_words s

-- the two numbers of a segment, with a space between them
pub record AreNumbers (text : List ℕ) (s : Segment) : Type 0 where
  pub few_slots : s.slots ≤ MAX_NUMBER
  pub few_bytes : s.bytes ≤ MAX_NUMBER
  pub words : text ≡ decimal s.slots ++ codes " " ++ decimal s.bytes

-- what may stand in line i, counted from 0, where more lines follow
pub data MayStand (i : ℕ) (line : List ℕ) : Type 0 where
  Title : i ≡ 0 → line ≡ codes "smooth 1" → MayStand i line
  Slots : (n : ℕ) → i ≡ 1 → IsNumberLine (codes "slots ") line n → MayStand i line
  Bytes : (n : ℕ) → i ≡ 2 → IsNumberLine (codes "bytes ") line n → MayStand i line
  SegmentLine : (s : Segment) → 3 ≤ i → i < 1000003 → IsSegmentLine line s → MayStand i line

-- what ends a certificate in line i
pub record MayEnd (i : ℕ) (line : List ℕ) : Type 0 where
  pub after_head : 3 ≤ i
  pub words : line ≡ codes "end"

abbrev pub line_at : Lines → ℕ → List ℕ
line_at lines i = slice_index_or lines.whole i []

-- Line i, from 0, is the first one that breaks the grammar: the text ends before that line does, or
-- the line may neither stand there nor end the certificate.
pub record BreaksAt (lines : Lines) (i : ℕ) : Type 0 where
  pub before : (j : ℕ) → j < i → MayStand j (line_at lines j)
  pub here : (i ≡ length lines.whole)
      ⊎ ((i < length lines.whole) × (¬ MayStand i (line_at lines i))
      × (¬ MayEnd i (line_at lines i)))

-- Line i, from 0, is after the end of a complete certificate.
pub record IsAfterEnd (lines : Lines) (i : ℕ) : Type 0 where
  pub last : ℕ
  pub last_is : i ≡ last + 1
  pub before : (j : ℕ) → j < last → MayStand j (line_at lines j)
  pub inside : last < length lines.whole
  pub ends : MayEnd last (line_at lines last)
  pub more : (i < length lines.whole) ⊎ (lines.rest ≢ [])

-- segments that a certificate can name
pub record AreSmall (segments : List Segment) : Type 0 where
  pub few : length segments ≤ MAX_SEGMENTS
  pub small : All (λ s. (s.slots ≤ MAX_NUMBER) × (s.bytes ≤ MAX_NUMBER)) segments

-- so are their sums
pub record FitCertLimits (segments : List Segment) : Type 0 where
  pub small : AreSmall segments
  pub few_slots : total_slots segments ≤ MAX_NUMBER
  pub few_bytes : total_bytes segments ≤ MAX_NUMBER

-- All lines are well formed, but the sums at the head aren't those of the segments: line i, from 0,
-- is the first of the two that is wrong.
pub record HasWrongSum (text : List ℕ) (i : ℕ) : Type 0 where
  pub slots : ℕ
  pub bytes : ℕ
  pub segments : List Segment
  pub small_slots : slots ≤ MAX_NUMBER
  pub small_bytes : bytes ≤ MAX_NUMBER
  pub small : AreSmall segments
  pub text_is : text ≡ cert_head slots bytes ++ flat_map segment_line segments ++ codes "end\n"
  pub wrong : ((i ≡ 1) × (total_slots segments ≢ slots))
      ⊎ ((i ≡ 2) × (total_slots segments ≡ slots) × (total_bytes segments ≢ bytes))

-- The text is the certificate of these segments, and these are its two sums.
pub record IsCertificate (text : List ℕ) (slots bytes : ℕ) (segments : List Segment) : Type 0 where
  pub text_is : text ≡ cert_text segments
  pub slots_are : slots ≡ total_slots segments
  pub bytes_are : bytes ≡ total_bytes segments
  pub small_slots : slots ≤ MAX_NUMBER
  pub small_bytes : bytes ≤ MAX_NUMBER
  pub small : AreSmall segments

-- line `line`, from 1, is the bad one
abbrev pub IsBadLine : List ℕ → ℕ → Type 0
IsBadLine text line =
    (i : ℕ) × (line ≡ i + 1)
    × (BreaksAt (lines_of text) i ⊎ (IsAfterEnd (lines_of text) i ⊎ HasWrongSum text i))

-- why a text is refused
abbrev pub IsCertRefusal : List ℕ → CertRead → Type 0
IsCertRefusal text (BadCert line) = IsBadLine text line
IsCertRefusal text NoMemory = Unit {0}

-- a line: none of its bytes is LF
abbrev pub IsOneLine : List ℕ → Type 0
IsOneLine line = list_all (λ byte. not (byte == 10)) line ≡ true

-- the lines of a head and of segments that a certificate can name, and then this text
abbrev pub begun_text : ℕ → ℕ → List Segment → List ℕ → List ℕ
begun_text slots bytes segments rest =
    cert_head slots bytes ++ (flat_map segment_line segments ++ rest)

-- a fact of such lines: a head of two numbers and segments
abbrev pub OfBegunTexts : (ℕ → ℕ → List Segment → Type 0) → Type 0
OfBegunTexts Fact =
    (slots bytes : ℕ) (segments : List Segment) → slots ≤ MAX_NUMBER → bytes ≤ MAX_NUMBER
    → AreSmall segments → Fact slots bytes segments

-- k lines of the text are read and may stand there, and `rest` is left of it
pub record HasReadLines (text : List ℕ) (k : ℕ) (rest : List ℕ) : Type 0 where
  pub within : k ≤ length (lines_of text).whole
  pub left : drop k (lines_of text).whole ≡ (lines_of rest).whole
  pub after : (lines_of text).rest ≡ (lines_of rest).rest
  pub before : (j : ℕ) → j < k → MayStand j (line_at (lines_of text) j)

-- the three lines of the head are read
pub record IsHead (text : List ℕ) (slots bytes : ℕ) (rest : List ℕ) : Type 0 where
  pub small_slots : slots ≤ MAX_NUMBER
  pub small_bytes : bytes ≤ MAX_NUMBER
  pub text_is : text ≡ cert_head slots bytes ++ rest
  pub read : HasReadLines text 3 rest

-- the lines of the segments and the end
pub record IsBody (text : List ℕ) (segments : List Segment) : Type 0 where
  pub small : AreSmall segments
  pub text_is : text ≡ flat_map segment_line segments ++ codes "end\n"
