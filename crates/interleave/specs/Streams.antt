-- A connection's input as its elements in order and a rest: each byte CR or LF that stands before a
-- block or a request, each interleaved block, each request.
use Rattle.std.specs.Prelude.{◌≡◌, ℕ, ◌<◌, ◌≤◌, ◌⊎◌, ◌++◌, true, List, [], ◌∷◌, length, take, drop}
use Rattle.std.specs.Prelude.{map, slice_index, Result, Ok, Err}
use Rattle.interleave.specs.Heads.{is_line_end}
use Rattle.interleave.specs.Elements.{StartsBlock, StartsMessage, IsMessageLength, block_length}
use Rattle.interleave.specs.declared.elements.Step.{Step}
use Rattle.interleave.specs.declared.elements.Step.TheVariants.{Request, Block, Skip, More}
use Rattle.interleave.specs.declared.elements.DemuxFault.{DemuxFault}

-- the first element has this length and is complete
pub data IsElementLength (bytes : List ℕ) (n : ℕ) : Type 0 where
  LineEnd : n ≡ 1 → 0 < length bytes → is_line_end (slice_index bytes 0) ≡ true →
      IsElementLength bytes n
  WholeBlock : StartsBlock bytes → 4 ≤ length bytes → n ≡ block_length bytes → n ≤ length bytes →
      IsElementLength bytes n
  WholeMessage : StartsMessage bytes → IsMessageLength bytes n → n ≤ length bytes →
      IsElementLength bytes n

-- the bytes are these elements, one after another, and then the rest
abbrev pub AreInputElements : List ℕ → List (List ℕ) → List ℕ → Type 0
AreInputElements bytes [] rest = bytes ≡ rest
AreInputElements bytes (element ∷ elements) rest = (n : ℕ)
    × (IsElementLength bytes n × (element ≡ take n bytes) × AreInputElements (drop n bytes) elements
    rest)

-- the bytes are these elements, and the rest begins with no complete element
abbrev pub IsStream : List ℕ → List (List ℕ) → List ℕ → Type 0
IsStream bytes elements rest = AreInputElements bytes elements rest × ((n : ℕ) → ¬ IsElementLength
    rest n)

-- there are such elements, and such a rest
abbrev pub HasStream : List ℕ → Type 0
HasStream bytes = (elements : List (List ℕ)) × ((rest : List ℕ) × IsStream bytes elements rest)

-- the rest of one split is split further into the elements that the other has more
abbrev pub GoesOn : List (List ℕ) → List ℕ → List (List ℕ) → List ℕ → Type 0
GoesOn one rest other end = (more : List (List ℕ)) × ((other ≡ one ++ more) × AreInputElements rest
    more end)

-- of two splits one goes on where the other ends
abbrev pub SharePrefix : List (List ℕ) → List ℕ → List (List ℕ) → List ℕ → Type 0
SharePrefix one rest other end = GoesOn one rest other end ⊎ GoesOn other end one rest

-- the first elements, which an answer gives: each byte CR or LF is one
abbrev pub returned_elements : List ℕ → Result Step DemuxFault → List (List ℕ)
returned_elements bytes (Ok (Skip n)) = map (λ c. c ∷ []) (take n bytes)
returned_elements bytes (Ok (Block channel n)) = take n bytes ∷ []
returned_elements bytes (Ok (Request n)) = take n bytes ∷ []
returned_elements bytes (Ok More) = []
returned_elements bytes (Err fault) = []

-- how many bytes these are
abbrev pub returned_length : Result Step DemuxFault → ℕ
returned_length (Ok (Skip n)) = n
returned_length (Ok (Block channel n)) = n
returned_length (Ok (Request n)) = n
returned_length (Ok More) = 0
returned_length (Err fault) = 0

-- where an answer gives no element, none is complete
abbrev pub ReturnsNoElement : List ℕ → Result Step DemuxFault → Type 0
ReturnsNoElement bytes (Ok (Skip n)) = Unit {0}
ReturnsNoElement bytes (Ok (Block channel n)) = Unit {0}
ReturnsNoElement bytes (Ok (Request n)) = Unit {0}
ReturnsNoElement bytes (Ok More) = (n : ℕ) → ¬ IsElementLength bytes n
ReturnsNoElement bytes (Err fault) = (n : ℕ) → ¬ IsElementLength bytes n
