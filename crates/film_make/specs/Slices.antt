-- The slices of a generated picture, as they lie in ISO/IEC 11172-2, 2.4.2.6.
use Rattle.std.specs.Prelude.{ℕ, zero, suc, ◌+◌, ◌≡◌, ◌≤◌, List, [], ◌∷◌, ◌++◌, All, length}

-- bytes among which no start code begins: none is 00
abbrev pub IsBody : List ℕ → Type 0
IsBody bytes = All (λ byte. (128 ≤ byte) × (byte ≤ 255)) bytes

-- So many slices, one after another, and nothing else. Each is its start code, whose last byte is
-- the slice's number, and a body; the numbers count on from the first one's.
abbrev pub AreSlices : ℕ → ℕ → List ℕ → Type 0
AreSlices zero number bytes = bytes ≡ []
AreSlices (suc count) number bytes =
    (body : List ℕ) × ((rest : List ℕ) × ((bytes ≡ (0 ∷ 0 ∷ 1 ∷ number ∷ body) ++ rest)
    × IsBody body × AreSlices count (number + 1) rest))

-- headers, whose sizes are known, and after them so many slices from the first row on
pub record EndsWithSlices (size count : ℕ) (picture : List ℕ) : Type 0 where
  pub headers : List ℕ
  pub slices : List ℕ
  pub picture_is : picture ≡ headers ++ slices
  pub size_is : length headers ≡ size
  pub slices_are : AreSlices count 1 slices
