-- Boundaries and next bytes of a track, by the ends of its pieces.
use Rattle.std.proofs.Common.{◌≡◌, ℕ, ◌+◌, ◌-◌, ◌<◌, ◌≤◌, List, [], ◌++◌, length, take, drop}
use Rattle.std.proofs.Common.{get_or, refl, sym, ap, subst, ◌∙◌, arith, inl, inr}
use Rattle.std.specs.List.{sum_by}
use Rattle.std.specs.List.Sorted.{IsNonDecreasing}
use Rattle.std.proofs.lemmas.List.{take-take, take_all, drop_at, drop-drop, drop-append-le, take-append-le, drop_more}
use Rattle.std.proofs.lemmas.List.{take-append-drop, length-take-le, length-drop}
use Rattle.std.proofs.lemmas.List.Concat.{flat_map-append, length-flat_map}
use Rattle.std.proofs.lemmas.List.Sums.{sum_by_more, sum_by-take-le}
use Rattle.std.proofs.lemmas.List.Sorted.{IsNonDecreasingBy-from_default}
use Rattle.std.proofs.lemmas.Bool.{cases_lt}
use Rattle.film_frames.specs.Tracks.{framed_bytes, begin_of, IsBoundaryAfter, IsNext}

-- these are the ends of pieces, counted from a place before the first of them
pub record AreEnds (base : ℕ) (pieces : List (List ℕ)) (ends : List ℕ) : Type 0 where
  pub count : length ends ≡ length pieces
  pub each : (k : ℕ) → k < length ends → get_or ends k 0 ≡ base + begin_of pieces (k + 1)

begin-sum : (pieces : List (List ℕ)) (k : ℕ) → begin_of pieces k ≡ sum_by length (take k pieces)
begin-sum pieces k = length-flat_map (λ (p : List ℕ). p) (take k pieces)

-- a piece ends where it begins and its length more
pub begin-more : (pieces : List (List ℕ)) (k : ℕ) → k < length pieces
    → begin_of pieces (k + 1) ≡ begin_of pieces k + length (get_or pieces k [])
begin-more pieces k h =
    begin-sum pieces (k + 1) ∙ sum_by_more length pieces k [] h
    ∙ ap (λ n. n + length (get_or pieces k [])) (sym (begin-sum pieces k))

pub begin-le : (pieces : List (List ℕ)) (k j : ℕ) → k ≤ j → begin_of pieces k ≤ begin_of pieces j
begin-le pieces k j h =
    let part = sum_by-take-le length (take j pieces) k in
    let same : sum_by length (take k (take j pieces)) ≡ sum_by length (take k pieces) =
    ap (λ (l : List (List ℕ)). sum_by length l) (take-take k j pieces h) in
    omega (arith, part, same, begin-sum pieces k, begin-sum pieces j)

pub begin-all : (pieces : List (List ℕ)) → begin_of pieces (length pieces) ≡ length (framed_bytes pieces)
begin-all pieces = ap (λ (l : List (List ℕ)). length (framed_bytes l)) (take_all (length pieces) pieces (omega arith))

pub begin-none : (pieces : List (List ℕ)) (k : ℕ) → k ≡ 0 → begin_of pieces k ≡ 0
begin-none pieces k none = let P : ℕ → Type 0 = λ n. begin_of pieces n ≡ 0 in subst P (sym none) refl

-- the ends of pieces don't fall
pub ends-rise : (base : ℕ) (pieces : List (List ℕ)) (ends : List ℕ) → AreEnds base pieces ends → IsNonDecreasing ends
ends-rise base pieces ends are = IsNonDecreasingBy-from_default (λ x. x) ends 0 (λ i j h l.
    omega (arith, are.each i (omega (arith, h, l)), are.each j l, begin-le pieces (i + 1) (j + 1) (omega (arith, h))))

-- pieces with their ends
pub record PieceEnds : Type 0 where
  pub base : ℕ
  pub pieces : List (List ℕ)
  pub ends : List ℕ
  pub are : AreEnds base pieces ends

-- k is how many ends lie below a place
pub record IsSearched (e : PieceEnds) (at k : ℕ) : Type 0 where
  pub count : k ≤ length e.ends
  pub below : (j : ℕ) → j < k → get_or e.ends j 0 < e.base + at
  pub from : k < length e.ends → e.base + at ≤ get_or e.ends k 0

-- that is a piece's number, where not all ends lie below the place
pub found : (e : PieceEnds) {at k : ℕ} → IsSearched e at k → 0 < at → at ≤ length (framed_bytes e.pieces)
    → k < length e.ends
found e {at} {k} is some within =
    elim (cases_lt k (length e.ends)) [
      | inl l ↦ l
      | inr g ↦
          let all = begin-all e.pieces in
          let same : k ≡ length e.pieces = omega (arith, g, is.count, e.are.count) in
          elim (cases_lt 0 k) [
            | inl l ↦
                let last = is.below (k - 1) (omega (arith, l)) in
                let end = e.are.each (k - 1) (omega (arith, l, is.count)) in
                let whole : begin_of e.pieces (k - 1 + 1) ≡ begin_of e.pieces (length e.pieces) =
                ap (λ n. begin_of e.pieces n) (omega (arith, same, l)) in
                omega (arith, last, end, whole, all, within)
            | inr z ↦
                omega (arith, begin-none e.pieces (length e.pieces) (omega (arith, same, z)), all, within, some)
          ]
    ]

-- the piece whose end is the first that isn't below a place ends at the least boundary that is at least it
pub boundary-found : (e : PieceEnds) {at k : ℕ} → IsSearched e at k → 0 < at → k < length e.ends
    → IsBoundaryAfter e.pieces at (get_or e.ends k 0 - e.base)
boundary-found e {at} {k} is some within =
    let end = are.each k within in
    record {
      boundary = record { number = k + 1; among = omega (arith, within, are.count); place_is = omega (arith, end) };
      after = let from = is.from within in omega (arith, from);
      least = λ other b h.
          elim (cases_lt 0 b.number) [
            | inl some_number ↦ elim (cases_lt (b.number - 1) k) [
              | inl l ↦
                  let before = is.below (b.number - 1) l in
                  let its = are.each (b.number - 1) (omega (arith, l, within)) in
                  let same : begin_of pieces (b.number - 1 + 1) ≡ begin_of pieces b.number =
                  ap (λ n. begin_of pieces n) (omega (arith, some_number)) in
                  omega (arith, before, its, same, h, b.place_is)
              | inr g ↦ omega (arith, begin-le pieces (k + 1) b.number (omega (arith, g, some_number)), end, b.place_is)
            ]
            | inr z ↦ omega (arith, begin-none pieces b.number (omega (arith, z)), h, b.place_is, some)
          ];
    }
  where
    open e use {pieces, are}

pub boundary-zero : (pieces : List (List ℕ)) → IsBoundaryAfter pieces 0 0
boundary-zero pieces = record {
  boundary = record { number = 0; among = omega arith; place_is = refl };
  after = omega arith;
  least = λ other b h. omega arith;
}

-- the bytes of a track within a piece are the piece's
bytes-within : (pieces : List (List ℕ)) (k o n : ℕ) → k < length pieces → o + n ≤ length (get_or pieces k [])
    → take n (drop (begin_of pieces k + o) (framed_bytes pieces)) ≡ take n (drop o (get_or pieces k []))
bytes-within pieces k o n within fits =
    let before = framed_bytes (take k pieces) in
    let piece = get_or pieces k [] in
    let rest = framed_bytes (drop (k + 1) pieces) in
    let split : framed_bytes pieces ≡ before ++ (piece ++ rest) =
    ap (λ (l : List (List ℕ)). framed_bytes l) (sym (take-append-drop k pieces))
    ∙ flat_map-append (λ (p : List ℕ). p) (take k pieces) (drop k pieces)
    ∙ ap (λ (l : List (List ℕ)). before ++ framed_bytes l) (drop_more pieces k [] within) in
    let past : drop (length before + o) (framed_bytes pieces) ≡ drop o (piece ++ rest) =
    sym (drop-drop o (length before) (framed_bytes pieces))
    ∙ ap (λ (l : List ℕ). drop o (drop (length before) l)) split
    ∙ ap (λ (l : List ℕ). drop o l) (drop_at before (piece ++ rest) (length before) refl) in
    ap (λ (l : List ℕ). take n l) (past ∙ drop-append-le o piece rest (omega (arith, fits)))
    ∙ take-append-le n (drop o piece) rest (omega (arith, fits, length-drop o piece))

-- bytes from a place on are of the piece of a number
pub record IsPart (pieces : List (List ℕ)) (number at bytes : ℕ) : Type 0 where
  pub among : number < length pieces
  pub begins : begin_of pieces number ≤ at
  pub ends : at + bytes ≤ begin_of pieces (number + 1)

-- they are next
pub next-found : {pieces : List (List ℕ)} {k at n : ℕ} → IsPart pieces k at n → 1 ≤ n
    → IsNext pieces at (take n (drop (at - begin_of pieces k) (get_or pieces k [])))
next-found {pieces} {k} {at} {n} part some =
    let o = at - begin_of pieces k in
    let bytes = take n (drop o (get_or pieces k [])) in
    let more = begin-more pieces k part.among in
    let fits : o + n ≤ length (get_or pieces k []) = omega (arith, part.begins, part.ends, more) in
    let count : length bytes ≡ n =
    length-take-le n (drop o (get_or pieces k [])) (omega (arith, fits, length-drop o (get_or pieces k []))) in
    let place : begin_of pieces k + o ≡ at = omega (arith, part.begins) in
    record {
      some = omega (arith, some, count);
      bytes_are = sym (bytes-within pieces k o n part.among fits)
          ∙ ap (λ i. take n (drop i (framed_bytes pieces))) place
          ∙ ap (λ m. take m (drop at (framed_bytes pieces))) (sym count);
      one_piece = λ other b h.
          elim (cases_lt k b.number) [
            | inl l ↦ omega (arith, begin-le pieces (k + 1) b.number (omega (arith, l)), b.place_is, part.ends, count)
            | inr g ↦ omega (arith, begin-le pieces b.number k g, b.place_is, part.begins, h)
          ];
    }

-- where the piece begins that a search finds
pub found-begins : (e : PieceEnds) {at k : ℕ} → IsSearched e (at + 1) k → k < length e.ends → begin_of e.pieces k ≤ at
found-begins e {at} {k} is within =
    elim (cases_lt 0 k) [
      | inl l ↦
          let last = is.below (k - 1) (omega (arith, l)) in
          let end = e.are.each (k - 1) (omega (arith, l, within)) in
          let same : begin_of e.pieces (k - 1 + 1) ≡ begin_of e.pieces k =
          ap (λ n. begin_of e.pieces n) (omega (arith, l)) in
          omega (arith, last, end, same)
      | inr z ↦ omega (arith, begin-none e.pieces k (omega (arith, z)))
    ]
