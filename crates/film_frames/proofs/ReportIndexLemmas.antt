-- The numbers of the pieces that are reports: they rise, and give how many frames come before a piece.
use Rattle.std.proofs.Common.{◌≡◌, ℕ, zero, suc, ◌+◌, ◌<◌, ◌≤◌, List, [], ◌∷◌, ◌++◌, length, take}
use Rattle.std.proofs.Common.{get_or, refl, ap, subst, ◌∙◌, arith}
use Rattle.std.specs.List.Sorted.{IsNonDecreasing}
use Rattle.std.proofs.lemmas.List.Sorted.{IsNonDecreasingBy-from_default}
use Rattle.std.proofs.lemmas.List.Sums.{sum_by-cons}
use Rattle.film_frames.specs.declared.pieces.Piece.{Piece}
use Rattle.film_frames.specs.declared.pieces.Piece.TheVariants.{Report, Frame}
use Rattle.film_frames.specs.Pieces.{count_of, frames_in}
use Rattle.film_frames.specs.Tables.{report_numbers, with_report}

pub reports-push : (number last : ℕ) (pieces : List Piece) (piece : Piece) → last ≡ number + length pieces
    → with_report last piece (report_numbers number pieces) ≡ report_numbers number (pieces ++ piece ∷ [])
reports-push number last [] (Report unit) is = ap (λ n. n ∷ []) (is ∙ omega arith)
reports-push number last [] (Frame unit p) is = refl
reports-push number last (Report other ∷ pieces) (Report unit) is =
    ap (λ l. number ∷ l) (reports-push (number + 1) last pieces (Report unit) (omega (arith, is)))
reports-push number last (Report other ∷ pieces) (Frame unit p) is =
    ap (λ l. number ∷ l) (reports-push (number + 1) last pieces (Frame unit p) (omega (arith, is)))
reports-push number last (Frame other q ∷ pieces) piece is =
    reports-push (number + 1) last pieces piece (omega (arith, is))

pub reports-least : (number : ℕ) (pieces : List Piece) (i : ℕ) → i < length (report_numbers number pieces)
    → number ≤ get_or (report_numbers number pieces) i 0
reports-least number [] i h = absurd (omega (arith, h))
reports-least number (Report unit ∷ pieces) zero h = omega arith
reports-least number (Report unit ∷ pieces) (suc i) h =
    omega (arith, reports-least (number + 1) pieces i (omega (arith, h)))
reports-least number (Frame unit p ∷ pieces) i h = omega (arith, reports-least (number + 1) pieces i h)

rise : (number : ℕ) (pieces : List Piece) (i j : ℕ) → i ≤ j → j < length (report_numbers number pieces)
    → get_or (report_numbers number pieces) i 0 ≤ get_or (report_numbers number pieces) j 0
rise number [] i j order h = absurd (omega (arith, h))
rise number (Report unit ∷ pieces) zero j order h = reports-least number (Report unit ∷ pieces) j h
rise number (Report unit ∷ pieces) (suc i) zero order h = absurd (omega (arith, order))
rise number (Report unit ∷ pieces) (suc i) (suc j) order h =
    rise (number + 1) pieces i j (omega (arith, order)) (omega (arith, h))
rise number (Frame unit p ∷ pieces) i j order h = rise (number + 1) pieces i j order h

pub reports-rise : (number : ℕ) (pieces : List Piece) → IsNonDecreasing (report_numbers number pieces)
reports-rise number pieces =
    IsNonDecreasingBy-from_default (λ n. n) (report_numbers number pieces) 0
    (λ i j order h. rise number pieces i j order h)

-- so many of these numbers lie below a place
pub record AreBelow (numbers : List ℕ) (place count : ℕ) : Type 0 where
  pub few : count ≤ length numbers
  pub below : (k : ℕ) → k < count → get_or numbers k 0 < place
  pub from : (k : ℕ) → count ≤ k → k < length numbers → place ≤ get_or numbers k 0

none-below : (number : ℕ) (pieces : List Piece) (count : ℕ)
    → AreBelow (report_numbers number pieces) (number + 0) count → count ≡ 0
none-below number pieces zero are = refl
none-below number pieces (suc count) are =
    absurd (omega (arith, are.below 0 (omega arith), reports-least number pieces 0 (omega (arith, are.few))))

pub frames-below : (number : ℕ) (pieces : List Piece) (k count : ℕ) → k ≤ length pieces
    → AreBelow (report_numbers number pieces) (number + k) count
    → frames_in (take k pieces) + count ≡ k
frames-below number pieces zero count h are = omega (arith, none-below number pieces count are)
frames-below number [] (suc k) count h are = absurd (omega (arith, h))
frames-below number (Report unit ∷ pieces) (suc k) zero h are =
    absurd (omega (arith, are.from 0 (omega arith) (omega arith)))
frames-below number (Report unit ∷ pieces) (suc k) (suc count) h are =
    let rest : AreBelow (report_numbers (number + 1) pieces) (number + 1 + k) count = record {
      few = omega (arith, are.few);
      below = λ i l. omega (arith, are.below (suc i) (omega (arith, l)));
      from = λ i l m. omega (arith, are.from (suc i) (omega (arith, l)) (omega (arith, m)));
    } in
    omega (
      arith,
      frames-below (number + 1) pieces k count (omega (arith, h)) rest,
      sum_by-cons count_of (Report unit) (take k pieces),
    )
frames-below number (Frame unit p ∷ pieces) (suc k) count h are =
    let rest : AreBelow (report_numbers (number + 1) pieces) (number + 1 + k) count = record {
      few = are.few;
      below = λ i l. omega (arith, are.below i l);
      from = λ i l m. omega (arith, are.from i l m);
    } in
    omega (
      arith,
      frames-below (number + 1) pieces k count (omega (arith, h)) rest,
      sum_by-cons count_of (Frame unit p) (take k pieces),
    )

pub reports-count : {k count : ℕ} (pieces : List Piece) → k ≤ length pieces
    → AreBelow (report_numbers 0 pieces) k count → frames_in (take k pieces) + count ≡ k
reports-count {k} {count} pieces h are =
    let place : k ≡ 0 + k = omega arith in
    frames-below 0 pieces k count h (subst (λ n. AreBelow (report_numbers 0 pieces) n count) place are)

pub frames-few : (pieces : List Piece) (k : ℕ) → frames_in (take k pieces) ≤ k
frames-few pieces zero = omega arith
frames-few [] (suc k) = omega arith
frames-few (Report unit ∷ pieces) (suc k) =
    omega (arith, frames-few pieces k, sum_by-cons count_of (Report unit) (take k pieces))
frames-few (Frame unit p ∷ pieces) (suc k) =
    omega (arith, frames-few pieces k, sum_by-cons count_of (Frame unit p) (take k pieces))
