-- A trace's sizes and their running sums.
use Rattle.std.proofs.Common.{◌≡◌, ℕ, zero, suc, ◌+◌, ◌-◌, ◌<◌, ◌≤◌, ◌^◌, List, [], ◌∷◌, length}
use Rattle.std.proofs.Common.{take, drop, set, get_or, refl, sym, ap, subst, ◌∙◌, arith, inl, inr}
use Rattle.std.proofs.Common.{Some, slice_get, length-append, sum, replicate}
use Rattle.std.proofs.lemmas.List.{take-map, length-map, length-replicate, same_lists, get_or_default, get_or-map}
use Rattle.std.proofs.lemmas.List.{get_or_read, length-set, get_or-set_same, get_or-set_other, drop-replicate}
use Rattle.std.proofs.lemmas.List.{take-replicate}
use Rattle.std.proofs.lemmas.List.Sums.{sum_by-cons, sum_by-take-le, sum_by_more, sum_by_more_le}
use Rattle.std.proofs.lemmas.Bool.{cases_lt, cases_eq}
use Rattle.film_frames.proofs.TrackLemmas.{PieceEnds, IsSearched, IsPart, AreEnds, begin-all, begin-none, begin-more}
use Rattle.film_frames.proofs.TrackLemmas.{next-found}
use Rattle.film_frames.specs.Tracks.{framed_bytes, begin_of, IsNext, AreRunningSums, zero_frames, differences}
use Rattle.film_frames.specs.Tracks.{running_sums}

pub length-zeros : (sizes : List ℕ) → length (framed_bytes (zero_frames sizes)) ≡ sum sizes
length-zeros [] = refl
length-zeros (size ∷ sizes) =
    omega (
      arith,
      length-append (replicate size 0) (framed_bytes (zero_frames sizes)),
      length-replicate {A = ℕ} size 0,
      length-zeros sizes,
      sum_by-cons (λ x. x) size sizes,
    )

begin-zeros : (sizes : List ℕ) (k : ℕ) → begin_of (zero_frames sizes) k ≡ sum (take k sizes)
begin-zeros sizes k =
    ap (λ (l : List (List ℕ)). length (framed_bytes l)) (take-map (λ size. replicate size 0) k sizes)
    ∙ length-zeros (take k sizes)

length-running_sums : (from : ℕ) (sizes : List ℕ) → length (running_sums from sizes) ≡ length sizes
length-running_sums from [] = refl
length-running_sums from (size ∷ sizes) = ap suc (length-running_sums (from + size) sizes)

running_sums-at : (from : ℕ) (sizes : List ℕ) (k : ℕ) → k < length sizes
    → get_or (running_sums from sizes) k 0 ≡ from + sum (take (k + 1) sizes)
running_sums-at from [] k h = absurd (omega (arith, h))
running_sums-at from (size ∷ sizes) zero h = omega (arith, sum_by-cons (λ x. x) size [])
running_sums-at from (size ∷ sizes) (suc k) h =
    let more : sum (take (suc k + 1) (size ∷ sizes)) ≡ sum (size ∷ take (k + 1) sizes) =
    ap (λ n. sum (take n (size ∷ sizes))) (let e : suc k + 1 ≡ suc (k + 1) = omega arith in e) in
    omega (
      arith,
      running_sums-at (from + size) sizes k (omega (arith, h)),
      more,
      sum_by-cons (λ x. x) size (take (k + 1) sizes),
    )

pub differences-running_sums : (from : ℕ) (sizes : List ℕ) → differences from (running_sums from sizes) ≡ sizes
differences-running_sums from [] = refl
differences-running_sums from (size ∷ sizes) =
    let one : from + size - from ≡ size = omega arith in
    ap (λ n. n ∷ differences (from + size) (running_sums (from + size) sizes)) one
    ∙ ap (λ (l : List ℕ). size ∷ l) (differences-running_sums (from + size) sizes)

ends-zeros : (sizes : List ℕ) → AreEnds 0 (zero_frames sizes) (running_sums 0 sizes)
ends-zeros sizes = record {
  count = length-running_sums 0 sizes ∙ sym (length-map sizes (λ size. replicate size 0));
  each = λ k h.
      omega (
        arith,
        running_sums-at 0 sizes k (omega (arith, h, length-running_sums 0 sizes)),
        begin-zeros sizes (k + 1),
      );
}

pub trace-ends : (ends : List ℕ) → AreRunningSums ends → AreEnds 0 (zero_frames (differences 0 ends)) ends
trace-ends ends is =
    subst (λ (l : List ℕ). AreEnds 0 (zero_frames (differences 0 ends)) l) is.rising (ends-zeros (differences 0 ends))

-- numbers that are the sums so far are the running sums
pub running_sums-is : (sizes now : List ℕ) → length now ≡ length sizes
    → ((k : ℕ) → k < length sizes → get_or now k 0 ≡ sum (take (k + 1) sizes)) → now ≡ running_sums 0 sizes
running_sums-is sizes now count each =
    same_lists now (running_sums 0 sizes) (count ∙ sym (length-running_sums 0 sizes)) (λ k d h.
    get_or_default now k d 0 h ∙ each k (omega (arith, h, count)) ∙ let e : sum (take (k + 1) sizes)
    ≡ get_or (running_sums 0 sizes) k 0 = omega (arith, running_sums-at 0 sizes k (omega (arith, h, count))) in
    e ∙ get_or_default (running_sums 0 sizes) k 0 d (omega (arith, h, count, length-running_sums 0 sizes)))

pub trace-is : (sizes : List ℕ) → sum sizes ≤ 2 ^ 42 → AreRunningSums (running_sums 0 sizes)
trace-is sizes most = record {
  rising = ap (λ (l : List ℕ). running_sums 0 l) (differences-running_sums 0 sizes);
  most = λ k h.
      omega (
        arith,
        running_sums-at 0 sizes k (omega (arith, h, length-running_sums 0 sizes)),
        sum_by-take-le (λ x. x) sizes (k + 1),
        most,
      );
}

-- the ends of a trace that is seen as these sizes
pub trace-track : (ends now sizes : List ℕ) → now ≡ ends → differences 0 ends ≡ sizes → AreRunningSums ends
    → AreEnds 0 (zero_frames sizes) now
trace-track ends now sizes same seen is =
    let P : List ℕ → Type 0 = λ l. AreEnds 0 (zero_frames sizes) l in
    let Q : List ℕ → Type 0 = λ l. AreEnds 0 (zero_frames l) ends in
    subst P (sym same) (subst Q seen (trace-ends ends is))

pub trace-total : (ends sizes : List ℕ) → differences 0 ends ≡ sizes → AreRunningSums ends
    → length (framed_bytes (zero_frames sizes)) ≤ 2 ^ 42
trace-total ends sizes seen is =
    let are = trace-track ends ends sizes refl seen is in
    let all = begin-all (zero_frames sizes) in
    elim (cases_lt 0 (length ends)) [
      | inl l ↦
          let last = length ends - 1 in
          let same : begin_of (zero_frames sizes) (last + 1)
          ≡ begin_of (zero_frames sizes) (length (zero_frames sizes)) =
          ap (λ n. begin_of (zero_frames sizes) n) (omega (arith, l, are.count)) in
          omega (arith, are.each last (omega (arith, l)), is.most last (omega (arith, l)), same, all)
      | inr z ↦ omega (
        arith,
        begin-none (zero_frames sizes) (length (zero_frames sizes)) (omega (arith, z, are.count)),
        all,
      )
    ]

-- the last end is the length of all
pub trace-last-now : (ends sizes : List ℕ) → AreEnds 0 (zero_frames sizes) ends → 0 < length ends
    → get_or ends (length ends - 1) 0 ≡ length (framed_bytes (zero_frames sizes))
trace-last-now ends sizes are some =
    let last = length ends - 1 in
    let same : begin_of (zero_frames sizes) (last + 1)
    ≡ begin_of (zero_frames sizes) (length (zero_frames sizes)) =
    ap (λ n. begin_of (zero_frames sizes) n) (omega (arith, some, are.count)) in
    omega (arith, are.each last (omega (arith, some)), same, begin-all (zero_frames sizes))

-- the ends of a trace, as those of pieces
abbrev pub trace_ends : (sizes ends : List ℕ) → AreEnds 0 (zero_frames sizes) ends → PieceEnds
trace_ends sizes ends are = record { base = 0; pieces = zero_frames sizes; ends = ends; are = are }

-- the frame of a place that a search finds
pub record FrameFound (sizes ends : List ℕ) (at k : ℕ) : Type 0 where
  pub are : AreEnds 0 (zero_frames sizes) ends
  pub searched : IsSearched (trace_ends sizes ends are) at k
  pub within : k < length ends

-- zero bytes from a place on, up to the end of the frame that a search finds at most, are next
pub zeros-next : (sizes : List ℕ) {k at n : ℕ} → IsPart (zero_frames sizes) k at n → 1 ≤ n
    → IsNext (zero_frames sizes) at (replicate {A = ℕ} n 0)
zeros-next sizes {k} {at} {n} part some =
    let pieces = zero_frames sizes in
    let piece : get_or pieces k [] ≡ replicate {A = ℕ} (get_or sizes k 0) 0 =
    get_or-map (λ size. replicate {A = ℕ} size 0) sizes k 0 []
    (omega (arith, part.among, length-map sizes (λ size. replicate {A = ℕ} size 0))) in
    let count : length (get_or pieces k []) ≡ get_or sizes k 0 =
    ap length piece ∙ length-replicate {A = ℕ} (get_or sizes k 0) 0 in
    let o = at - begin_of pieces k in
    let more = begin-more pieces k part.among in
    let same : take n (drop o (get_or pieces k [])) ≡ replicate {A = ℕ} n 0 =
    ap (λ (l : List ℕ). take n (drop o l)) piece
    ∙ ap (λ (l : List ℕ). take n l) (drop-replicate {X = ℕ} o (get_or sizes k 0) 0)
    ∙ take-replicate {X = ℕ} n (get_or sizes k 0 - o) 0 (omega (arith, part.begins, more, part.ends, count)) in
    subst (IsNext pieces at) same (next-found part some)

-- one more sum
pub sum-more : (sizes : List ℕ) (k : ℕ) → k < length sizes
    → sum (take (k + 1) sizes) ≡ sum (take k sizes) + get_or sizes k 0
sum-more sizes k h = sum_by_more (λ x. x) sizes k 0 h

pub sum-within : (sizes : List ℕ) (k : ℕ) → k < length sizes → sum (take k sizes) + get_or sizes k 0 ≤ sum sizes
sum-within sizes k h = sum_by_more_le (λ x. x) sizes k 0 h

-- what an element is that is there
pub got : (xs : List ℕ) (i x : ℕ) → Some x ≡ slice_get xs i → (i < length xs) × (x ≡ get_or xs i 0)
got [] i x e = cc
got (y ∷ ys) zero x e = (omega arith, cc)
got (y ∷ ys) (suc i) x e = let rest = got ys i x e in (omega (arith, rest.0), rest.1)

-- one more size becomes a sum
pub record IsSummed (sizes now : List ℕ) (total number : ℕ) : Type 0 where
  pub len : length now ≡ length sizes
  pub end : total ≡ sum (take number sizes)
  pub done : (k : ℕ) → k < number → get_or now k 0 ≡ sum (take (k + 1) sizes)
  pub left : (k : ℕ) → number ≤ k → get_or now k 0 ≡ get_or sizes k 0

pub summed-more : {sizes now : List ℕ} {end number size : ℕ} → number < length sizes
    → IsSummed sizes now end number → size ≡ get_or now number size
    → (end + size ≤ sum sizes) × IsSummed sizes (set now number (end + size)) (end + size) (number + 1)
summed-more {sizes} {now} {end} {number} {size} h is read =
    let its : size ≡ get_or sizes number 0 =
    get_or_read now number size (omega (arith, h, is.len)) read 0 ∙ is.left number (omega arith) in
    let more : end + size ≡ sum (take (number + 1) sizes) = omega (arith, its, is.end, sum-more sizes number h) in (
      omega (arith, its, is.end, sum-within sizes number h),
      record {
        len = length-set now number (end + size) ∙ is.len;
        end = more;
        done = λ k l. elim (cases_eq k number) [
          | inl e ↦
              let at : get_or (set now number (end + size)) k 0
              ≡ get_or (set now number (end + size)) number 0 = ap (λ n. get_or (set now number (end + size)) n 0) e in
              let then : sum (take (number + 1) sizes) ≡ sum (take (k + 1) sizes) =
              ap (λ n. sum (take (n + 1) sizes)) (sym e) in
              at ∙ get_or-set_same now number (end + size) 0 (omega (arith, h, is.len)) ∙ more ∙ then
          | inr n ↦ get_or-set_other now number k (end + size) 0 n ∙ is.done k (omega (arith, l, n))
        ];
        left =
            λ k l. get_or-set_other now number k (end + size) 0 (λ e. omega (arith, l, e))
            ∙ is.left k (omega (arith, l));
      },
    )
