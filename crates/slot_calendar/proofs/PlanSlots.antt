-- What plans send slot by slot: a plan's slots are those of its segments, one after the other.
use Rattle.std.proofs.Common.{◌≡◌, ◌≢◌, ◌<◌, ◌≤◌, ◌+◌, ◌-◌, ◌*◌, ◌/◌, ◌%◌, ℕ, min, List, [], ◌∷◌, ◌++◌, All, length}
use Rattle.std.proofs.Common.{get_or, take, drop, sum, arith, sym, ap, ◌∙◌, inl, inr}
use Rattle.std.proofs.Math.Seq.{take-append-add}
use Rattle.std.proofs.Math.Nat.{add-mul-div_right, mod-lt}
use Rattle.std.proofs.lemmas.Nat.{div-add-mod'}
use Rattle.std.proofs.lemmas.Bool.{cases_lt, cases_eq}
use Rattle.std.proofs.lemmas.List.{take-append-le, take_all, take_more, take-append-drop, get_or_default, get_or_past}
use Rattle.std.proofs.lemmas.List.Concat.{flat_map-append}
use Rattle.std.proofs.lemmas.List.Sums.{sum_by-append, sum_by-cons, sum_by-take-le, sum_by_more}
use Rattle.std.proofs.lemmas.List.Elements.{All-cons, All-head, All-nil, All-take}
use Rattle.vod_base.proofs.PrefixSums.{sum-take-rises}
use Rattle.plan_cert.specs.declared.Segment.{Segment}
use Rattle.plan_cert.specs.PlanSlots.{slots_of, plan_slots, total_slots, total_bytes, sum_through}
use Rattle.plan_cert.specs.Plan.{IsPlan}
use Rattle.plan_cert.proofs.SlotSums.{length-plan_slots, sum-plan_slots, sum-take-in}
use Rattle.plan_cert.proofs.FloorLemmas.{floor_rises}
use Rattle.slot_calendar.specs.Plays.{sent_before, asked_at, released_at}

-- ---- sums of prefixes
pub sum-take-append : (xs ys : List ℕ) (k : ℕ)
    → sum (take k (xs ++ ys)) ≡ sum (take k xs) + sum (take (k - length xs) ys)
sum-take-append xs ys k =
    elim (cases_lt (length xs) k) [
      | inl past ↦ (
          let m = k - length xs in
          let at : length xs + m ≡ k = omega arith in
          let whole : take k (xs ++ ys) ≡ xs ++ take m ys = grind (arith, take-append-add xs ys m) in
          let front : take k xs ≡ xs = take_all k xs (omega arith) in
          ap sum whole ∙ sum_by-append (λ x. x) xs (take m ys) ∙ ap (λ l. sum l + sum (take m ys)) (sym front)
          )
      | inr within ↦ (
          let none : k - length xs ≡ 0 = omega arith in
          let rest : sum (take (k - length xs) ys) ≡ 0 = ap (λ n. sum (take n ys)) none in
          let front : sum (take k (xs ++ ys)) ≡ sum (take k xs) = ap sum (take-append-le k xs ys within) in
          omega (arith, rest, front)
          )
    ]

-- ---- the bytes sent before a slot
pub sent-rises : (segments : List Segment) (start s t : ℕ) → s ≤ t
    → sent_before segments start s ≤ sent_before segments start t
sent-rises segments start s t less = sum-take-rises (plan_slots segments) (s - start) (t - start) (omega arith)

pub sent-append : (xs ys : List Segment) (start t : ℕ) →
    sent_before (xs ++ ys) start t ≡ sent_before xs start t + sent_before ys (start + total_slots xs) t
sent-append xs ys start t =
    let rest : t - start - length (plan_slots xs) ≡ t - (start + total_slots xs) =
    omega (arith, length-plan_slots xs) in
    ap (λ l. sum (take (t - start) l)) (flat_map-append slots_of xs ys)
    ∙ sum-take-append (plan_slots xs) (plan_slots ys) (t - start)
    ∙ ap (λ n. sum (take (t - start) (plan_slots xs)) + sum (take n (plan_slots ys))) rest

pub sent-none : (segments : List Segment) (start t : ℕ) → t ≤ start → sent_before segments start t ≡ 0
sent-none segments start t before =
    let none : t - start ≡ 0 = omega arith in
    ap (λ n. sum (take n (plan_slots segments))) none

pub sent-end : (segments : List Segment) (start t : ℕ) → start + total_slots segments ≤ t
    → sent_before segments start t ≡ sum (plan_slots segments)
sent-end segments start t past =
    ap sum (take_all (t - start) (plan_slots segments) (omega (arith, length-plan_slots segments)))

pub sent-all : (segments : List Segment) (start t : ℕ) → All (λ s. 1 ≤ s.slots) segments
    → start + total_slots segments ≤ t → sent_before segments start t ≡ total_bytes segments
sent-all segments start t some past = sent-end segments start t past ∙ sum-plan_slots segments some

-- the slots of a segment send at most its bytes: none where it has no slots
one-most : (s : Segment) → sum (plan_slots (s ∷ [])) ≤ s.bytes
one-most s = elim (cases_lt 0 s.slots) [
  | inl some ↦
      let P : Segment → Type 0 = λ x. 1 ≤ x.slots in
      let all : All P (s ∷ []) = All-cons P s [] (omega (arith, some)) (All-nil P) in
      let is : sum (plan_slots (s ∷ [])) ≡ s.bytes = sum-plan_slots (s ∷ []) all ∙ omega arith in
      omega (arith, is)
  | inr none ↦
      let slots : total_slots (s ∷ []) ≡ s.slots = omega arith in
      let empty : take 0 (plan_slots (s ∷ [])) ≡ plan_slots (s ∷ []) =
      take_all 0 (plan_slots (s ∷ [])) (omega (arith, length-plan_slots (s ∷ []), slots, none)) in
      let is : sum (plan_slots (s ∷ [])) ≡ 0 = sym (ap sum empty) in
      omega (arith, is)
]

slots-most : (segments : List Segment) → sum (plan_slots segments) ≤ total_bytes segments
slots-most [] = omega arith
slots-most (s ∷ segments) =
    let parts : sum (plan_slots (s ∷ segments)) ≡ sum (plan_slots (s ∷ [])) + sum (plan_slots segments) =
    ap sum (flat_map-append slots_of (s ∷ []) segments)
    ∙ sum_by-append (λ x. x) (plan_slots (s ∷ [])) (plan_slots segments) in
    let bytes : total_bytes (s ∷ segments) ≡ s.bytes + total_bytes segments = search (sum_by-cons, s, segments) in
    omega (arith, parts, bytes, one-most s, slots-most segments)

pub sent-most : (segments : List Segment) (start t : ℕ) → sent_before segments start t ≤ total_bytes segments
sent-most segments start t =
    let part : sum (take (t - start) (plan_slots segments)) ≤ sum (plan_slots segments) =
    sum_by-take-le (λ x. x) (plan_slots segments) (t - start) in
    omega (arith, part, slots-most segments)

-- the first j slots of one segment
pub sent-one : (s : Segment) (from j : ℕ) → 0 < s.slots → j ≤ s.slots
    → sent_before (s ∷ []) from (from + j) ≡ j * s.bytes / s.slots
sent-one s from j pos few =
    let at : from + j - from ≡ j = omega arith in
    ap (λ n. sum (take n (plan_slots (s ∷ [])))) at ∙ sum-take-in s [] j pos few

pub one-slots : (s : Segment) → total_slots (s ∷ []) ≡ s.slots
one-slots s = omega arith

pub one-bytes : (s : Segment) → total_bytes (s ∷ []) ≡ s.bytes
one-bytes s = omega arith

-- ---- the bytes asked in a slot
pub asked-append : (xs ys : List Segment) (start t : ℕ) →
    asked_at (xs ++ ys) start t ≡ asked_at xs start t + asked_at ys (start + total_slots xs) t
asked-append xs ys start t =
    let from = start + total_slots xs in
    let x = sent-rises xs start t (t + 1) (omega arith) in
    let y = sent-rises ys from t (t + 1) (omega arith) in
    omega (arith, sent-append xs ys start t, sent-append xs ys start (t + 1), x, y)

pub asked-before : (segments : List Segment) (start t : ℕ) → t < start → asked_at segments start t ≡ 0
asked-before segments start t before = omega (arith, sent-none segments start (t + 1) (omega arith))

pub asked-after : (segments : List Segment) (start t : ℕ) → start + total_slots segments ≤ t
    → asked_at segments start t ≡ 0
asked-after segments start t past =
    omega (arith, sent-end segments start t past, sent-end segments start (t + 1) (omega arith))

pub front-next : (segments : List Segment) (i : ℕ) (s : Segment) → i < length segments → s ≡ get_or segments i s
    → take (i + 1) segments ≡ take i segments ++ s ∷ []
front-next segments i s inside is = take_more segments i s inside ∙ ap (λ x. take i segments ++ x ∷ []) (sym is)

-- segment i of a plan that begins in slot `start`, and the slot in which it begins
pub record SegmentFrom : Type 0 where
  pub segments : List Segment
  pub i : ℕ
  pub s : Segment
  pub start : ℕ
  pub from : ℕ
  pub inside : i < length segments
  pub segment_is : s ≡ get_or segments i s
  pub from_is : from ≡ start + total_slots (take i segments)

abbrev pub no_segment : Segment
no_segment = record { slots = 0; bytes = 0 }

abbrev pub segment-at : (start : ℕ) {from : ℕ} (segments : List Segment) (i : ℕ) → i < length segments
    → from ≡ start + total_slots (take i segments) → SegmentFrom
segment-at start {from} segments i inside from_is = record {
  segments = segments;
  i = i;
  s = get_or segments i no_segment;
  start = start;
  from = from;
  inside = inside;
  segment_is = get_or_default segments i no_segment (get_or segments i no_segment) inside;
  from_is = from_is;
}

-- the slot in which the segment after it begins
pub from-next : (at : SegmentFrom) → at.from + at.s.slots ≡ at.start + total_slots (take (at.i + 1) at.segments)
from-next at =
    let front = take at.i at.segments in
    let slots : total_slots (take (at.i + 1) at.segments) ≡ total_slots front + at.s.slots =
    grind (arith, front-next at.segments at.i at.s at.inside at.segment_is, sum_by-append, one-slots at.s) in
    omega (arith, slots, at.from_is)

pub bytes-next : (at : SegmentFrom)
    → total_bytes (take (at.i + 1) at.segments) ≡ total_bytes (take at.i at.segments) + at.s.bytes
bytes-next at =
    let front = take at.i at.segments in
    ap total_bytes (front-next at.segments at.i at.s at.inside at.segment_is)
    ∙ sum_by-append (λ x. x.bytes) front (at.s ∷ []) ∙ ap (λ n. total_bytes front + n) (one-bytes at.s)

-- the first i + 1 segments ask for what the first i do and what segment i does
pub asked-next : (t : ℕ) (at : SegmentFrom)
    → asked_at (take (at.i + 1) at.segments) at.start t
    ≡ asked_at (take at.i at.segments) at.start t + asked_at (at.s ∷ []) at.from t
asked-next t at =
    let front = take at.i at.segments in
    ap (λ l. asked_at l at.start t) (front-next at.segments at.i at.s at.inside at.segment_is)
    ∙ asked-append front (at.s ∷ []) at.start t
    ∙ ap (λ n. asked_at front at.start t + asked_at (at.s ∷ []) n t) (sym at.from_is)

-- the first segments of a plan ask for no more than all of it
pub asked-front : (segments : List Segment) (i start t : ℕ) →
    asked_at segments start t
    ≡ asked_at (take i segments) start t + asked_at (drop i segments) (start + total_slots (take i segments)) t
asked-front segments i start t =
    ap (λ l. asked_at l start t) (sym (take-append-drop i segments))
    ∙ asked-append (take i segments) (drop i segments) start t

-- so do the first i segments with segment i
pub asked-through : (t : ℕ) (at : SegmentFrom)
    → asked_at (take at.i at.segments) at.start t + asked_at (at.s ∷ []) at.from t ≤ asked_at at.segments at.start t
asked-through t at = omega (arith, asked-next t at, asked-front at.segments (at.i + 1) at.start t)

-- a slot of segment i
pub asked-in : (t : ℕ) (at : SegmentFrom) → at.from ≤ t → t < at.from + at.s.slots
    → asked_at at.segments at.start t ≡ asked_at (at.s ∷ []) at.from t
asked-in t at begun ends =
    let split = asked-front at.segments (at.i + 1) at.start t in
    let front = asked-next t at in
    let rest = at.start + total_slots (take (at.i + 1) at.segments) in
    let after : asked_at (drop (at.i + 1) at.segments) rest t ≡ 0 =
    asked-before (drop (at.i + 1) at.segments) rest t (omega (arith, from-next at, ends)) in
    let before : asked_at (take at.i at.segments) at.start t ≡ 0 =
    asked-after (take at.i at.segments) at.start t (omega (arith, at.from_is, begun)) in
    omega (arith, split, front, after, before)

-- ---- the bytes after the first `keep`
pub all-front : (segments : List Segment) (i : ℕ) → All (λ s. 1 ≤ s.slots) segments
    → All (λ s. 1 ≤ s.slots) (take i segments)
all-front segments i some = All-take (λ s. 1 ≤ s.slots) i segments some

-- what a plan sends beyond `keep` bytes, by its first segments and by the others
over-append : (xs ys : List Segment) (start keep t : ℕ) → All (λ s. 1 ≤ s.slots) xs
    → sent_before (xs ++ ys) start t - keep
    ≡ (sent_before xs start t - keep) + (sent_before ys (start + total_slots xs) t - (keep - total_bytes xs))
over-append xs ys start keep t some =
    let from = start + total_slots xs in
    let whole : sent_before (xs ++ ys) start t ≡ sent_before xs start t + sent_before ys from t =
    sent-append xs ys start t in
    elim (cases_lt t from) [
      | inl before ↦ (let none : sent_before ys from t ≡ 0 = sent-none ys from t (omega arith) in
          omega (arith, whole, none))
      | inr past ↦ (
          let all : sent_before xs start t ≡ total_bytes xs = sent-all xs start t some (omega (arith, past)) in
          omega (arith, whole, all)
          )
    ]

pub cut-append : (xs ys : List Segment) (start keep t : ℕ) → All (λ s. 1 ≤ s.slots) xs
    → released_at (xs ++ ys) start keep t
    ≡ released_at xs start keep t + released_at ys (start + total_slots xs) (keep - total_bytes xs) t
cut-append xs ys start keep t some =
    let from = start + total_slots xs in let left = keep - total_bytes xs in
    let x = sent-rises xs start t (t + 1) (omega arith) in
    let y = sent-rises ys from t (t + 1) (omega arith) in
    sum-parts (sent_before (xs ++ ys) start t - keep) (sent_before (xs ++ ys) start (t + 1) - keep)
    (sent_before xs start t - keep) (sent_before xs start (t + 1) - keep) (sent_before ys from t - left)
    (sent_before ys from (t + 1) - left)
    (over-append xs ys start keep t some) (over-append xs ys start keep (t + 1) some) (omega (arith, x))
    (omega (arith, y))
  where
    sum-parts : (a b c d e f : ℕ) → a ≡ c + e → b ≡ d + f → c ≤ d → e ≤ f → b - a ≡ (d - c) + (f - e)
    sum-parts a b c d e f p q r s = omega arith

pub cut-next : (at : SegmentFrom) {left : ℕ} (keep t : ℕ) → All (λ x. 1 ≤ x.slots) at.segments
    → left ≡ keep - total_bytes (take at.i at.segments)
    → released_at (take (at.i + 1) at.segments) at.start keep t
    ≡ released_at (take at.i at.segments) at.start keep t + released_at (at.s ∷ []) at.from left t
cut-next at keep t some rest =
    let front = take at.i at.segments in
    ap (λ l. released_at l at.start keep t) (front-next at.segments at.i at.s at.inside at.segment_is)
    ∙ cut-append front (at.s ∷ []) at.start keep t (all-front at.segments at.i some)
    ∙ ap (λ (x : ℕ × ℕ). released_at front at.start keep t + released_at (at.s ∷ []) x.0 x.1 t)
    (λ k. (sym at.from_is k, sym rest k))

-- the first i segments with segment i release no more than all of the plan
pub cut-through : (at : SegmentFrom) {left : ℕ} (keep t : ℕ) → All (λ x. 1 ≤ x.slots) at.segments
    → left ≡ keep - total_bytes (take at.i at.segments)
    → released_at (take at.i at.segments) at.start keep t + released_at (at.s ∷ []) at.from left t
    ≤ released_at at.segments at.start keep t
cut-through at keep t some rest =
    let front = take (at.i + 1) at.segments in
    let whole = ap (λ l. released_at l at.start keep t) (sym (take-append-drop (at.i + 1) at.segments))
    ∙ cut-append front (drop (at.i + 1) at.segments) at.start keep t (all-front at.segments (at.i + 1) some) in
    omega (arith, whole, cut-next at keep t some rest)

pub cut-before : (segments : List Segment) (start keep t : ℕ) → t < start → released_at segments start keep t ≡ 0
cut-before segments start keep t before = omega (arith, sent-none segments start (t + 1) (omega arith))

pub cut-after : (segments : List Segment) (start keep t : ℕ) → start + total_slots segments ≤ t
    → released_at segments start keep t ≡ 0
cut-after segments start keep t past =
    omega (arith, sent-end segments start t past, sent-end segments start (t + 1) (omega arith))

-- ---- the greatest slot of a segment
slot-most : (b n c j : ℕ) → 0 < n → b ≤ c * n → (j + 1) * b / n ≤ j * b / n + c
slot-most b n c j pos most =
    let rises : (j + 1) * b / n ≤ (j * b + c * n) / n =
    floor_rises ((j + 1) * b) (j * b + c * n) n pos (omega (arith, most)) in
    let split : (j * b + c * n) / n ≡ j * b / n + c = add-mul-div_right (j * b) c pos in
    omega (arith, rises, split)

pub asked-most : (s : Segment) (from c t : ℕ) → 0 < s.slots → s.bytes ≤ c * s.slots → asked_at (s ∷ []) from t ≤ c
asked-most s from c t pos most =
    elim (cases_lt t from) [
      | inl before ↦ omega (arith, asked-before (s ∷ []) from t before)
      | inr begun ↦ elim (cases_lt t (from + s.slots)) [
        | inl inside ↦ (
            let j = t - from in
            let at : from + j ≡ t = omega arith in
            let next : from + (j + 1) ≡ t + 1 = omega arith in
            let here : sent_before (s ∷ []) from t ≡ j * s.bytes / s.slots =
            ap (sent_before (s ∷ []) from) (sym at) ∙ sent-one s from j pos (omega (arith, inside)) in
            let then : sent_before (s ∷ []) from (t + 1) ≡ (j + 1) * s.bytes / s.slots =
            ap (sent_before (s ∷ []) from) (sym next) ∙ sent-one s from (j + 1) pos (omega (arith, inside)) in
            omega (arith, here, then, slot-most s.bytes s.slots c j pos most)
            )
        | inr past ↦ omega (arith, asked-after (s ∷ []) from t (omega (arith, one-slots s, past)))
      ]
    ]

-- ---- slot after slot of a segment
pub one-some : (s : Segment) → IsPlan (s ∷ []) → 0 < s.slots
one-some s plan = All-head (λ x. 1 ≤ x.slots) s [] plan.no_empty

pub asked-here : (segments : List Segment) (from j : ℕ)
    → asked_at segments from (from + j)
    ≡ sent_before segments from (from + (j + 1)) - sent_before segments from (from + j)
asked-here segments from j =
    let next : from + j + 1 ≡ from + (j + 1) = omega arith in
    ap (λ n. sent_before segments from n - sent_before segments from (from + j)) next

pub cut-here : (segments : List Segment) (from keep j : ℕ)
    → released_at segments from keep (from + j)
    ≡ (sent_before segments from (from + (j + 1)) - keep) - (sent_before segments from (from + j) - keep)
cut-here segments from keep j =
    let next : from + j + 1 ≡ from + (j + 1) = omega arith in
    ap (λ n. (sent_before segments from n - keep) - (sent_before segments from (from + j) - keep)) next

-- and what it has sent rises
pub sent-next : (segments : List Segment) (from j : ℕ)
    → sent_before segments from (from + j) ≤ sent_before segments from (from + (j + 1))
sent-next segments from j = sent-rises segments from (from + j) (from + (j + 1)) (omega arith)

-- no slot of a segment has more than its bytes over its slots, rounded up
pub ceil-most : (b n c : ℕ) → 0 < n → c ≡ b / n + min 1 (b % n) → b ≤ c * n
ceil-most b n c pos is =
    let whole : b / n * n + b % n ≡ b = div-add-mod' b n in
    let less : b % n < n = mod-lt b pos in
    elim (cases_eq (b % n) 0) [
      | inl none ↦ (
          let same : c ≡ b / n = omega (arith, is, none) in
          let product : c * n ≡ b / n * n = ap (λ x. x * n) same in
          omega (arith, whole, none, product)
          )
      | inr some ↦ (
          let more : c ≡ b / n + 1 = omega (arith, is, rounded (b % n) some) in
          let product : c * n ≡ (b / n + 1) * n = ap (λ x. x * n) more in
          omega (arith, whole, less, product)
          )
    ]
  where
    rounded : (x : ℕ) → x ≢ 0 → min 1 x ≡ 1
    rounded x other = omega arith

-- ---- in the words of the plan
pub sent-through : (segments : List Segment) (start t : ℕ) → start ≤ t
    → sent_before segments start (t + 1) ≡ sum_through segments (t - start)
sent-through segments start t from =
    let at : t + 1 - start ≡ t - start + 1 = omega arith in
    ap (λ n. sum (take n (plan_slots segments))) at

pub asked-slot : (segments : List Segment) (start j : ℕ)
    → asked_at segments start (start + j) ≡ get_or (plan_slots segments) j 0
asked-slot segments start j =
    let slots = plan_slots segments in
    let here : sent_before segments start (start + j) ≡ sum (take j slots) = grind arith in
    let next : sent_before segments start (start + j + 1) ≡ sum (take (j + 1) slots) =
    ap (λ n. sum (take n slots)) (let e : start + j + 1 - start ≡ j + 1 = omega arith in e) in
    elim (cases_lt j (length slots)) [
      | inl inside ↦ omega (arith, here, next, sum_by_more (λ x. x) slots j 0 inside)
      | inr past ↦ (
          let one : sum (take j slots) ≡ sum slots = ap sum (take_all j slots past) in
          let two : sum (take (j + 1) slots) ≡ sum slots = ap sum (take_all (j + 1) slots (omega arith)) in
          let none = get_or_past slots j 0 past in
          omega (arith, here, next, one, two, none)
          )
    ]
