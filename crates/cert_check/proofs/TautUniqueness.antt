-- The taut list of segments between two curves is the only one.
use Rattle.std.proofs.Common.{◌≡◌, ◌<◌, ◌≤◌, ◌+◌, ◌-◌, ◌*◌, ℕ, List, [], ◌∷◌, inl, inr, arith, refl, sym, ap, subst}
use Rattle.std.proofs.Common.{◌∙◌}
use Rattle.std.proofs.Math.Nat.{mul-le-mul_left, mul-le-mul_right, le_of_mul-le-mul_right, le_of_eq, le_of_lt}
use Rattle.std.proofs.Math.Nat.{le_antisymm}
use Rattle.std.proofs.lemmas.Bool.{cases_order}
use Rattle.std.proofs.lemmas.List.Sums.{sum_by-cons}
use Rattle.slope_frac.proofs.CrossProducts.{level_trans, at_most_below, below_at_most}
use Rattle.plan_cert.specs.declared.Segment.{Segment}
use Rattle.plan_cert.specs.PlanSlots.{total_slots, total_bytes}
use Rattle.cert_check.specs.ExactLine.{slope_of}
use Rattle.cert_check.specs.TautRecursion.{Start, after, StaysBetween, Bends, RunsTaut}
use Rattle.cert_check.proofs.SegmentUniqueness.{same_start, IsTautLine, line_on, line_meets, one_slope}

abbrev segment : ℕ → ℕ → Segment
segment n b = record { slots = n; bytes = b }

-- a segment in two parts of its slope
record SplitSegment : Type 0 where
  pub whole : Segment
  pub first : Segment
  pub last : Segment
  pub slots : whole.slots ≡ first.slots + last.slots
  pub bytes : whole.bytes ≡ first.bytes + last.bytes
  pub some : 1 ≤ last.slots
  pub level : first.bytes * whole.slots ≡ whole.bytes * first.slots

parts_cross : (split : SplitSegment)
    → split.first.bytes * (split.first.slots + split.last.slots)
    ≡ (split.first.bytes + split.last.bytes) * split.first.slots
parts_cross split = ap (λ x. split.first.bytes * x) (sym split.slots) ∙ split.level
    ∙ ap (λ x. x * split.first.slots) split.bytes

level_first : (split : SplitSegment) → split.first.bytes * split.last.slots ≡ split.last.bytes * split.first.slots
level_first split = omega (arith, parts_cross split)

level_last : (split : SplitSegment) → split.whole.bytes * split.last.slots ≡ split.last.bytes * split.whole.slots
level_last split = rw (split.slots, split.bytes) (omega (arith, parts_cross split))

-- the line of the last part is that of the entire segment
cut_below : (split : SplitSegment) (v j h : ℕ) → 0 < split.whole.slots
    → h * split.whole.slots ≤ v * split.whole.slots + (split.first.slots + j) * split.whole.bytes
    → h * split.last.slots ≤ (v + split.first.bytes) * split.last.slots + j * split.last.bytes
cut_below split v j h pos below =
    let one : h * c * n' ≤ (v * c + (n + j) * d) * n' = mul-le-mul_right n' below in
    let two : (n + j) * (d * n') ≡ (n + j) * (b' * c) = ap (λ x. (n + j) * x) (level_last split) in
    let three : b * n' * c ≡ b' * n * c = ap (λ x. x * c) (level_first split) in
    let all : h * n' * c ≤ ((v + b) * n' + j * b') * c = omega (arith, one, two, three) in
    le_of_mul-le-mul_right all pos
  where
    open split use {whole.{slots as c, bytes as d}, first.{slots as n, bytes as b}, last.{slots as n', bytes as b'}}

cut_above : (split : SplitSegment) (v j h : ℕ) → 0 < split.whole.slots
    → v * split.whole.slots + (split.first.slots + j) * split.whole.bytes ≤ h * split.whole.slots
    → (v + split.first.bytes) * split.last.slots + j * split.last.bytes ≤ h * split.last.slots
cut_above split v j h pos above =
    let one : (v * c + (n + j) * d) * n' ≤ h * c * n' = mul-le-mul_right n' above in
    let two : (n + j) * (d * n') ≡ (n + j) * (b' * c) = ap (λ x. (n + j) * x) (level_last split) in
    let three : b * n' * c ≡ b' * n * c = ap (λ x. x * c) (level_first split) in
    let all : ((v + b) * n' + j * b') * c ≤ h * n' * c = omega (arith, one, two, three) in
    le_of_mul-le-mul_right all pos
  where
    open split use {whole.{slots as c, bytes as d}, first.{slots as n, bytes as b}, last.{slots as n', bytes as b'}}

-- the last part stays between the curves
cut_stays : {at : Start} (split : SplitSegment) → StaysBetween at split.whole
    → StaysBetween (after at split.first) split.last
cut_stays {at} split stays = record {
  some = split.some;
  above = λ j few.
      let h = stays.above (n + j) (omega (arith, split.slots)) in
      let place = ap (λ x. at.lo x * t.slots) (same_place at n j) in
      cut_below split at.height j (at.lo (at.place + n + j)) stays.some (omega (arith, h, place));
  below = λ j few.
      let h = stays.below (n + j) (omega (arith, split.slots)) in
      let place = ap (λ x. at.hi x * t.slots) (same_place at n j) in
      cut_above split at.height j (at.hi (at.place + n + j)) stays.some (omega (arith, h, place));
}
  where
    open split use {whole as t, first.{slots as n}}

    same_place : (at : Start) (n j : ℕ) → at.place + (n + j) ≡ at.place + n + j
    same_place at n j = omega arith

-- a bend after a segment is one after its last part, which has the same slope
cut_bends : (at : Start) (split : SplitSegment) (rest : List Segment) → 1 ≤ split.whole.slots
    → Bends at split.whole rest → Bends at split.last rest
cut_bends at split [] some bend = tt
cut_bends at split (next ∷ rest) some bend =
    elim bend [
      | inl rise ↦ inl (
        at_most_below
            (record {
              first = slope_of split.last;
              between = slope_of split.whole;
              last = slope_of next;
              some_slot = some;
            })
            split.some (le_of_eq (sym (level_last split))) rise.0,
        rise.1,
      )
      | inr fall ↦ inr (
        below_at_most
            (record {
              first = slope_of next;
              between = slope_of split.whole;
              last = slope_of split.last;
              some_slot = some;
            })
            split.some fall.0 (le_of_eq (level_last split)),
        fall.1,
      )
    ]

-- what is left of a taut line after the first part of its first segment is a taut line
part_line : {at : Start} (split : SplitSegment) (ys : List Segment) → IsTautLine at (split.whole ∷ ys)
    → IsTautLine (after at split.first) (split.last ∷ ys)
part_line {at} split ys line =
    let is : after at t ≡ after (after at s) part =
    same_start (after (after at s) part) (omega (arith, split.slots)) (omega (arith, split.bytes)) in
    let slots_t : total_slots (t ∷ ys) ≡ t.slots + total_slots ys = sum_by-cons (λ x. x.slots) t ys in
    let bytes_t : total_bytes (t ∷ ys) ≡ t.bytes + total_bytes ys = sum_by-cons (λ x. x.bytes) t ys in
    let slots_p : total_slots (part ∷ ys) ≡ part.slots + total_slots ys = sum_by-cons (λ x. x.slots) part ys in
    let bytes_p : total_bytes (part ∷ ys) ≡ part.bytes + total_bytes ys = sum_by-cons (λ x. x.bytes) part ys in
    let place' : at.place + s.slots + total_slots (part ∷ ys) ≡ at.place + total_slots (t ∷ ys) =
    omega (arith, slots_t, slots_p, split.slots) in
    let height' : at.height + total_bytes (t ∷ ys) ≡ at.height + s.bytes + total_bytes (part ∷ ys) =
    omega (arith, bytes_t, bytes_p, split.bytes) in
    record {
      runs = (
        cut_stays split line.runs.0,
        subst (λ a. Bends a part ys) is (cut_bends (after at t) split ys line.runs.0.some line.runs.1),
        subst (λ a. RunsTaut a ys) is line.runs.2,
      );
      ends = record {
        low = ap at.lo place' ∙ line.ends.low ∙ height';
        high = ap at.hi place' ∙ line.ends.high ∙ height';
      };
    }
  where
    open split use {whole as t, first as s, last as part}

-- no taut line goes on after the first part of another one's first segment
ends_there : {at : Start} (split : SplitSegment) {xs ys : List Segment} → IsTautLine at (split.first ∷ xs)
    → IsTautLine at (split.whole ∷ ys) → xs ≡ []
ends_there split {xs = []} line other = refl
ends_there {at} split {xs = next ∷ xs} {ys} line other =
    let level_n = one_slope (line_meets (line_on line)) (line_meets (part_line split ys other)) in
    let level_ns : next.bytes * s.slots ≡ s.bytes * next.slots =
    level_trans (record {
      first = slope_of next;
      between = slope_of part;
      last = slope_of s;
      some_slot = split.some;
    }) level_n (sym (level_first split)) in
    elim line.runs.1 [
      | inl rise ↦ absurd (omega (arith, rise.0, level_ns))
      | inr fall ↦ absurd (omega (arith, fall.0, level_ns))
    ]
  where
    open split use {first as s, last as part}

-- a segment of the same slope with fewer slots is a first part
split_of : (s t : Segment) → s.bytes * t.slots ≡ t.bytes * s.slots → s.slots < t.slots → SplitSegment
split_of s t level shorter =
    let fewer : s.bytes * t.slots ≤ t.bytes * t.slots =
    omega (arith, level, mul-le-mul_left t.bytes (le_of_lt shorter)) in
    let pos : 0 < t.slots = omega arith in
    let few : s.bytes ≤ t.bytes = le_of_mul-le-mul_right fewer pos in
    record {
      whole = t;
      first = s;
      last = segment (t.slots - s.slots) (t.bytes - s.bytes);
      slots = omega arith;
      bytes = omega arith;
      some = omega arith;
      level = level;
    }

-- two segments of one length and level slopes are one
same_segment : (s t : Segment) → s.slots ≡ t.slots → 1 ≤ s.slots → s.bytes * t.slots ≡ t.bytes * s.slots → s ≡ t
same_segment s t slots some level =
    let pos : 0 < s.slots = omega arith in
    let cross : s.bytes * s.slots ≡ t.bytes * s.slots = ap (λ x. s.bytes * x) slots ∙ level in
    let bytes : s.bytes ≡ t.bytes =
    le_antisymm (le_of_mul-le-mul_right (le_of_eq cross) pos) (le_of_mul-le-mul_right (le_of_eq (sym cross)) pos) in
    ap (λ n. segment n s.bytes) slots ∙ ap (λ b. segment t.slots b) bytes

-- the complete list
pub one_list : {at : Start} {xs ys : List Segment} → IsTautLine at xs → IsTautLine at ys
    → total_slots xs ≡ total_slots ys → xs ≡ ys
unfolding split_of
one_list {xs = []} {ys = []} line other same = refl
one_list {xs = []} {ys = t ∷ ys} line other same =
    let slots : total_slots (t ∷ ys) ≡ t.slots + total_slots ys = sum_by-cons (λ x. x.slots) t ys in
    absurd (omega (arith, same, slots, other.runs.0.some))
one_list {xs = s ∷ xs} {ys = []} line other same =
    let slots : total_slots (s ∷ xs) ≡ s.slots + total_slots xs = sum_by-cons (λ x. x.slots) s xs in
    absurd (omega (arith, same, slots, line.runs.0.some))
one_list {at} {xs = s ∷ xs} {ys = t ∷ ys} line other same =
    let level : s.bytes * t.slots ≡ t.bytes * s.slots = one_slope (line_meets line) (line_meets other) in
    let slots_s : total_slots (s ∷ xs) ≡ s.slots + total_slots xs = sum_by-cons (λ x. x.slots) s xs in
    let slots_t : total_slots (t ∷ ys) ≡ t.slots + total_slots ys = sum_by-cons (λ x. x.slots) t ys in
    elim (cases_order s.slots t.slots) [
      | inl one ↦ (
          let first : s ≡ t = same_segment s t one line.runs.0.some level in
          let other' : IsTautLine (after at s) ys =
          subst (λ x. IsTautLine (after at x) ys) (sym first) (line_on other) in
          let others : xs ≡ ys =
          one_list {at = after at s} {xs = xs} {ys = ys} (line_on line) other'
          (omega (arith, same, slots_s, slots_t, one)) in
          ap (λ x. x ∷ xs) first ∙ ap (λ zs. t ∷ zs) others
          )
      | inr differs ↦ elim differs [
        | inl shorter ↦ (
            let none : total_slots xs ≡ 0 = ap total_slots (ends_there (split_of s t level shorter) line other) in
            absurd (omega (arith, same, slots_s, slots_t, none, shorter))
            )
        | inr longer ↦ (
            let none : total_slots ys ≡ 0 = ap total_slots (ends_there (split_of t s (sym level) longer) other line) in
            absurd (omega (arith, same, slots_s, slots_t, none, longer))
            )
      ]
    ]
