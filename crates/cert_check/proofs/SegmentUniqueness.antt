-- Two taut lines between the same curves, from one place and height to one end, are the same list of segments.
-- Along the ray of its first slope a taut line meets the lower curve with the upper one above it all the way, and meets
-- the upper curve with the lower one below it all the way. Two slopes at one place can't both have both.
use Rattle.std.proofs.Common.{◌≡◌, ◌<◌, ◌≤◌, ◌+◌, ◌-◌, ◌*◌, ℕ, List, [], ◌∷◌, inl, inr, arith, sym, ap, subst, ◌∙◌}
use Rattle.std.proofs.Math.Nat.{mul-le-mul_left, mul-le-mul_right, mul-lt-mul_of_pos_left, le_of_mul-le-mul_right}
use Rattle.std.proofs.lemmas.Bool.{cases_lt, cases_order}
use Rattle.std.proofs.lemmas.List.Sums.{sum_by-cons}
use Rattle.plan_cert.specs.declared.Segment.{Segment}
use Rattle.plan_cert.specs.PlanSlots.{total_slots, total_bytes}
use Rattle.cert_check.specs.TautRecursion.{Start, start_at, after, StaysBetween, RunsTaut, MeetsLower, MeetsUpper, MeetsBoth}

pub same_start : (at : Start) {k v : ℕ} → k ≡ at.place → v ≡ at.height → start_at at.lo at.hi k v ≡ at
same_start at {k} {v} place height =
    ap (λ c. start_at at.lo at.hi c v) place ∙ ap (λ c. start_at at.lo at.hi at.place c) height

-- the line ends on both curves
pub record EndsOn (at : Start) (segments : List Segment) : Type 0 where
  pub low : at.lo (at.place + total_slots segments) ≡ at.height + total_bytes segments
  pub high : at.hi (at.place + total_slots segments) ≡ at.height + total_bytes segments

-- a taut line to the end of both curves
pub record IsTautLine (at : Start) (segments : List Segment) : Type 0 where
  pub runs : RunsTaut at segments
  pub ends : EndsOn at segments

-- a segment, and the next one
pub record Bend : Type 0 where
  pub at : Start
  pub first : Segment
  pub next : Segment
  pub some : 1 ≤ next.slots

-- where a curve stands on or above the ray of a steeper next segment, it stands so above the ray of the first one
pub above_ray : (bend : Bend) (curve : ℕ → ℕ) (i : ℕ) → bend.first.bytes * bend.next.slots
    ≤ bend.next.bytes * bend.first.slots
    → (bend.at.height + bend.first.bytes) * bend.next.slots + i * bend.next.bytes
    ≤ curve (bend.at.place + bend.first.slots + i) * bend.next.slots
    → bend.at.height * bend.first.slots + (bend.first.slots + i) * bend.first.bytes
    ≤ curve (bend.at.place + (bend.first.slots + i)) * bend.first.slots
above_ray bend curve i steeper above =
    let h = curve (k + n + i) in
    let one : ((v + b) * n' + i * b') * n ≤ h * n' * n = mul-le-mul_right n above in
    let two : i * (b * n') ≤ i * (b' * n) = mul-le-mul_left i steeper in
    let pos : 0 < n' = omega (arith, bend.some) in
    let all : (v * n + (n + i) * b) * n' ≤ h * n * n' = omega (arith, one, two) in
    subst (λ p. v * n + (n + i) * b ≤ curve p * n) (omega arith) (le_of_mul-le-mul_right all pos)
  where
    open bend use {at.{place as k, height as v}, first.{slots as n, bytes as b}, next.{slots as n', bytes as b'}}

-- the mirror
pub below_ray : (bend : Bend) (curve : ℕ → ℕ) (i : ℕ) → bend.next.bytes * bend.first.slots
    ≤ bend.first.bytes * bend.next.slots
    → curve (bend.at.place + bend.first.slots + i) * bend.next.slots
    ≤ (bend.at.height + bend.first.bytes) * bend.next.slots + i * bend.next.bytes
    → curve (bend.at.place + (bend.first.slots + i)) * bend.first.slots
    ≤ bend.at.height * bend.first.slots + (bend.first.slots + i) * bend.first.bytes
below_ray bend curve i flatter below =
    let h = curve (k + n + i) in
    let one : h * n' * n ≤ ((v + b) * n' + i * b') * n = mul-le-mul_right n below in
    let two : i * (b' * n) ≤ i * (b * n') = mul-le-mul_left i flatter in
    let pos : 0 < n' = omega (arith, bend.some) in
    let all : h * n * n' ≤ (v * n + (n + i) * b) * n' = omega (arith, one, two) in
    subst (λ p. curve p * n ≤ v * n + (n + i) * b) (omega arith) (le_of_mul-le-mul_right all pos)
  where
    open bend use {at.{place as k, height as v}, first.{slots as n, bytes as b}, next.{slots as n', bytes as b'}}

-- a flatter and a steeper segment from one height
record Fork : Type 0 where
  pub height : ℕ
  pub flat : Segment
  pub steep : Segment
  pub steeper : flat.bytes * steep.slots < steep.bytes * flat.slots

-- one number isn't both at most the flatter ray and at least the steeper one
apart : (fork : Fork) (j h : ℕ) → 1 ≤ j → h * fork.flat.slots ≤ fork.height * fork.flat.slots + j * fork.flat.bytes
    → fork.height * fork.steep.slots + j * fork.steep.bytes ≤ h * fork.steep.slots → ⊥
apart fork j h some below above =
    let pos : 0 < j = omega arith in
    let one : h * n * n' ≤ (v * n + j * b) * n' = mul-le-mul_right n' below in
    let two : (v * n' + j * b') * n ≤ h * n' * n = mul-le-mul_right n above in
    let gap : j * (b * n') < j * (b' * n) = mul-lt-mul_of_pos_left fork.steeper pos in
    omega (arith, one, two, gap)
  where
    open fork use {height as v, flat.{slots as n, bytes as b}, steep.{slots as n', bytes as b'}}

-- so a steeper ray that meets low and a flatter one that meets high don't begin together
pub no_steeper : {at : Start} {flat steep : Segment} → MeetsUpper at flat → MeetsLower at steep
    → flat.bytes * steep.slots < steep.bytes * flat.slots → ⊥
no_steeper {at} {flat} {steep} high low steeper =
    let fork : Fork = record { height = at.height; flat = flat; steep = steep; steeper = steeper } in
    elim (cases_lt low.far high.far) [
      | inl before ↦
          apart fork low.far (at.lo (at.place + low.far)) low.later (high.free low.far (omega arith)) low.touches
      | inr after ↦
          apart fork high.far (at.hi (at.place + high.far)) high.later high.touches (low.free high.far after)
    ]

-- a segment that ends on a curve meets it there
pub end_meets_low : {at : Start} {s : Segment} → StaysBetween at s → at.height + s.bytes ≡ at.lo (at.place + s.slots)
    → MeetsLower at s
end_meets_low {at} {s} stays on_low = record {
  far = s.slots;
  later = stays.some;
  touches = let e = ap (λ x. x * s.slots) on_low in omega (arith, e);
  free = stays.below;
}

pub end_meets_high : {at : Start} {s : Segment} → StaysBetween at s → at.height + s.bytes ≡ at.hi (at.place + s.slots)
    → MeetsUpper at s
end_meets_high {at} {s} stays on_high = record {
  far = s.slots;
  later = stays.some;
  touches = let e = ap (λ x. x * s.slots) on_high in omega (arith, e);
  free = stays.above;
}

-- what is true up to a number and for some numbers past it, is true for all of them
throughout : (P : ℕ → Type 0) (n : ℕ) {far : ℕ} → ((i : ℕ) → i ≤ n → P i) → ((i : ℕ) → i ≤ far → P (n + i))
    → (i : ℕ) → i ≤ n + far → P i
throughout P n within past i near = elim (cases_lt n i) [
  | inr most ↦ within i most
  | inl more ↦ subst P (omega arith) (past (i - n) (omega arith))
]

-- the meeting of a steeper segment's ray, seen along the ray of the segment before it
low_further : (bend : Bend) → StaysBetween bend.at bend.first
    → bend.first.bytes * bend.next.slots ≤ bend.next.bytes * bend.first.slots
    → MeetsLower (after bend.at bend.first) bend.next → MeetsLower bend.at bend.first
low_further bend stays steeper meets = record {
  far = s.slots + meets.far;
  later = omega (arith, meets.later);
  touches = above_ray bend at.lo meets.far steeper meets.touches;
  free = throughout (λ i. at.height * s.slots + i * s.bytes ≤ at.hi (at.place + i) * s.slots) s.slots stays.below
      (λ i near. above_ray bend at.hi i steeper (meets.free i near));
}
  where
    open bend use {at, first as s}

high_further : (bend : Bend) → StaysBetween bend.at bend.first
    → bend.next.bytes * bend.first.slots ≤ bend.first.bytes * bend.next.slots
    → MeetsUpper (after bend.at bend.first) bend.next → MeetsUpper bend.at bend.first
high_further bend stays flatter meets = record {
  far = s.slots + meets.far;
  later = omega (arith, meets.later);
  touches = below_ray bend at.hi meets.far flatter meets.touches;
  free = throughout (λ i. at.lo (at.place + i) * s.slots ≤ at.height * s.slots + i * s.bytes) s.slots stays.above
      (λ i near. below_ray bend at.lo i flatter (meets.free i near));
}
  where
    open bend use {at, first as s}

-- what is left after the first segment is a taut line too
pub line_on : {at : Start} {s : Segment} {rest : List Segment} → IsTautLine at (s ∷ rest) → IsTautLine (after at s) rest
line_on {at} {s} {rest} line =
    let slots : total_slots (s ∷ rest) ≡ s.slots + total_slots rest = sum_by-cons (λ x. x.slots) s rest in
    let bytes : total_bytes (s ∷ rest) ≡ s.bytes + total_bytes rest = sum_by-cons (λ x. x.bytes) s rest in
    let place : at.place + total_slots (s ∷ rest) ≡ at.place + s.slots + total_slots rest = omega (arith, slots) in
    let height : at.height + total_bytes (s ∷ rest) ≡ at.height + s.bytes + total_bytes rest = omega (arith, bytes) in
    record {
      runs = line.runs.2;
      ends = record {
        low = ap at.lo (sym place) ∙ line.ends.low ∙ height;
        high = ap at.hi (sym place) ∙ line.ends.high ∙ height;
      };
    }

-- every taut line's first ray meets both curves
pub line_meets : {at : Start} {s : Segment} {rest : List Segment} → IsTautLine at (s ∷ rest) → MeetsBoth at s
line_meets {at} {s} {rest = []} line =
    let ends = (line_on line).ends in
    record {
      some = line.runs.0.some;
      lower = end_meets_low line.runs.0 (sym (ap at.lo (omega arith) ∙ ends.low ∙ omega arith));
      upper = end_meets_high line.runs.0 (sym (ap at.hi (omega arith) ∙ ends.high ∙ omega arith));
    }
line_meets {at} {s} {rest = next ∷ rest} line =
    let stays = line.runs.0 in
    let bend : Bend = record { at = at; first = s; next = next; some = line.runs.2.0.some } in
    let later : MeetsBoth (after at s) next = line_meets {at = after at s} {s = next} {rest = rest} (line_on line) in
    elim line.runs.1 [
      | inl rise ↦
          record {
            some = stays.some;
            lower = low_further bend stays (omega (arith, rise.0)) later.lower;
            upper = end_meets_high stays rise.1;
          }
      | inr fall ↦
          record {
            some = stays.some;
            lower = end_meets_low stays fall.1;
            upper = high_further bend stays (omega (arith, fall.0)) later.upper;
          }
    ]

-- so two taut lines from one place begin with one slope
pub one_slope : {at : Start} {s t : Segment} → MeetsBoth at s → MeetsBoth at t → s.bytes * t.slots ≡ t.bytes * s.slots
one_slope {s} {t} one other =
    elim (cases_order (s.bytes * t.slots) (t.bytes * s.slots)) [
      | inl same ↦ same
      | inr differs ↦ elim differs [
        | inl less ↦ absurd (no_steeper one.upper other.lower less)
        | inr more ↦ absurd (no_steeper other.upper one.lower more)
      ]
    ]
