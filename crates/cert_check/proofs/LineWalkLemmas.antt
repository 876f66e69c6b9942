-- A walk along the line, slot by slot, against the exact line at a place.
use Rattle.std.proofs.Common.{◌≡◌, ◌<◌, ◌≤◌, ◌+◌, ◌*◌, ℕ, false, List, length, take, nat_eq, is_some, Option, Some}
use Rattle.std.proofs.Common.{None, MatchOption, inl, inr, arith, refl, sym, ap, subst, ◌∙◌, eq-eqb, ne_eqb, below_more}
use Rattle.std.proofs.lemmas.Bool.{cases_eq, cond-true, cond-false, cases_lt, true≢false}
use Rattle.std.proofs.lemmas.List.{take_all}
use Rattle.plan_cert.specs.declared.Segment.{Segment}
use Rattle.plan_cert.specs.PlanSlots.{total_slots}
use Rattle.cert_check.specs.declared.walk.Walk.{Walk}
use Rattle.cert_check.specs.First.{IsFirst}
use Rattle.cert_check.specs.ExactLine.{segment_at, line_top, line_under, end_place}
use Rattle.cert_check.specs.CheckerSteps.{IsWalkAt, next_walk}
use Rattle.cert_check.proofs.ExactLineLemmas.{LineIn, line_in}
use Rattle.cert_check.proofs.SegmentEnds.{end_place_is, end_height_is}

-- a list whose segment i ends before its last slot has a segment after it
one_after : (segments : List Segment) (i : ℕ) → end_place segments i < total_slots segments → i + 1 < length segments
one_after segments i before =
    elim (cases_lt (i + 1) (length segments)) [
      | inl inside ↦ inside
      | inr short ↦ (
          let all : total_slots (take (i + 1) segments) ≡ total_slots segments =
          ap total_slots (take_all (i + 1) segments short) in
          absurd (omega (arith, all, before))
          )
    ]

-- what the walk needs of the list: no segment is empty
abbrev pub AreFull : List Segment → Type 0
AreFull segments = (i : ℕ) → i < length segments → 1 ≤ (segment_at segments i).slots

pub record Goes (from : ℕ) (segments : List Segment) (t : ℕ) (walk : Walk) : Type 0 where
  pub stands : IsWalkAt from segments t walk
  pub some : 1 ≤ walk.passed

-- one slot further: from a segment's end into the next one, and within a segment
pub goes_on : {from : ℕ} {segments : List Segment} {t : ℕ} {walk : Walk} → IsWalkAt from segments t walk
    → AreFull segments × (t < total_slots segments) → Goes from segments (t + 1) (next_walk segments walk)
goes_on {from} {segments} {t} {walk} stands more =
    let s = segment_at segments walk.index in
    let over : Walk = record { index = walk.index + 1; passed = 1; height = walk.height + s.bytes } in
    let within : Walk = record { index = walk.index; passed = walk.passed + 1; height = walk.height } in
    elim (cases_eq walk.passed s.slots) [
      | inl end ↦ (
          let ends = end_place_is segments walk.index stands.inside in
          let height = end_height_is from segments walk.index stands.inside in
          let next : walk.index + 1 < length segments =
          one_after segments walk.index (omega (arith, ends, stands.place, end, more.1)) in
          subst (Goes from segments (t + 1))
          (sym (cond-true (nat_eq walk.passed s.slots) over within (eq-eqb walk.passed s.slots end)))
          (record {
            stands = record {
              inside = next;
              within = more.0 (walk.index + 1) next;
              place = omega (arith, ends, stands.place, end);
              height_is = omega (arith, height, stands.height_is);
            };
            some = omega arith;
          })
          )
      | inr before ↦
          subst (Goes from segments (t + 1))
          (sym (cond-false (nat_eq walk.passed s.slots) over within (ne_eqb walk.passed s.slots before)))
          (record {
            stands = record {
              inside = stands.inside;
              within = omega (arith, stands.within, before);
              place = omega (arith, stands.place);
              height_is = stands.height_is;
            };
            some = omega arith;
          })
    ]

-- the exact line where the walk stands
pub record Height (from : ℕ) (segments : List Segment) (t : ℕ) (walk : Walk) : Type 0 where
  pub top : line_top from segments t
      ≡ walk.height * (segment_at segments walk.index).slots + walk.passed * (segment_at segments walk.index).bytes
  pub under : line_under segments t ≡ (segment_at segments walk.index).slots

pub height_at : {from : ℕ} {segments : List Segment} {t : ℕ} {walk : Walk} → Goes from segments t walk
    → Height from segments t walk
height_at {from} {segments} {t} {walk} goes =
    let at : LineIn from segments walk.index walk.passed = line_in goes.stands.inside (goes.some, goes.stands.within) in
    let height = ap (λ h. h * (segment_at segments walk.index).slots) (sym goes.stands.height_is) in
    record {
      top = ap (line_top from segments) (sym goes.stands.place) ∙ at.top
          ∙ ap (λ h. h + walk.passed * (segment_at segments walk.index).bytes) height;
      under = ap (line_under segments) (sym goes.stands.place) ∙ at.under;
    }

-- the first place so far, one place on
pub first_kept : (o : Option ℕ) (P : ℕ → Type 0) (t : ℕ) → MatchOption o ((j : ℕ) → j < t → ¬ P j) (IsFirst P) →
    (is_some o ≡ false → ¬ P t) →
    MatchOption o ((j : ℕ) → j < t + 1 → ¬ P j) (IsFirst P)
first_kept None P t so_far here = below_more (λ j. ¬ P j) t so_far (here refl)
first_kept (Some a) P t so_far here = so_far

pub first_found : (o : Option ℕ) (P : ℕ → Type 0) (t : ℕ) → MatchOption o ((j : ℕ) → j < t → ¬ P j) (IsFirst P)
    → is_some o ≡ false → P t → IsFirst P t
first_found None P t so_far none here = record { here = here; not_before = so_far }
first_found (Some a) P t so_far none here = absurd (true≢false none)
