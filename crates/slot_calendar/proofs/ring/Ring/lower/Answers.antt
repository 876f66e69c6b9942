use Rattle.std.proofs.lemmas.Grind.{common_steps}
use Rattle.std.proofs.Common.{◌≡◌, ◌<◌, ◌≤◌, ◌+◌, ◌-◌, ◌/◌, ◌%◌, ◌++◌, ℕ, List, Some, length, get_or, take, drop}
use Rattle.std.proofs.Common.{set, arith, sym, ap, subst, ◌∙◌, inl, inr}
use Rattle.std.proofs.lemmas.Bool.{cases_lt}
use Rattle.std.proofs.lemmas.List.{get_or_read, take_at}
use Rattle.std.proofs.lemmas.Nat.{mod_below}
use Rattle.slot_calendar.specs.Rings.{AreBlockMaxima, rotation}
use Rattle.slot_calendar.specs.Totals.{ring_slots, total_at}
use Rattle.slot_calendar.proofs.RingRotation.{HasPlaces, IsInTurn, total-in, total-past, set-here, set-there}
use Rattle.slot_calendar.proofs.BlockMaxima.{topped-lower}
use Rattle.slot_calendar.proofs.ring.Ring.lower.Goals as goal

-- the slot is one of the ring, since something is booked in it
in_ring : {xs : List ℕ} (first slot : ℕ) → HasPlaces xs → first ≤ slot
    → 0 < total_at first (rotation (first % ring_slots) xs) slot → IsInTurn first slot
in_ring first slot places from booked = record {
  from = from;
  inside = elim (cases_lt slot (first + ring_slots)) [
    | inl inside ↦ inside
    | inr past ↦ (let none = total-past first slot places past in absurd (omega (arith, none, booked)))
  ];
}

pub invariant_of-self : goal.invariant_of-self
invariant_of-self c =
    let d = c.self.inside in
    let p = c.args.slot % ring_slots in
    let inside : p < ring_slots = mod_below c.args.slot ring_slots (omega arith) in
    let value : c.index_mut.result.now ≡ get_or d.places.items p 0 =
    get_or_read d.places.items p c.index_mut.result.now (omega (arith, inside, c.self.invariant.maxima.places_are))
    c.index_mut.ensures.value 0 in
    let P : List ℕ → Type 0 = λ xs. AreBlockMaxima xs c.settle_other.new.tops (Some (p / 1024)) in
    let settled = subst P c.as_slice.ensures.value c.settle_other.ensures in
    let less = c.index_mut.result.now - c.args.by in
    let tops = c.settle_other.new.tops in
    let whole : take d.tops.len (tops ++ drop (length tops) d.tops.items) ≡ tops =
    take_at tops (drop (length tops) d.tops.items) d.tops.len
    (omega (arith, settled.tops_are, c.self.invariant.maxima.tops_are)) in
    let T : List ℕ → Type 0 = λ ts. AreBlockMaxima (set d.places.items p less) ts (Some (p / 1024)) in
    let first : d.first ≡ c.args.self.now.first = ap (λ s. s.first) c.self.view_is in
    let old = ap (λ s. total_at s.first s.totals c.args.slot) c.self.view_is in
    let places : HasPlaces d.places.items = record { length_is = c.self.invariant.maxima.places_are } in
    let from : d.first ≤ c.args.slot = omega (arith, first, c.requires.from_now) in
    let turn = in_ring d.first c.args.slot places from (omega (arith, old, c.requires.some, c.requires.booked)) in
    let held : c.args.slot < d.last + 1 = elim (cases_lt c.args.slot (d.last + 1)) [
      | inl early ↦ early
      | inr late ↦ (
          let none = c.self.invariant.empty c.args.slot from late in
          absurd (omega (arith, none, old, c.requires.some, c.requires.booked))
          )
    ] in
    record {
      maxima = subst T (sym whole) (topped-lower p less settled inside (omega (arith, value)));
      empty = λ u since late. set-there less places turn since (λ e. omega (arith, e, late, held))
          ∙ c.self.invariant.empty u since late;
    }

pub returns-clause-at : goal.returns-clause-at
returns-clause-at c =
    let d = c.self.inside in
    let p = c.args.slot % ring_slots in
    let first : d.first ≡ c.args.self.now.first = ap (λ s. s.first) c.self.view_is in
    let old = ap (λ s. total_at s.first s.totals c.args.slot) c.self.view_is in
    let places : HasPlaces d.places.items = record { length_is = c.self.invariant.maxima.places_are } in
    let from : d.first ≤ c.args.slot = omega (arith, first, c.requires.from_now) in
    let turn = in_ring d.first c.args.slot places from (omega (arith, old, c.requires.some, c.requires.booked)) in
    let inside : p < ring_slots = mod_below c.args.slot ring_slots (omega arith) in
    let value : c.index_mut.result.now ≡ get_or d.places.items p 0 =
    get_or_read d.places.items p c.index_mut.result.now (omega (arith, inside, c.self.invariant.maxima.places_are))
    c.index_mut.ensures.value 0 in
    let now = set-here (c.index_mut.result.now - c.args.by) places turn in
    let was = total-in places turn in
    omega (arith, now, was, value, old, c.requires.booked)

pub returns-clause-others : goal.returns-clause-others
returns-clause-others c = λ t since other. (
    let d = c.self.inside in
    let first : d.first ≡ c.args.self.now.first = ap (λ s. s.first) c.self.view_is in
    let old = ap (λ s. total_at s.first s.totals c.args.slot) c.self.view_is in
    let places : HasPlaces d.places.items = record { length_is = c.self.invariant.maxima.places_are } in
    let turn = in_ring d.first c.args.slot places (omega (arith, first, c.requires.from_now))
    (omega (arith, old, c.requires.some, c.requires.booked)) in
    set-there (c.index_mut.result.now - c.args.by) places turn (omega (arith, first, since)) other
    ∙ ap (λ s. total_at s.first s.totals t) c.self.view_is
    )

pub overflow_sub-index_mut : goal.overflow_sub-index_mut
overflow_sub-index_mut c = grind (arith, common_steps)
