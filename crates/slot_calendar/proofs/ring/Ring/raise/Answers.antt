use Rattle.std.proofs.lemmas.Grind.{common_steps}
use Rattle.std.proofs.Common.{◌≡◌, ◌<◌, ◌+◌, ◌/◌, ◌%◌, ℕ, max, get_or, set, arith, sym, ap, subst, ◌∙◌}
use Rattle.std.proofs.lemmas.List.{get_or_read}
use Rattle.std.proofs.lemmas.Nat.{mod_below}
use Rattle.slot_calendar.specs.Rings.{AreBlockMaxima}
use Rattle.slot_calendar.specs.Totals.{ring_slots, total_at}
use Rattle.slot_calendar.proofs.RingRotation.{HasPlaces, IsInTurn, total-in, set-here, set-there}
use Rattle.slot_calendar.proofs.BlockMaxima.{topped-raise, block-in}
use Rattle.slot_calendar.proofs.ring.Ring.raise.Goals as goal

pub invariant_of-self : goal.invariant_of-self
invariant_of-self c =
    let d = c.self.inside in
    let p = c.args.slot % ring_slots in
    let inside : p < ring_slots = mod_below c.args.slot ring_slots (omega arith) in
    let v = c.index.result.now + c.args.by in
    let value : c.index.result.now ≡ get_or d.places.items p 0 =
    get_or_read d.places.items p c.index.result.now
    (omega (arith, inside, c.self.invariant.maxima.places_are)) c.index.ensures 0 in
    let old : c.index-2.result.now ≡ get_or d.tops.items (p / 1024) 0 =
    get_or_read d.tops.items (p / 1024) c.index-2.result.now
    (omega (arith, block-in p inside, c.self.invariant.maxima.tops_are)) c.index-2.ensures 0 in
    let top : c.max.result ≡ max (get_or d.tops.items (p / 1024) 0) v = c.max.ensures ∙ ap (λ x. max x v) old in
    let P : ℕ → Type 0 = λ x. AreBlockMaxima (set d.places.items p v) (set d.tops.items (p / 1024) x) d.stale in
    let first : d.first ≡ c.args.self.now.first = ap (λ s. s.first) c.self.view_is in
    let places : HasPlaces d.places.items = record { length_is = c.self.invariant.maxima.places_are } in
    let turn : IsInTurn d.first c.args.slot =
    record { from = omega (arith, first, c.requires.from_now); inside = omega (arith, first, c.requires.within) } in
    record {
      maxima = subst P (sym top)
          (topped-raise (record { maxima = c.self.invariant.maxima; inside = inside; rises = omega (arith, value) }));
      empty = λ u from late. (
          let last : c.max-self-inside.result ≡ max d.last c.args.slot = c.max-self-inside.ensures in
          set-there v places turn from (λ e. omega (arith, e, late, last))
          ∙ c.self.invariant.empty u from (omega (arith, late, last))
          );
    }

pub returns-clause-at : goal.returns-clause-at
returns-clause-at c =
    let d = c.self.inside in
    let p = c.args.slot % ring_slots in
    let first : d.first ≡ c.args.self.now.first = ap (λ s. s.first) c.self.view_is in
    let inside : p < ring_slots = mod_below c.args.slot ring_slots (omega arith) in
    let value : c.index.result.now ≡ get_or d.places.items p 0 =
    get_or_read d.places.items p c.index.result.now
    (omega (arith, inside, c.self.invariant.maxima.places_are)) c.index.ensures 0 in
    let places : HasPlaces d.places.items = record { length_is = c.self.invariant.maxima.places_are } in
    let turn : IsInTurn d.first c.args.slot =
    record { from = omega (arith, first, c.requires.from_now); inside = omega (arith, first, c.requires.within) } in
    let now = set-here (c.index.result.now + c.args.by) places turn in
    let was = total-in places turn in
    now ∙ ap (λ x. x + c.args.by) (value ∙ sym was)
    ∙ ap (λ s. total_at s.first s.totals c.args.slot + c.args.by) c.self.view_is

pub returns-clause-others : goal.returns-clause-others
returns-clause-others c = λ t from other. (
    let d = c.self.inside in
    let first : d.first ≡ c.args.self.now.first = ap (λ s. s.first) c.self.view_is in
    let places : HasPlaces d.places.items = record { length_is = c.self.invariant.maxima.places_are } in
    let turn : IsInTurn d.first c.args.slot =
    record { from = omega (arith, first, c.requires.from_now); inside = omega (arith, first, c.requires.within) } in
    set-there (c.index.result.now + c.args.by) places turn (omega (arith, first, from)) other
    ∙ ap (λ s. total_at s.first s.totals t) c.self.view_is
    )

pub overflow_add-total : goal.overflow_add-total
overflow_add-total c = grind (arith, common_steps)
