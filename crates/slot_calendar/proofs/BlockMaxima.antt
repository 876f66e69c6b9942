-- The greatest total of each block, kept while places change.
use Rattle.std.proofs.Common.{◌≡◌, ◌≢◌, ◌<◌, ◌≤◌, ◌+◌, ◌-◌, ◌*◌, ◌/◌, ◌%◌, ℕ, max, List, Option, Some, None, length}
use Rattle.std.proofs.Common.{get_or, take, drop, set, arith, sym, ap, ◌∙◌, inl, inr}
use Rattle.std.proofs.lemmas.Nat.{div-mul-add, div-add-mod'}
use Rattle.std.proofs.lemmas.Bool.{cases_lt, cases_eq}
use Rattle.std.proofs.lemmas.List.{length-set, length-drop, length-take-le, get_or-set_same, get_or-set_other}
use Rattle.std.proofs.lemmas.List.{get_or-take, get_or-drop}
use Rattle.std.proofs.lemmas.Option.{none-some}
use Rattle.slot_calendar.specs.Rings.{AreBlockMaxima, IsGreatest, IsReached, AreZeros}
use Rattle.slot_calendar.specs.Totals.{ring_slots}

pub block-in : (p : ℕ) → p < ring_slots → p / 1024 < 1024
block-in p inside = omega (arith, inside)

-- a place of a ring, and the number to which its own rises
pub record Raise (places tops : List ℕ) (stale : Option ℕ) (p v : ℕ) : Type 0 where
  pub maxima : AreBlockMaxima places tops stale
  pub inside : p < ring_slots
  pub rises : get_or places p 0 ≤ v

-- the places with it, and the greatest totals of the blocks
module _ {places tops : List ℕ} {stale : Option ℕ} {p v : ℕ} (raise : Raise places tops stale p v) where
  open raise use {maxima, inside}

  abbrev block : ℕ
  block = p / 1024

  abbrev top : ℕ
  top = max (get_or tops block 0) v

  abbrev pub raised : List ℕ
  raised = set places p v

  abbrev pub raised_tops : List ℕ
  raised_tops = set tops block top

  raise_here : get_or raised p 0 ≡ v
  raise_here = get_or-set_same places p v 0 (omega (arith, maxima.places_are, inside))

  raise_top : get_or raised_tops block 0 ≡ top
  raise_top = get_or-set_same tops block top 0 (omega (arith, maxima.tops_are, block-in p inside))

  -- the new greatest number bounds each number of the block, and the other blocks are as before
  raise_bounded : (i : ℕ) → i < ring_slots → get_or raised i 0 ≤ get_or raised_tops (i / 1024) 0
  raise_bounded i less = elim (cases_eq i p) [
    | inl is ↦ (
        let value : get_or raised i 0 ≡ v = ap (λ k. get_or raised k 0) is ∙ raise_here in
        let bound : get_or raised_tops (i / 1024) 0 ≡ top = ap (λ k. get_or raised_tops (k / 1024) 0) is ∙ raise_top in
        omega (arith, value, bound)
        )
    | inr other ↦ (
        let value : get_or raised i 0 ≡ get_or places i 0 = get_or-set_other places p i v 0 other in
        let before : get_or places i 0 ≤ get_or tops (i / 1024) 0 = maxima.bounded i less in
        elim (cases_eq (i / 1024) block) [
          | inl same ↦ (
              let bound : get_or raised_tops (i / 1024) 0 ≡ top = ap (λ k. get_or raised_tops k 0) same ∙ raise_top in
              let old : get_or tops (i / 1024) 0 ≡ get_or tops block 0 = ap (λ k. get_or tops k 0) same in
              omega (arith, value, bound, before, old)
              )
          | inr apart ↦ (
              let bound = get_or-set_other tops block (i / 1024) top 0 apart in
              omega (arith, value, bound, before)
              )
        ]
        )
  ]

  -- some place of its block holds the new greatest number
  raise_in_block : (b : ℕ) → b ≡ block → IsReached places b (get_or tops b 0)
      → IsReached raised b (get_or raised_tops b 0)
  raise_in_block b is old =
      let bound : get_or raised_tops b 0 ≡ top = ap (λ k. get_or raised_tops k 0) is ∙ raise_top in
      elim (cases_lt v (get_or tops block 0)) [
        | inl under ↦ (
            let same : get_or tops b 0 ≡ get_or tops block 0 = ap (λ k. get_or tops k 0) is in
            let apart : old.place ≢ p =
            grind arith in
            record {
              place = old.place;
              inside = old.inside;
              of_block = old.of_block;
              holds = get_or-set_other places p old.place v 0 apart ∙ old.holds ∙ omega (arith, same, bound, under);
            }
            )
        | inr over ↦ record {
          place = p;
          inside = inside;
          of_block = sym is;
          holds = raise_here ∙ omega (arith, bound, over);
        }
      ]

  -- in another block some place still holds the greatest number
  raise_elsewhere : (b : ℕ) → b ≢ block → IsReached places b (get_or tops b 0)
      → IsReached raised b (get_or raised_tops b 0)
  raise_elsewhere b apart old =
      let other : old.place ≢ p = λ e. apart (sym old.of_block ∙ ap (λ k. k / 1024) e) in record {
        place = old.place;
        inside = old.inside;
        of_block = old.of_block;
        holds = get_or-set_other places p old.place v 0 other ∙ old.holds
            ∙ sym (get_or-set_other tops block b top 0 apart);
      }

  -- a place whose number rises
  pub topped-raise : AreBlockMaxima raised raised_tops stale
  topped-raise = record {
    places_are = length-set places p v ∙ maxima.places_are;
    tops_are = length-set tops block top ∙ maxima.tops_are;
    bounded = raise_bounded;
    reached = λ b less exact. elim (cases_eq b block) [
      | inl is ↦ raise_in_block b is (maxima.reached b less exact)
      | inr apart ↦ raise_elsewhere b apart (maxima.reached b less exact)
    ];
    stale_in = maxima.stale_in;
  }

-- a place of the stale block whose number falls
pub topped-lower : {places tops : List ℕ} (p v : ℕ) → AreBlockMaxima places tops (Some (p / 1024)) → p < ring_slots →
    v ≤ get_or places p 0 →
    AreBlockMaxima (set places p v) tops (Some (p / 1024))
topped-lower {places} {tops} p v topped inside falls = record {
  places_are = length-set places p v ∙ topped.places_are;
  tops_are = topped.tops_are;
  bounded = λ i less. (
      let before : get_or places i 0 ≤ get_or tops (i / 1024) 0 = topped.bounded i less in
      elim (cases_eq i p) [
        | inl is ↦ (
            let value : get_or (set places p v) i 0 ≡ v =
            rw (get_or, set places p v, is, get_or-set_same places p v 0 (omega (arith, topped.places_are))) in
            let same : get_or places i 0 ≡ get_or places p 0 = ap (λ k. get_or places k 0) is in
            omega (arith, value, same, before, falls)
            )
        | inr other ↦ (let value = get_or-set_other places p i v 0 other in omega (arith, value, before))
      ]
      );
  reached = λ b less exact. (
      let old = topped.reached b less exact in
      let other : old.place ≢ p = λ e. exact (ap (λ k. Some k) (ap (λ k. k / 1024) (sym e) ∙ old.of_block)) in
      record {
        place = old.place;
        inside = old.inside;
        of_block = old.of_block;
        holds = get_or-set_other places p old.place v 0 other ∙ old.holds;
      }
      );
  stale_in = topped.stale_in;
}

-- the stale block, and its greatest number as it is read again
pub record Settle (places tops : List ℕ) (stale : Option ℕ) (b top : ℕ) : Type 0 where
  pub maxima : AreBlockMaxima places tops stale
  pub is : stale ≡ Some b
  pub greatest : IsGreatest (take 1024 (drop (b * 1024) places)) top

-- the numbers of the block as they were read again
module _ {places tops : List ℕ} {stale : Option ℕ} {b top : ℕ} (settle : Settle places tops stale b top) where
  open settle use {maxima, is, greatest}

  abbrev pub settled_tops : List ℕ
  settled_tops = set tops b top

  abbrev numbers : List ℕ
  numbers = take 1024 (drop (b * 1024) places)

  length-numbers : length numbers ≡ 1024
  length-numbers = length-take-le 1024 (drop (b * 1024) places)
      (omega (arith, length-drop (b * 1024) places, maxima.places_are, maxima.stale_in b is))

  settle_here : get_or settled_tops b 0 ≡ top
  settle_here = get_or-set_same tops b top 0 (omega (arith, maxima.tops_are, maxima.stale_in b is))

  at_block : (r : ℕ) → r < 1024 → get_or numbers r 0 ≡ get_or places (b * 1024 + r) 0
  at_block r low = get_or-take 1024 (drop (b * 1024) places) r 0 low ∙ get_or-drop (b * 1024) places r 0

  settle_bounded : (i : ℕ) → i < ring_slots → get_or places i 0 ≤ get_or settled_tops (i / 1024) 0
  settle_bounded i less = elim (cases_eq (i / 1024) b) [
    | inl same ↦ (
        let r = i - b * 1024 in
        let parts : i / 1024 * 1024 + i % 1024 ≡ i = div-add-mod' i 1024 in
        let low : r < 1024 = omega (arith, same) in
        let at : b * 1024 + r ≡ i = omega (arith, same) in
        let value : get_or numbers r 0 ≡ get_or places i 0 = at_block r low ∙ ap (λ k. get_or places k 0) at in
        let bound : get_or numbers r 0 ≤ top = greatest.bounded r (omega (arith, length-numbers, low)) in
        let new : get_or settled_tops (i / 1024) 0 ≡ top = ap (λ k. get_or settled_tops k 0) same ∙ settle_here in
        omega (arith, value, bound, new)
        )
    | inr apart ↦ omega (arith, maxima.bounded i less, get_or-set_other tops b (i / 1024) top 0 apart)
  ]

  settle_reached : (k : ℕ) → k < 1024 → IsReached places k (get_or settled_tops k 0)
  settle_reached k less = elim (cases_eq k b) [
    | inl same ↦ (
        let low : greatest.index < 1024 = omega (arith, greatest.inside, length-numbers) in
        let new : get_or settled_tops k 0 ≡ top = ap (λ x. get_or settled_tops x 0) same ∙ settle_here in
        record {
          place = b * 1024 + greatest.index;
          inside = omega (arith, low, maxima.stale_in b is);
          of_block = div-mul-add b 1024 greatest.index low ∙ sym same;
          holds = sym (at_block greatest.index low) ∙ greatest.holds ∙ sym new;
        }
        )
    | inr apart ↦ (
        let others : stale ≢ Some k = grind (arith, is) in
        let old = maxima.reached k less others in
        record {
          place = old.place;
          inside = old.inside;
          of_block = old.of_block;
          holds = old.holds ∙ sym (get_or-set_other tops b k top 0 apart);
        }
        )
  ]

  -- the stale block is read again
  pub topped-settle : AreBlockMaxima places settled_tops None
  topped-settle = record {
    places_are = maxima.places_are;
    tops_are = length-set tops b top ∙ maxima.tops_are;
    bounded = settle_bounded;
    reached = λ k less exact. settle_reached k less;
    stale_in = λ k e. absurd (none-some k e);
  }

-- all places and all blocks hold 0
pub topped-zeros : (places tops : List ℕ) → AreZeros places ring_slots → AreZeros tops 1024 → AreBlockMaxima places tops
    None
topped-zeros places tops empty none = record {
  places_are = empty.count_is;
  tops_are = none.count_is;
  bounded = λ i less. omega (arith, empty.each i, none.each (i / 1024));
  reached = λ b less exact. record {
    place = b * 1024;
    inside = omega (arith, less);
    of_block = omega arith;
    holds = empty.each (b * 1024) ∙ sym (none.each b);
  };
  stale_in = λ k e. absurd (none-some k e);
}
