-- A list that is kept rotation: slot t at place t modulo its length.
use Rattle.std.proofs.Common.{◌≡◌, ◌≢◌, ◌<◌, ◌≤◌, ◌+◌, ◌-◌, ◌*◌, ◌/◌, ◌%◌, ℕ, Option, List, length, get_or, take}
use Rattle.std.proofs.Common.{drop, set, arith, sym, ap, ◌∙◌, inl, inr}
use Rattle.std.proofs.Math.Nat.{lt_of_mul-lt-mul_right}
use Rattle.std.proofs.lemmas.Nat.{div-add-mod', mod-mul-add, mod_below, field_of}
use Rattle.std.proofs.lemmas.Bool.{cases_lt, cases_eq}
use Rattle.std.proofs.lemmas.List.{length-set, get_or-set_same, get_or-set_other, length-drop, length-take-le}
use Rattle.std.proofs.lemmas.List.{length-append, get_or_append_left}
use Rattle.std.proofs.lemmas.List.{get_or-append_right, get_or-drop, get_or-take, get_or_past}
use Rattle.slot_calendar.specs.Rings.{AreBlockMaxima, IsEmptyFrom, rotation, slots_of_ring}
use Rattle.slot_calendar.specs.declared.ring.Ring.TheInside.{Inside}
use Rattle.slot_calendar.specs.Totals.{ring_slots, total_at}

-- a remainder, from a quotient
pub mod-is : (x n q r : ℕ) → x ≡ q * n + r → r < n → x % n ≡ r
mod-is x n q r is less = ap (λ y. y % n) is ∙ mod-mul-add q n r less

pub length-rotation : (xs : List ℕ) (h : ℕ) → h ≤ length xs → length (rotation h xs) ≡ length xs
length-rotation xs h within =
    omega (arith, length-append (drop h xs) (take h xs), length-drop h xs, length-take-le h xs within)

-- the places of a ring
pub record HasPlaces (xs : List ℕ) : Type 0 where
  pub length_is : length xs ≡ ring_slots

-- the places in the order of their slots, from slot `first` on
abbrev pub in_order : ℕ → List ℕ → List ℕ
in_order first xs = rotation (first % ring_slots) xs

-- a slot of the round of a ring's slots that begins at slot `first`
pub record IsInTurn (first t : ℕ) : Type 0 where
  pub from : first ≤ t
  pub inside : t < first + ring_slots

-- the element of slot t
rotation-at : {xs : List ℕ} (first k : ℕ) → HasPlaces xs → k < ring_slots
    → get_or (in_order first xs) k 0 ≡ get_or xs ((first + k) % ring_slots) 0
rotation-at {xs} first k places inside =
    let h = first % ring_slots in
    let below : h < ring_slots = mod_below first ring_slots (omega arith) in
    let whole : first / ring_slots * ring_slots + h ≡ first = div-add-mod' first ring_slots in
    let front : length (drop h xs) ≡ ring_slots - h = length-drop h xs ∙ ap (λ l. l - h) places.length_is in
    elim (cases_lt k (ring_slots - h)) [
      | inl less ↦ (
          let here : (first + k) % ring_slots ≡ h + k =
          grind (arith, mod-is (first + k) ring_slots (first / ring_slots) (h + k) (omega arith) (omega arith)) in
          get_or_append_left (drop h xs) (take h xs) 0 k (omega (arith, front)) ∙ get_or-drop h xs k 0
          ∙ ap (λ i. get_or xs i 0) (sym here)
          )
      | inr more ↦ (
          let here : (first + k) % ring_slots ≡ k - (ring_slots - h) =
          mod-is (first + k) ring_slots (first / ring_slots + 1) (k - (ring_slots - h)) (omega arith) (omega arith) in
          get_or-append_right (drop h xs) (take h xs) (ring_slots - h) k 0 front more
          ∙ get_or-take h xs (k - (ring_slots - h)) 0 (omega arith) ∙ ap (λ i. get_or xs i 0) (sym here)
          )
    ]

pub total-in : {xs : List ℕ} {first t : ℕ} → HasPlaces xs → IsInTurn first t
    → total_at first (in_order first xs) t ≡ get_or xs (t % ring_slots) 0
total-in {xs} {first} {t} places turn =
    let at : first + (t - first) ≡ t = omega (arith, turn.from) in
    rotation-at first (t - first) places (omega (arith, turn.from, turn.inside))
    ∙ ap (λ u. get_or xs (u % ring_slots) 0) at

pub total-past : {xs : List ℕ} (first t : ℕ) → HasPlaces xs → first + ring_slots ≤ t
    → total_at first (in_order first xs) t ≡ 0
total-past {xs} first t places past =
    let below : first % ring_slots < ring_slots = mod_below first ring_slots (omega arith) in
    get_or_past (in_order first xs) (t - first) 0
    (let long = length-rotation xs (first % ring_slots) (omega (arith, places.length_is, below)) in
    omega (arith, long, places.length_is, past))

-- two slots of one turn have two places
pub places-apart : {first s t : ℕ} → IsInTurn first s → IsInTurn first t → s % ring_slots ≡ t % ring_slots → s ≡ t
places-apart {s} {t} s_in t_in same =
    let whole_s : s / ring_slots * ring_slots + s % ring_slots ≡ s = div-add-mod' s ring_slots in
    let whole_t : t / ring_slots * ring_slots + t % ring_slots ≡ t = div-add-mod' t ring_slots in
    let less_s : s / ring_slots * ring_slots < (t / ring_slots + 1) * ring_slots = grind arith in
    let less_t : t / ring_slots * ring_slots < (s / ring_slots + 1) * ring_slots = grind arith in
    let s_le : s / ring_slots < t / ring_slots + 1 = lt_of_mul-lt-mul_right ring_slots less_s in
    let t_le : t / ring_slots < s / ring_slots + 1 = lt_of_mul-lt-mul_right ring_slots less_t in
    let level : s / ring_slots ≡ t / ring_slots = omega (arith, s_le, t_le) in
    sym whole_s ∙ ap (λ q. q * ring_slots + s % ring_slots) level
    ∙ ap (λ r. t / ring_slots * ring_slots + r) same ∙ whole_t

-- the block of a slot's place
pub block-of : (t : ℕ) → t % ring_slots / 1024 ≡ t / 1024 % 1024
block-of t = field_of t 10 10

-- the slots up to the next multiple of 1,024 are of one block
pub same-block : (slot t : ℕ) → slot ≤ t → t < slot + (1024 - slot % 1024) → t / 1024 ≡ slot / 1024
same-block slot t from inside = omega (arith, from, inside)

-- ---- a place that is written
set-places : {xs : List ℕ} (k v : ℕ) → HasPlaces xs → HasPlaces (set xs k v)
set-places {xs} k v places = record { length_is = length-set xs k v ∙ places.length_is }

module _ {xs : List ℕ} {first slot : ℕ} (v : ℕ) (places : HasPlaces xs) (turn : IsInTurn first slot) where
  -- the places as the slot's own is written
  abbrev written : List ℕ
  written = set xs (slot % ring_slots) v

  pub set-here : total_at first (in_order first written) slot ≡ v
  set-here =
      let below : slot % ring_slots < ring_slots = mod_below slot ring_slots (omega arith) in
      total-in (set-places (slot % ring_slots) v places) turn
      ∙ get_or-set_same xs (slot % ring_slots) v 0 (omega (arith, below, places.length_is))

  pub set-there : {t : ℕ} → first ≤ t → t ≢ slot
      → total_at first (in_order first written) t ≡ total_at first (in_order first xs) t
  set-there {t} since other =
      let after = set-places (slot % ring_slots) v places in
      elim (cases_lt t (first + ring_slots)) [
        | inl in_ring ↦ (
            let its : IsInTurn first t = record { from = since; inside = in_ring } in
            let apart : t % ring_slots ≢ slot % ring_slots = λ e. other (places-apart its turn e) in
            total-in after its ∙ get_or-set_other xs (slot % ring_slots) (t % ring_slots) v 0 apart
            ∙ sym (total-in places its)
            )
        | inr past ↦ total-past first t after past ∙ sym (total-past first t places past)
      ]

-- the first slot is forgotten where it holds nothing
pub total-next : {xs : List ℕ} (first t : ℕ) → HasPlaces xs
    → total_at first (in_order first xs) first ≡ 0 → first + 1 ≤ t
    → total_at (first + 1) (in_order (first + 1) xs) t ≡ total_at first (in_order first xs) t
total-next {xs} first t places none since =
    elim (cases_lt t (first + ring_slots)) [
      | inl inside ↦ total-in {first = first + 1} places (record { from = since; inside = omega arith })
          ∙ sym (total-in {first = first} places (record { from = omega arith; inside = inside }))
      | inr past ↦ elim (cases_eq t (first + ring_slots)) [
        | inl is ↦ (
            let same : t % ring_slots ≡ first % ring_slots =
            ap (λ u. u % ring_slots) is
            ∙ mod-is (first + ring_slots) ring_slots (first / ring_slots + 1) (first % ring_slots)
            (omega (arith, div-add-mod' first ring_slots))
            (mod_below first ring_slots (omega arith)) in
            total-in {first = first + 1} places (record { from = since; inside = omega (arith, is) })
            ∙ ap (λ i. get_or xs i 0) same
            ∙ sym (total-in {first = first} {t = first} places (record { from = omega arith; inside = omega arith }))
            ∙ none
            ∙ sym (total-past first t places past)
            )
        | inr other ↦ total-past (first + 1) t places (more first ring_slots t past other)
            ∙ sym (total-past first t places past)
      ]
    ]
  where
    more : (a b u : ℕ) → a + b ≤ u → u ≢ a + b → a + 1 + b ≤ u
    more a b u least other = omega arith

-- all places are 0 where no slot of the round has bytes
pub empty-places : {xs : List ℕ} (first : ℕ) → HasPlaces xs
    → ((t : ℕ) → first ≤ t → total_at first (in_order first xs) t ≡ 0) → (i : ℕ) → get_or xs i 0 ≡ 0
empty-places {xs} first places empty i =
    let h = first % ring_slots in
    let below : h < ring_slots = mod_below first ring_slots (omega arith) in
    let whole : first / ring_slots * ring_slots + h ≡ first = div-add-mod' first ring_slots in
    elim (cases_lt i ring_slots) [
      | inl inside ↦ elim (cases_lt i h) [
        | inl before ↦ at (first + (i + ring_slots - h)) (first / ring_slots + 1)
            (omega (arith, whole, before, below)) inside (omega arith) (omega (arith, before, below))
        | inr from ↦ at (first + (i - h)) (first / ring_slots) (omega (arith, whole, from)) inside (omega arith)
            (omega (arith, from, inside))
      ]
      | inr past ↦ get_or_past xs i 0 (omega (arith, places.length_is, past))
    ]
  where
    at : (slot q : ℕ) → slot ≡ q * ring_slots + i → i < ring_slots → first ≤ slot
        → slot < first + ring_slots → get_or xs i 0 ≡ 0
    at slot q is inside from late =
        ap (λ k. get_or xs k 0) (sym (mod-is slot ring_slots q i is inside))
        ∙ sym (total-in {first = first} {t = slot} places (record { from = from; inside = late })) ∙ empty slot from

-- nothing is booked where all places are 0
pub total-zero : {xs : List ℕ} (first t : ℕ) → HasPlaces xs → ((i : ℕ) → get_or xs i 0 ≡ 0) → first ≤ t
    → total_at first (in_order first xs) t ≡ 0
total-zero {xs} first t places zeros from =
    elim (cases_lt t (first + ring_slots)) [
      | inl inside ↦ total-in {first = first} places (record { from = from; inside = inside }) ∙ zeros (t % ring_slots)
      | inr past ↦ total-past first t places past
    ]

-- no total of the slots of a block is above the bound of its places
pub total-bounded : {xs tops : List ℕ} {stale : Option ℕ} {first slot t : ℕ} → AreBlockMaxima xs tops stale →
    first ≤ slot → slot ≤ t → t / 1024 ≡ slot / 1024 →
    total_at first (in_order first xs) t ≤ get_or tops (slot % ring_slots / 1024) 0
total-bounded {xs} {tops} {first} {slot} {t} topped from since same =
    let places : HasPlaces xs = record { length_is = topped.places_are } in
    elim (cases_lt t (first + ring_slots)) [
      | inl inside ↦ (
          let here = total-in {first = first} places (record { from = omega arith; inside = inside }) in
          let bound = topped.bounded (t % ring_slots) (mod_below t ring_slots (omega arith)) in
          let block : t % ring_slots / 1024 ≡ slot % ring_slots / 1024 = cc (block-of t, block-of slot) in
          let top : get_or tops (t % ring_slots / 1024) 0 ≡ get_or tops (slot % ring_slots / 1024) 0 = cc in
          omega (arith, here, bound, top)
          )
      | inr past ↦ (let none = total-past first t places past in omega (arith, none))
    ]

pub total-zeros : {xs : List ℕ} (first t : ℕ) → HasPlaces xs → ((i : ℕ) → get_or xs i 0 ≡ 0)
    → total_at first (in_order first xs) t ≡ 0
total-zeros {xs} first t places zeros =
    elim (cases_lt t first) [
      | inl before ↦ (
          let same : t - first ≡ first - first = omega arith in
          ap (λ k. get_or (in_order first xs) k 0) same ∙ total-zero first first places zeros (omega arith)
          )
      | inr from ↦ total-zero first t places zeros from
    ]

-- a ring that is empty from its first slot on is empty from each other one on
pub jumped-zeros : (d : Inside) → HasPlaces d.places.items → IsEmptyFrom (slots_of_ring d) d.first → (first t : ℕ)
    → total_at first (in_order first d.places.items) t ≡ 0
jumped-zeros d places empty first t =
    total-zeros first t places (empty-places d.first places (λ u from. empty u from from))
