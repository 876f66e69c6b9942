-- One more start at which a plan does not fit; and a plan has one answer.
use Rattle.std.proofs.Common.{◌≡◌, ℕ, ◌+◌, ◌-◌, ◌<◌, ◌≤◌, List, [], ◌∷◌, ◌++◌, Option, Some, None, length, get_or}
use Rattle.std.proofs.Common.{refl, sym, ◌∙◌, ap, subst, arith, inl, inr}
use Rattle.std.proofs.lemmas.Bool.{cases_lt, cases_order}
use Rattle.std.proofs.lemmas.List.{get_or_append_left, get_or-append_right, length-append, same_lists}
use Rattle.plan_cert.specs.declared.Segment.{Segment}
use Rattle.slot_calendar.specs.Calendars.{IsFirstOverflow}
use Rattle.slot_calendar.specs.declared.calendar.Overflow.{Overflow}
use Rattle.slot_calendar.proofs.FirstOverflow.{no-room, overflow-once}
use Rattle.early_start.specs.StartSearch.{AreRefusals, CanStart, IsOffer, IsRefusal, IsStart, Offers}
use Rattle.early_start.specs.declared.Tried.{Tried}

-- a plan that may start from `first` on, where the slots from `from` on have these booked bytes and
-- capacities
pub record Request : Type 0 where
  pub from : ℕ
  pub booked : ℕ → ℕ
  pub capacity : ℕ → ℕ
  pub segments : List Segment
  pub first : ℕ

abbrev pub request : ℕ → (ℕ → ℕ) → (ℕ → ℕ) → List Segment → ℕ → Request
request from booked capacity segments first =
    record { from = from; booked = booked; capacity = capacity; segments = segments; first = first }

abbrev pub IsRefused : Request → Tried → Type 0
IsRefused r t = IsRefusal r.from r.booked r.capacity r.segments t

abbrev pub AreRefused : Request → List Tried → Type 0
AreRefused r xs = AreRefusals r.from r.booked r.capacity r.segments r.first xs

abbrev pub IsOfferFor : Request → Offers → Type 0
IsOfferFor r found = IsOffer r.from r.booked r.capacity r.segments r.first found

-- what the start that was found is, after so many that were tried
abbrev pub IsStartFor : Request → ℕ → ℕ → Option ℕ → Type 0
IsStartFor r wait tried start = IsStart (CanStart r.from r.booked r.capacity r.segments) r.first wait tried start

pub refusals_more : (r : Request) {xs : List Tried} {t : Tried} → AreRefused r xs → t.start ≡ r.first + length xs
    → IsRefused r t → AreRefused r (xs ++ t ∷ [])
refusals_more r {xs} {t} all start refusal = record {
  starts = λ i none below. elim (cases_order i (length xs)) [
    | inl same ↦ ap (λ (x : Tried). x.start) (at_end i none same) ∙ start ∙ ap (λ n. r.first + n) (sym same)
    | inr (inl less) ↦ ap (λ (x : Tried). x.start) (get_or_append_left xs (t ∷ []) none i less) ∙ all.starts i none less
    | inr (inr more) ↦ omega (arith, more, below, length-append xs (t ∷ []))
  ];
  refused = λ i none below. elim (cases_order i (length xs)) [
    | inl same ↦ subst (IsRefused r) (sym (at_end i none same)) refusal
    | inr (inl less) ↦
        subst (IsRefused r) (sym (get_or_append_left xs (t ∷ []) none i less)) (all.refused i none less)
    | inr (inr more) ↦ let bad : ⊥ = omega (arith, more, below, length-append xs (t ∷ [])) in absurd bad
  ];
}
  where
    at_end : (i : ℕ) (none : Tried) → i ≡ length xs → get_or (xs ++ t ∷ []) i none ≡ t
    at_end i none same =
        get_or-append_right xs (t ∷ []) i i none (sym same) (omega arith)
        ∙ (let zero : i - i ≡ 0 = omega arith in ap (λ n. get_or (t ∷ []) n none) zero)

refusal_once : (r : Request) {a b : Tried} → IsRefused r a → IsRefused r b → a.start ≡ b.start → a ≡ b
refusal_once r {a} {b} x y start =
    let P : ℕ → Type 0 = λ n. IsFirstOverflow r.from r.booked r.capacity n r.segments a.over in
    let over : a.over ≡ b.over = overflow-once (subst P start x) y in
    let S : ℕ → Tried = λ n. record { start = n; over = a.over } in
    let O : Overflow → Tried = λ o. record { start = b.start; over = o } in
    ap S start ∙ ap O over

no_overflow : Overflow
no_overflow = record { slot = 0; booked = 0; asked = 0 }

no_start : Tried
no_start = record { start = 0; over = no_overflow }

-- the plan fits at no start that was tried
pub no_room_tried : {from : ℕ} {booked capacity : ℕ
    → ℕ} {segments : List Segment} {first : ℕ} {tried : List Tried} {start : ℕ}
    → AreRefusals from booked capacity segments first tried → first ≤ start → start < first + length tried
    → CanStart from booked capacity segments start → ⊥
no_room_tried {from} {booked} {capacity} {segments} {first} {tried} {start} all begun before room =
    let i = start - first in
    let inside : i < length tried = omega (arith, begun, before) in
    let same : start ≡ first + i = omega (arith, begun) in
    let t = get_or tried i no_start in
    no-room (all.refused i no_start inside)
    (subst (CanStart from booked capacity segments) (same ∙ sym (all.starts i no_start inside)) room)

-- the start after those that were tried is no refusal
nothing_next : (r : Request) {a b : Offers} → IsOfferFor r a → IsOfferFor r b → length a.tried ≤ a.wait
    → length a.tried < length b.tried → ⊥
nothing_next r {a} {b} x y few less = by-start a.start x.start
  where
    by-start : (o : Option ℕ) → IsStartFor r a.wait (length a.tried) o → ⊥
    by-start None is = omega (arith, is, few)
    by-start (Some s) is =
        no-room (y.refusals.refused (length a.tried) no_start less)
        (subst (CanStart r.from r.booked r.capacity r.segments)
        (is.1 ∙ sym (y.refusals.starts (length a.tried) no_start less)) is.2)

few_tried : (r : Request) {found : Offers} → IsOfferFor r found → length found.tried ≤ found.wait + 1
few_tried r {found} offer = few found.start offer.start
  where
    few : (start : Option ℕ) → IsStartFor r found.wait (length found.tried) start → length found.tried ≤ found.wait + 1
    few None is = omega (arith, is)
    few (Some s) is = omega (arith, is.0)

-- none tries fewer
not_fewer : (r : Request) {a b : Offers} → a.wait ≡ b.wait → IsOfferFor r a → IsOfferFor r b
    → length b.tried ≤ length a.tried
not_fewer r {a} {b} wait x y = elim (cases_lt (length a.tried) (length b.tried)) [
  | inl less ↦ absurd (nothing_next r x y (omega (arith, wait, less, few_tried r y)) less)
  | inr more ↦ more
]

as_many : (r : Request) {a b : Offers} → a.wait ≡ b.wait → IsOfferFor r a → IsOfferFor r b
    → length a.tried ≡ length b.tried
as_many r wait x y = omega (arith, not_fewer r wait x y, not_fewer r (sym wait) y x)

pub same_start : {from : ℕ} {booked capacity : ℕ → ℕ} {segments : List Segment} {first : ℕ} {a b : Offers}
    → a.wait ≡ b.wait → IsOffer from booked capacity segments first a → IsOffer from booked capacity segments first b
    → a.start ≡ b.start
same_start {from} {booked} {capacity} {segments} {first} {a} {b} wait x y =
    let many = as_many r wait x y in
    once a.start b.start
    (subst (λ (k : ℕ × ℕ). IsStartFor r k.0 k.1 a.start) (λ i. (wait i, many i)) x.start) y.start
  where
    r : Request
    r = request from booked capacity segments first

    once : (one other : Option ℕ) → IsStartFor r b.wait (length b.tried) one
        → IsStartFor r b.wait (length b.tried) other → one ≡ other
    once None None p q = refl
    once None (Some t) p q = let bad : ⊥ = omega (arith, p, q.0) in absurd bad
    once (Some t) None p q = let bad : ⊥ = omega (arith, q, p.0) in absurd bad
    once (Some t) (Some u) p q = ap (λ k. Some k) (p.1 ∙ sym q.1)

pub same_tried : {from : ℕ} {booked capacity : ℕ → ℕ} {segments : List Segment} {first : ℕ} {a b : Offers}
    → a.wait ≡ b.wait → IsOffer from booked capacity segments first a → IsOffer from booked capacity segments first b
    → a.tried ≡ b.tried
same_tried {from} {booked} {capacity} {segments} {first} {a} {b} wait x y =
    same_lists a.tried b.tried many (λ k none below.
    let below' : k < length b.tried = omega (arith, many, below) in
    refusal_once r (x.refusals.refused k none below) (y.refusals.refused k none below')
    (x.refusals.starts k none below ∙ sym (y.refusals.starts k none below')))
  where
    r : Request
    r = request from booked capacity segments first

    many : length a.tried ≡ length b.tried
    many = as_many r wait x y

-- a start that was tried, with its first slot without room
pub refusal-at : (r : Request) {found : Offers} (i : ℕ) (none : Tried) → IsOfferFor r found → i < length found.tried
    → IsFirstOverflow r.from r.booked r.capacity (r.first + i) r.segments (get_or found.tried i none).over
refusal-at r {found} i none offer inside =
    let P : ℕ → Type 0 =
    λ n. IsFirstOverflow r.from r.booked r.capacity n r.segments (get_or found.tried i none).over in
    subst P (offer.refusals.starts i none inside) (offer.refusals.refused i none inside)

-- the start that was found, by its value
pub start_as : (r : Request) {found : Offers} {start : Option ℕ} → IsOfferFor r found → found.start ≡ start
    → IsStartFor r found.wait (length found.tried) start
start_as r {found} is same = subst (IsStartFor r found.wait (length found.tried)) same is.start
