-- The lines of the slots of a calendar.
use Rattle.std.proofs.Common.{ℕ, zero, suc, ◌+◌, ◌-◌, ◌<◌, ◌≤◌, ◌≡◌, nat_lt, Bool, true, false, cond, List, [], ◌∷◌}
use Rattle.std.proofs.Common.{◌++◌, flat_map, append-nil, sym, ap, refl, ◌∙◌, arith}
use Rattle.std.specs.List.{range_with_len}
use Rattle.std.proofs.lemmas.Bool.{lt-ltb, le-ltb}
use Rattle.std.proofs.lemmas.Grind.{flat_map-append}
use Rattle.std.proofs.lemmas.List.Elements.{filter-append}
use Rattle.report.specs.CalendarTexts.{booked_among, slot_line}

-- the lines of those of these slots in which bytes are booked
abbrev pub lines : (ℕ → ℕ) → List ℕ → List ℕ
lines bytes slots = flat_map (slot_line bytes) (booked_among bytes slots)

-- the line of a slot, if bytes are booked in it
abbrev pub line_at : (ℕ → ℕ) → ℕ → List ℕ
line_at bytes t = cond (nat_lt 0 (bytes t)) (slot_line bytes t) []

pub line_booked : (bytes : ℕ → ℕ) (t : ℕ) → 0 < bytes t → line_at bytes t ≡ slot_line bytes t
line_booked bytes t some = ap (λ b. cond b (slot_line bytes t) []) (lt-ltb 0 (bytes t) some)

pub line_free : (bytes : ℕ → ℕ) (t : ℕ) → bytes t ≤ 0 → line_at bytes t ≡ []
line_free bytes t none = ap (λ b. cond b (slot_line bytes t) []) (le-ltb 0 (bytes t) none)

pick : (f : ℕ → List ℕ) (b : Bool) (t : ℕ) (rest : List ℕ)
    → flat_map f (cond b (t ∷ rest) rest) ≡ cond b (f t) [] ++ flat_map f rest
pick f true t rest = refl
pick f false t rest = refl

pub lines_cons : (bytes : ℕ → ℕ) (t : ℕ) (rest : List ℕ) → lines bytes (t ∷ rest) ≡ line_at bytes t ++ lines bytes rest
lines_cons bytes t rest = pick (slot_line bytes) (nat_lt 0 (bytes t)) t (booked_among bytes rest)

lines_append : (bytes : ℕ → ℕ) (some more : List ℕ) → lines bytes (some ++ more) ≡ lines bytes some ++ lines bytes more
lines_append bytes some more =
    ap (flat_map (slot_line bytes)) (filter-append (λ t. nat_lt 0 (bytes t)) some more)
    ∙ flat_map-append (slot_line bytes) (booked_among bytes some) (booked_among bytes more)

range_split : (a k m : ℕ) → range_with_len a (k + m) ≡ range_with_len a k ++ range_with_len (a + k) m
range_split a zero m =
    let none : 0 + m ≡ m = omega arith in
    let here : a ≡ a + 0 = omega arith in
    ap (range_with_len a) none ∙ ap (λ s. range_with_len s m) here
range_split a (suc k) m =
    let count : suc k + m ≡ suc (k + m) = omega arith in
    let from : a + 1 + k ≡ a + suc k = omega arith in
    ap (range_with_len a) count ∙ ap (λ l. a ∷ l) (range_split (a + 1) k m)
    ∙ ap (λ s. a ∷ (range_with_len (a + 1) k ++ range_with_len s m)) from

-- the lines of the slots up to t, and then those from t on
lines_split : (bytes : ℕ → ℕ) (a k m t : ℕ) → t ≡ a + k →
    lines bytes (range_with_len a (k + suc m))
    ≡ lines bytes (range_with_len a k) ++ (line_at bytes t ++ lines bytes (range_with_len (t + 1) m))
lines_split bytes a k m t is =
    ap (lines bytes) (range_split a k (suc m) ∙ ap (λ s. range_with_len a k ++ range_with_len s (suc m)) (sym is))
    ∙ lines_append bytes (range_with_len a k) (t ∷ range_with_len (t + 1) m)
    ∙ ap (λ (l : List ℕ). lines bytes (range_with_len a k) ++ l) (lines_cons bytes t (range_with_len (t + 1) m))

-- one slot more
pub lines_more : {t : ℕ} (bytes : ℕ → ℕ) (a k : ℕ) → t ≡ a + k
    → lines bytes (range_with_len a (k + 1)) ≡ lines bytes (range_with_len a k) ++ line_at bytes t
lines_more {t} bytes a k is =
    let one : k + 1 ≡ k + suc 0 = omega arith in
    ap (λ m. lines bytes (range_with_len a m)) one ∙ lines_split bytes a k 0 t is
    ∙ ap (λ (l : List ℕ). lines bytes (range_with_len a k) ++ l) (append-nil (line_at bytes t))

-- slot t stands k slots after slot a, among the n slots from slot a on
pub record SlotAmong : Type 0 where
  pub a : ℕ
  pub n : ℕ
  pub k : ℕ
  pub t : ℕ
  pub is : t ≡ a + k
  pub inside : k < n

-- all slots, of which t is one in which bytes are booked
pub lines_around : (bytes : ℕ → ℕ) (among : SlotAmong) → 0 < bytes among.t
    → lines bytes (range_with_len among.a among.k)
    ++ (slot_line bytes among.t ++ lines bytes (range_with_len (among.t + 1) (among.n - (among.k + 1))))
    ≡ lines bytes (range_with_len among.a among.n)
lines_around bytes among some =
    let m = n - (k + 1) in
    let count : n ≡ k + suc m = omega (arith, inside) in
    sym (ap (λ i. lines bytes (range_with_len a i)) count ∙ lines_split bytes a k m t is
    ∙ ap (λ (l : List ℕ). lines bytes (range_with_len a k) ++ (l ++ lines bytes (range_with_len (t + 1) m)))
    (line_booked bytes t some))
  where
    open among use {a, n, k, t, is, inside}
