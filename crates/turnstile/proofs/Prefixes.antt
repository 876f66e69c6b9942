-- Beginnings of one list, and what one maker has made in them.
use Rattle.std.proofs.Common.{◌≡◌, ◌≢◌, ℕ, ◌+◌, ◌≤◌, List, [], ◌∷◌, ◌++◌, length, refl, ap, sym, ◌∙◌, arith}
use Rattle.std.proofs.Common.{append_assoc, append-nil, true, false, Bool, if◌then◌else◌, ◌==◌, eq-eqb, ne_eqb}
use mathlib.Core.List.{IsPrefix, append_cancel_left}
use Rattle.admission.specs.declared.entries.Entry.{Entry}
use Rattle.admission.specs.Makers.{PlacedEntry, entries_by, made_from}

-- each list begins with itself
pub prefix_self : {A : Type 0} (xs : List A) → IsPrefix xs xs
prefix_self xs = ([], append-nil xs)

pub prefix_trans : {A : Type 0} (xs ys zs : List A) → IsPrefix xs ys → IsPrefix ys zs → IsPrefix xs zs
prefix_trans xs ys zs p q = (p.0 ++ q.0, sym (append_assoc xs p.0 q.0) ∙ (ap (λ w. w ++ q.0) p.1 ∙ q.1))

pub prefix_longer : {A : Type 0} (xs ys more : List A) → IsPrefix xs ys → IsPrefix xs (ys ++ more)
prefix_longer xs ys more p = prefix_trans xs ys (ys ++ more) p (more, refl)

-- of two beginnings of one list the shorter begins the longer
pub prefix_shorter : (xs ys zs : List Entry) → IsPrefix xs zs → IsPrefix ys zs → length xs ≤ length ys
    → IsPrefix xs ys
prefix_shorter [] ys zs p q le = (ys, refl)
prefix_shorter (x ∷ xs) [] zs p q le = absurd (omega arith)
prefix_shorter (x ∷ xs) (y ∷ ys) [] p q le = absurd (cc (p.1))
prefix_shorter (x ∷ xs) (y ∷ ys) (z ∷ zs) p q le =
    let heads : x ≡ y = cc (p.1, q.1) in
    let rest = prefix_shorter xs ys zs (p.0, cc (p.1)) (q.0, cc (q.1)) (omega arith) in
    (rest.0, cc (heads, rest.1))

made_put : (b : Bool) (m : PlacedEntry) (xs ys : List PlacedEntry)
    → (if b then (m ∷ xs) else xs) ++ ys ≡ (if b then (m ∷ (xs ++ ys)) else (xs ++ ys))
made_put true m xs ys = refl
made_put false m xs ys = refl

pub made_more : (maker place : ℕ) (xs ys : List Entry)
    → made_from place maker (xs ++ ys) ≡ made_from place maker xs ++ made_from (place + length xs) maker ys
made_more maker place [] ys = ap (λ (k : ℕ). made_from k maker ys) (omega arith)
made_more maker place (x ∷ xs) ys =
    let rest : made_from (place + 1) maker (xs ++ ys)
    ≡ made_from (place + 1) maker xs ++ made_from (place + length (x ∷ xs)) maker ys =
    made_more maker (place + 1) xs ys ∙ ap (λ (k : ℕ). made_from (place + 1) maker xs ++ made_from k maker ys)
    (omega arith) in
    ap (λ (zs : List PlacedEntry). if x.maker == maker then (record { place = place; entry = x } ∷ zs) else zs) rest
    ∙ sym (made_put (x.maker == maker) (record { place = place; entry = x }) (made_from (place + 1) maker xs)
    (made_from (place + length (x ∷ xs)) maker ys))

made_tail : (maker place : ℕ) (e : Entry) → e.maker ≢ maker → made_from place maker (e ∷ []) ≡ []
made_tail maker place e other =
    ap (λ (b : Bool). if b then (record { place = place; entry = e } ∷ []) else []) (ne_eqb e.maker maker other)

-- an entry of another leaves what a maker has made
pub made_other : (maker : ℕ) (log : List Entry) (e : Entry) → e.maker ≢ maker
    → entries_by maker (log ++ e ∷ []) ≡ entries_by maker log
made_other maker log e other =
    made_more maker 0 log (e ∷ [])
    ∙ (ap (λ (zs : List PlacedEntry). made_from 0 maker log ++ zs) (made_tail maker (0 + length log) e other)
    ∙ append-nil (entries_by maker log))

-- an entry of its own is the next
pub made_own : (maker : ℕ) (log : List Entry) (e : Entry) → e.maker ≡ maker
    → entries_by maker (log ++ e ∷ []) ≡ entries_by maker log ++ record { place = length log; entry = e } ∷ []
made_own maker log e own =
    let last : made_from (0 + length log) maker (e ∷ []) ≡ record { place = length log; entry = e } ∷ [] =
    ap (λ (b : Bool). if b then (record { place = 0 + length log; entry = e } ∷ []) else []) (eq-eqb e.maker maker own)
    ∙ ap (λ (k : ℕ). let m : PlacedEntry = record { place = k; entry = e } in m ∷ []) (omega arith) in
    made_more maker 0 log (e ∷ []) ∙ ap (λ (zs : List PlacedEntry). made_from 0 maker log ++ zs) last

nothing_first : {A : Type 0} (xs ys : List A) → xs ++ ys ≡ [] → xs ≡ []
nothing_first [] ys e = refl
nothing_first (x ∷ xs) ys e = absurd cc

-- who has made nothing has made nothing in a beginning
pub made_nothing : (maker : ℕ) (xs log : List Entry) → IsPrefix xs log → entries_by maker log ≡ [] → entries_by maker xs
    ≡ []
made_nothing maker xs log p none =
    nothing_first (entries_by maker xs) (made_from (0 + length xs) maker p.0)
    (sym (made_more maker 0 xs p.0) ∙ (ap (entries_by maker) p.1 ∙ none))

nothing_last : {A : Type 0} (xs ys : List A) → xs ++ ys ≡ [] → ys ≡ []
nothing_last [] ys e = e
nothing_last (x ∷ xs) ys e = absurd cc

-- two lists that were seen of a log, the first of them with all that this number made
pub record AreSeen (number : ℕ) (xs ys log : List Entry) : Type 0 where
  pub first : IsPrefix xs log
  pub second : IsPrefix ys log
  pub own : entries_by number xs ≡ entries_by number log

-- who has made as much at the end as at the beginning has made that much in between
pub made_between : (maker : ℕ) (xs : List Entry) {ys log : List Entry} → AreSeen maker xs ys log → IsPrefix xs ys
    → entries_by maker ys ≡ entries_by maker log
made_between maker xs {ys} {log} seen p =
    let a : List PlacedEntry = made_from (0 + length xs) maker p.0 in
    let b : List PlacedEntry = made_from (0 + length ys) maker seen.second.0 in
    let mid : entries_by maker ys ≡ entries_by maker xs ++ a = ap (entries_by maker) (sym p.1) ∙ made_more maker 0 xs
    p.0 in
    let end : entries_by maker log ≡ entries_by maker ys ++ b =
    ap (entries_by maker) (sym seen.second.1) ∙ made_more maker 0 ys seen.second.0 in
    let both : entries_by maker xs ++ (a ++ b) ≡ entries_by maker xs ++ [] =
    sym (append_assoc (entries_by maker xs) a b) ∙ (ap (λ (zs : List PlacedEntry). zs ++ b) (sym mid) ∙ (sym end ∙ (sym
    seen.own ∙ sym (append-nil (entries_by maker xs))))) in
    let none : b ≡ [] = nothing_last a b (append_cancel_left (entries_by maker xs) (a ++ b) [] both) in
    sym (end ∙ (ap (λ (zs : List PlacedEntry). entries_by maker ys ++ zs) none ∙ append-nil (entries_by maker ys)))
