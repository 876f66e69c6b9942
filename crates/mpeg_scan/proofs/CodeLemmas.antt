-- What a byte more makes of the prefix at the end, of the latest header, and of the codes.
use Rattle.std.proofs.Common.{ℕ, Bool, true, false, cond, eqb, ltb, ◌&&◌, ◌+◌, ◌<◌, ◌≤◌, ◌≡◌, List}
use Rattle.std.proofs.Common.{[], ◌∷◌, ◌++◌, length, take, set, sym, ◌∙◌, ap, refl, arith}
use Rattle.std.proofs.lemmas.List.{take_more_set, length-take-le}
use Rattle.std.proofs.lemmas.Bool.{false≢true, eqb-true, lt-ltb, le-ltb}
use Rattle.mpeg_scan.specs.declared.codes.Prefix.TheVariants.{Nothing, Zero, Zeros, Whole}
use Rattle.mpeg_scan.specs.HeaderBytes.{header_with}
use Rattle.mpeg_scan.specs.StartCodes.{byte_back, latest_prefix, after_one, after_zero, next_prefix}

-- p1, p0: the byte is 1, 0; a1, a0: so is the one before it; z1, z2: the two before that are 0
table : {p1 p0 a1 a0 : Bool} (z1 z2 : Bool) → (p1 ≡ true → p0 ≡ false) → (a1 ≡ true → a0 ≡ false)
    → cond (p1 && (a0 && z1)) Whole (cond (p0 && a0) Zeros (cond p0 Zero Nothing))
    ≡ cond p1 (after_one (cond (a1 && (z1 && z2)) Whole (cond (a0 && z1) Zeros (cond a0 Zero Nothing))))
    (cond p0 (after_zero (cond (a1 && (z1 && z2)) Whole (cond (a0 && z1) Zeros (cond a0 Zero Nothing)))) Nothing)
table {p1 = true} {p0 = true} z1 z2 p a = absurd (false≢true (sym (p refl)))
table {p1 = true} {p0 = false} {a1 = true} {a0 = true} z1 z2 p a = absurd (false≢true (sym (a refl)))
table {p1 = true} {p0 = false} {a1 = true} {a0 = false} true true p a = refl
table {p1 = true} {p0 = false} {a1 = true} {a0 = false} true false p a = refl
table {p1 = true} {p0 = false} {a1 = true} {a0 = false} false z2 p a = refl
table {p1 = true} {p0 = false} {a1 = false} {a0 = true} true z2 p a = refl
table {p1 = true} {p0 = false} {a1 = false} {a0 = true} false z2 p a = refl
table {p1 = true} {p0 = false} {a1 = false} {a0 = false} z1 z2 p a = refl
table {p1 = false} {p0 = true} {a1 = true} {a0 = true} z1 z2 p a = absurd (false≢true (sym (a refl)))
table {p1 = false} {p0 = true} {a1 = true} {a0 = false} true true p a = refl
table {p1 = false} {p0 = true} {a1 = true} {a0 = false} true false p a = refl
table {p1 = false} {p0 = true} {a1 = true} {a0 = false} false z2 p a = refl
table {p1 = false} {p0 = true} {a1 = false} {a0 = true} true z2 p a = refl
table {p1 = false} {p0 = true} {a1 = false} {a0 = true} false z2 p a = refl
table {p1 = false} {p0 = true} {a1 = false} {a0 = false} z1 z2 p a = refl
table {p1 = false} {p0 = false} z1 z2 p a = refl

apart : (x : ℕ) → eqb x 1 ≡ true → eqb x 0 ≡ false
apart x e = ap (λ n. eqb n 0) (eqb-true x 1 e)

pub matched-more : (x : ℕ) (r : List ℕ) → latest_prefix (x ∷ r) ≡ next_prefix (latest_prefix r) x
unfolding latest_prefix
matched-more x r = table (eqb (byte_back r 1) 0) (eqb (byte_back r 2) 0) (apart x) (apart (byte_back r 0))

pub noted-by : (b : Bool) (header : List ℕ) (x : ℕ) → ltb (length header) 5 ≡ b
    → header_with header x ≡ cond b (header ++ x ∷ []) header
unfolding header_with
noted-by b header x e = ap (λ v. cond v (header ++ x ∷ []) header) e

-- a header with room, and a full one
pub noted-room : (bytes : List ℕ) (n x : ℕ) → n < 5 → length bytes ≡ 5
    → take (n + 1) (set bytes n x) ≡ header_with (take n bytes) x
noted-room bytes n x room five =
    let within : n < length bytes = omega arith in
    let held : n ≤ length bytes = omega arith in
    let some : ltb (length (take n bytes)) 5 ≡ true =
    lt-ltb (length (take n bytes)) 5 (omega (arith, length-take-le n bytes held)) in
    take_more_set bytes n x within ∙ sym (noted-by true (take n bytes) x some)

pub noted-full : (header : List ℕ) (x : ℕ) → 5 ≤ length header → header ≡ header_with header x
noted-full header x full = sym (noted-by false header x (le-ltb (length header) 5 full))
