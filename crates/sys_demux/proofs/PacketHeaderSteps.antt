-- One byte of the header of a packet's content.
use Rattle.std.proofs.Common.{◌≡◌, ℕ, ◌-◌, ◌≤◌, ◌⊎◌, ◌==◌, false, zero, suc, List, ◌∷◌, length}
use Rattle.std.proofs.Common.{Option, Some, None, MatchOption, refl, ◌∙◌, arith, inl, inr, ne_eqb}
use Rattle.std.proofs.lemmas.Bool.{cond-false}
use Rattle.sys_demux.specs.PacketContents.{from_stuffing, from_size}

stuffing_none : (most byte : ℕ) (rest : List ℕ) → most ≡ 0 → from_stuffing most (byte ∷ rest) ≡ from_size (byte ∷ rest)
stuffing_none zero byte rest e = refl
stuffing_none (suc most) byte rest e = absurd (omega (arith, e))

pub stuffing_other : (most byte : ℕ) (rest : List ℕ) → (byte == 255) ≡ false
    → from_stuffing most (byte ∷ rest) ≡ from_size (byte ∷ rest)
stuffing_other zero byte rest e = refl
stuffing_other (suc most) byte rest e = cond-false (byte == 255) (from_stuffing most rest) (from_size (byte ∷ rest)) e

-- a byte that ends the stuffing
pub stuffing_ends : (count byte : ℕ) (rest : List ℕ) → ((byte ≡ 255 → ⊥) ⊎ (16 ≤ count))
    → from_stuffing (16 - count) (byte ∷ rest) ≡ from_size (byte ∷ rest)
stuffing_ends count byte rest (inl other) = stuffing_other (16 - count) byte rest (ne_eqb byte 255 other)
stuffing_ends count byte rest (inr many) = stuffing_none (16 - count) byte rest (omega (arith, many))

-- the same of what is stated of each rest
pub says_same : {X : Type 0} {f g : List ℕ → Option (List ℕ)} (left : ℕ) (least : X → ℕ)
    (from : X → List ℕ → Option (List ℕ)) (o : Option X) → ((rest : List ℕ) → f rest ≡ g rest) →
    MatchOption o ((rest : List ℕ) → length rest ≡ left → g rest ≡ None)
    (λ next. (least next ≤ left) × ((rest : List ℕ) → length rest ≡ left → g rest ≡ from next rest)) →
    MatchOption o ((rest : List ℕ) → length rest ≡ left → f rest ≡ None)
    (λ next. (least next ≤ left) × ((rest : List ℕ) → length rest ≡ left → f rest ≡ from next rest))
says_same left least from None same h = λ rest long. same rest ∙ h rest long
says_same left least from (Some next) same h = (h.0, λ rest long. same rest ∙ h.1 rest long)
