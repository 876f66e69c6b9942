-- What the rules for cutting come to, in a reader's words.
use Rattle.std.proofs.Common.{◌≡◌, ℕ, zero, suc, ◌+◌, ◌*◌, ◌<◌, ◌≤◌, Bool, true, false, cond, eqb, leb, List, [], ◌∷◌}
use Rattle.std.proofs.Common.{◌++◌, sum, refl, sym, ap, subst, ◌∙◌, arith, inl, inr}
use Rattle.std.proofs.lemmas.Bool.{both_ways, eq-eqb, le-leb, lt-leb, or_left, or_right}
use Rattle.std.proofs.lemmas.List.Sums.{sum_by-cons}
use Rattle.rtp_pack.specs.declared.open_packet.TheConstants.{MAX_PAYLOAD_BYTES}
use Rattle.rtp_pack.specs.declared.open_packet.OpenPacket.{OpenPacket}
use Rattle.rtp_pack.specs.declared.open_packet.PacketContents.{PacketContents}
use Rattle.rtp_pack.specs.declared.open_packet.PacketContents.TheVariants.{Slices, LastFragment}
use Rattle.rtp_pack.specs.Packetization.{Cuts, filling_after, full_ends, goes_in, goes_in_cut}
use Rattle.rtp_pack.specs.Packetization.{goes_in_whole, holds_after}
use Rattle.rtp_pack.specs.Laws.{ArePortions, AreShortUncut, DoLongEndPortions, IsUncut}
use Rattle.rtp_pack.specs.Packets.{is_among}
use Rattle.rtp_pack.proofs.SliceFlagLemmas.{FullBefore, none-full, start-room}

-- ---- portions

pub sum-cons : (n : ℕ) (slices : List ℕ) → sum (n ∷ slices) ≡ n + sum slices
sum-cons n slices = sum_by-cons (λ x. x) n slices

-- a portion that is being filled is no larger than a payload
abbrev pub Fit : OpenPacket → Type 0
Fit f = (f.from < f.at) × (f.at ≤ f.from + MAX_PAYLOAD_BYTES)

full-cover : (start count : ℕ) (rest : List ℕ) (to : ℕ) → ArePortions (start + MAX_PAYLOAD_BYTES * count) rest to
    → ArePortions start (full_ends start count ++ rest) to
full-cover start zero rest to portions = subst (λ s. ArePortions s rest to) (omega arith) portions
full-cover start (suc count) rest to portions = (
  omega arith,
  (
    omega arith,
    full-cover (start + MAX_PAYLOAD_BYTES) count rest to (subst (λ s. ArePortions s rest to) (omega arith) portions),
  ),
)

pub portions-cover : (slices : List ℕ) (f : OpenPacket) (cuts : List ℕ) → Fit f → Cuts f slices cuts
    → ArePortions f.from cuts (f.at + sum slices)
portions-cover [] f cuts fit e =
    let P : List ℕ → Type 0 = λ l. ArePortions f.from l (f.at + 0) in subst P (sym e) (fit.0, (fit.1, omega arith))
portions-cover (n ∷ slices) f cuts fit (inl x) =
    let rest =
    portions-cover slices (filling_after f n (f.from + MAX_PAYLOAD_BYTES * x.1.full)) x.1.rest
    (x.1.before, x.1.within) x.1.goes_on in
    let P : List ℕ → Type 0 = λ l. ArePortions f.from l (f.at + sum (n ∷ slices)) in
    subst P (sym x.1.filled)
    (full-cover f.from x.1.full x.1.rest (f.at + sum (n ∷ slices))
    (subst (λ t. ArePortions (f.from + MAX_PAYLOAD_BYTES * x.1.full) x.1.rest t)
    (omega (arith, sum-cons n slices)) rest))
portions-cover (n ∷ slices) f cuts fit (inr x) =
    let fills = x.1.1.1 in
    let rest = portions-cover slices (filling_after f n (f.at + MAX_PAYLOAD_BYTES * fills.full)) fills.rest
    (fills.before, fills.within) fills.goes_on in
    let P : List ℕ → Type 0 = λ l. ArePortions f.from l (f.at + sum (n ∷ slices)) in
    let Q : List ℕ → Type 0 = λ l. ArePortions f.at l (f.at + sum (n ∷ slices)) in
    subst P (sym x.1.1.0) (
      fit.0,
      (
        fit.1,
        subst Q (sym fills.filled)
            (full-cover f.at fills.full fills.rest (f.at + sum (n ∷ slices))
            (subst (λ t. ArePortions (f.at + MAX_PAYLOAD_BYTES * fills.full) fills.rest t)
            (omega (arith, sum-cons n slices)) rest)),
      ),
    )

-- ---- what is never cut

-- all cuts lie at a place or after it
abbrev pub AreFrom : ℕ → List ℕ → Type 0
AreFrom place [] = Unit {0}
AreFrom place (cut ∷ cuts) = (place ≤ cut) × AreFrom place cuts

from-more : (a b : ℕ) (cuts : List ℕ) → a ≤ b → AreFrom b cuts → AreFrom a cuts
from-more a b [] less after = tt
from-more a b (cut ∷ cuts) less after = (omega (arith, less, after.0), from-more a b cuts less after.1)

from-full : (place start count : ℕ) (rest : List ℕ) → (0 < count → place ≤ start + MAX_PAYLOAD_BYTES)
    → AreFrom place rest
    → AreFrom place (full_ends start count ++ rest)
from-full place start zero rest less after = after
from-full place start (suc count) rest less after = (
  less (omega arith),
  from-full place (start + MAX_PAYLOAD_BYTES) count rest
      (λ some. omega (arith, less (omega arith))) after,
)

uncut-from : (from to : ℕ) (cuts : List ℕ) → AreFrom to cuts → IsUncut from to cuts
uncut-from from to [] after = tt
uncut-from from to (cut ∷ cuts) after = (inr after.0, uncut-from from to cuts after.1)

pub cuts-from : (slices : List ℕ) (f : OpenPacket) (cuts : List ℕ) → f.from ≤ f.at → Cuts f slices cuts → AreFrom f.at
    cuts
cuts-from [] f cuts order e = let P : List ℕ → Type 0 = λ l. AreFrom f.at l in subst P (sym e) (omega arith, tt)
cuts-from (n ∷ slices) f cuts order (inl x) =
    let rest =
    cuts-from slices (filling_after f n (f.from + MAX_PAYLOAD_BYTES * x.1.full)) x.1.rest
    (omega (arith, x.1.before)) x.1.goes_on in
    let full : FullBefore true f n x.1.full = record { goes_is = x.0; before = x.1.before } in
    let P : List ℕ → Type 0 = λ l. AreFrom f.at l in
    subst P (sym x.1.filled)
    (from-full f.at f.from x.1.full x.1.rest (λ some. omega (arith, start-room full some))
    (from-more f.at (f.at + n) x.1.rest (omega arith) rest))
cuts-from (n ∷ slices) f cuts order (inr x) =
    let fills = x.1.1.1 in
    let rest = cuts-from slices (filling_after f n (f.at + MAX_PAYLOAD_BYTES * fills.full)) fills.rest
    (omega (arith, fills.before)) fills.goes_on in
    let P : List ℕ → Type 0 = λ l. AreFrom f.at l in
    subst P (sym x.1.1.0) (
      omega arith,
      subst P (sym fills.filled)
          (from-full f.at f.at fills.full fills.rest (λ some. omega arith)
          (from-more f.at (f.at + n) fills.rest (omega arith) rest)),
    )

pub headers-uncut : (from headers_end : ℕ) (cuts : List ℕ) → AreFrom headers_end cuts → IsUncut from headers_end cuts
headers-uncut from headers_end cuts after = uncut-from from headers_end cuts after

-- a cut before the slices cuts none of them
short-more : (slices : List ℕ) (at cut : ℕ) (cuts : List ℕ) → cut ≤ at → AreShortUncut at slices cuts
    → AreShortUncut at slices (cut ∷ cuts)
short-more [] at cut cuts less uncut = tt
short-more (n ∷ slices) at cut cuts less uncut =
    (λ short. (inl less, uncut.0 short), short-more slices (at + n) cut cuts (omega (arith, less)) uncut.1)

short-full : (at : ℕ) (cuts slices : List ℕ) (start count : ℕ)
    → (start + MAX_PAYLOAD_BYTES * count ≤ at) × AreShortUncut at slices cuts
    → AreShortUncut at slices (full_ends start count ++ cuts)
short-full at cuts slices start zero known = known.1
short-full at cuts slices start (suc count) known =
    let less = known.0 in
    short-more slices at (start + MAX_PAYLOAD_BYTES) (full_ends (start + MAX_PAYLOAD_BYTES) count ++ cuts)
    (omega (arith, less))
    (short-full at cuts slices (start + MAX_PAYLOAD_BYTES) count (omega (arith, less), known.1))

-- a short slice ends in the portion in which it begins
pub short-uncut : (slices : List ℕ) (f : OpenPacket) (cuts : List ℕ) → f.from ≤ f.at → Cuts f slices cuts
    → AreShortUncut f.at slices cuts
short-uncut [] f cuts order e = tt
short-uncut (n ∷ slices) f cuts order (inl x) =
    let g = filling_after f n (f.from + MAX_PAYLOAD_BYTES * x.1.full) in
    let rest = short-uncut slices g x.1.rest (omega (arith, x.1.before)) x.1.goes_on in
    let after = cuts-from slices g x.1.rest (omega (arith, x.1.before)) x.1.goes_on in
    let full : FullBefore true f n x.1.full = record { goes_is = x.0; before = x.1.before } in
    let P : List ℕ → Type 0 = λ l. AreShortUncut f.at (n ∷ slices) l in
    subst P (sym x.1.filled) (
      λ short.
          subst (λ k. IsUncut f.at (f.at + n) (full_ends f.from k ++ x.1.rest))
          (sym (none-full (le-leb n MAX_PAYLOAD_BYTES short) full)) (uncut-from f.at (f.at + n) x.1.rest after),
      short-full _ _ slices f.from x.1.full (omega (arith, x.1.before), rest),
    )
short-uncut (n ∷ slices) f cuts order (inr x) =
    let fills = x.1.1.1 in
    let g = filling_after f n (f.at + MAX_PAYLOAD_BYTES * fills.full) in
    let rest = short-uncut slices g fills.rest (omega (arith, fills.before)) fills.goes_on in
    let after = cuts-from slices g fills.rest (omega (arith, fills.before)) fills.goes_on in
    let full : FullBefore false f n fills.full = record { goes_is = x.0; before = fills.before } in
    let P : List ℕ → Type 0 = λ l. AreShortUncut f.at (n ∷ slices) l in
    let Q : List ℕ → Type 0 = λ l. AreShortUncut f.at (n ∷ slices) (f.at ∷ l) in
    subst P (sym x.1.1.0) (subst Q (sym fills.filled) (
      λ short. (
        inl (omega arith),
        subst (λ k. IsUncut f.at (f.at + n) (full_ends f.at k ++ fills.rest))
            (sym (none-full (le-leb n MAX_PAYLOAD_BYTES short) full)) (uncut-from f.at (f.at + n) fills.rest after),
      ),
      short-more slices (f.at + n) f.at (full_ends f.at fills.full ++ fills.rest) (omega arith)
          (short-full _ _ slices f.at fills.full (omega (arith, fills.before), rest)),
    ))

-- ---- the last fragment ends its portion

pub among-full : (x start count : ℕ) (cuts : List ℕ) → is_among x cuts ≡ true
    → is_among x (full_ends start count ++ cuts) ≡ true
among-full x start zero cuts is = is
among-full x start (suc count) cuts is =
    or_right (eqb x (start + MAX_PAYLOAD_BYTES)) (is_among x (full_ends (start + MAX_PAYLOAD_BYTES) count ++ cuts))
    (among-full x (start + MAX_PAYLOAD_BYTES) count cuts is)

long-more : (slices : List ℕ) (at cut : ℕ) (cuts : List ℕ) → DoLongEndPortions at slices cuts
    → DoLongEndPortions at slices (cut ∷ cuts)
long-more [] at cut cuts ends = tt
long-more (n ∷ slices) at cut cuts ends = (
  λ long. or_right (eqb (at + n) cut) (is_among (at + n) cuts) (ends.0 long),
  long-more slices (at + n) cut cuts ends.1,
)

long-full : (slices : List ℕ) (at start count : ℕ) (cuts : List ℕ) → DoLongEndPortions at slices cuts
    → DoLongEndPortions at slices (full_ends start count ++ cuts)
long-full slices at start zero cuts ends = ends
long-full slices at start (suc count) cuts ends =
    long-more slices at (start + MAX_PAYLOAD_BYTES) (full_ends (start + MAX_PAYLOAD_BYTES) count ++ cuts)
    (long-full slices at (start + MAX_PAYLOAD_BYTES) count cuts ends)

-- no slice goes after a last fragment
none-after : (from at n : ℕ) (short : Bool)
    → cond short (goes_in_whole from at LastFragment n) (goes_in_cut from at LastFragment) ≡ false
none-after from at n true = refl
none-after from at n false = refl

goes-not : (f : OpenPacket) (n : ℕ) → f.holds ≡ LastFragment → goes_in f n ≡ false
goes-not f n last =
    ap (λ (h : PacketContents). cond (leb n MAX_PAYLOAD_BYTES) (goes_in_whole f.from f.at h n)
    (goes_in_cut f.from f.at h)) last
    ∙ none-after f.from f.at n (leb n MAX_PAYLOAD_BYTES)

fragment-ends : (slices : List ℕ) (f : OpenPacket) (cuts : List ℕ) → f.holds ≡ LastFragment → Cuts f slices cuts
    → is_among f.at cuts ≡ true
fragment-ends [] f cuts last e =
    ap (λ (l : List ℕ). is_among f.at l) e ∙ or_left (eqb f.at f.at) false (eq-eqb f.at f.at refl)
fragment-ends (n ∷ slices) f cuts last (inl x) = absurd (both_ways (goes_in f n) (goes-not f n last) x.0)
fragment-ends (n ∷ slices) f cuts last (inr x) =
    ap (λ (l : List ℕ). is_among f.at l) x.1.1.0 ∙ or_left (eqb f.at f.at) (is_among f.at x.1.0) (eq-eqb f.at f.at refl)

leb-not : (n : ℕ) → MAX_PAYLOAD_BYTES < n → leb n MAX_PAYLOAD_BYTES ≡ false
leb-not n long = lt-leb n MAX_PAYLOAD_BYTES long

held-last : (n : ℕ) → MAX_PAYLOAD_BYTES < n → holds_after n ≡ LastFragment
held-last n long = ap (λ b. cond b Slices LastFragment) (leb-not n long)

pub long-ends : (slices : List ℕ) (f : OpenPacket) (cuts : List ℕ) → Cuts f slices cuts
    → DoLongEndPortions f.at slices cuts
long-ends [] f cuts e = tt
long-ends (n ∷ slices) f cuts (inl x) =
    let g = filling_after f n (f.from + MAX_PAYLOAD_BYTES * x.1.full) in
    let P : List ℕ → Type 0 = λ l. DoLongEndPortions f.at (n ∷ slices) l in
    subst P (sym x.1.filled) (
      λ long. among-full (f.at + n) f.from x.1.full x.1.rest
          (fragment-ends slices g x.1.rest (held-last n long) x.1.goes_on),
      long-full slices (f.at + n) f.from x.1.full x.1.rest (long-ends slices g x.1.rest x.1.goes_on),
    )
long-ends (n ∷ slices) f cuts (inr x) =
    let fills = x.1.1.1 in
    let g = filling_after f n (f.at + MAX_PAYLOAD_BYTES * fills.full) in
    let P : List ℕ → Type 0 = λ l. DoLongEndPortions f.at (n ∷ slices) l in
    let Q : List ℕ → Type 0 = λ l. DoLongEndPortions f.at (n ∷ slices) (f.at ∷ l) in
    subst P (sym x.1.1.0) (subst Q (sym fills.filled) (
      λ long. or_right (eqb (f.at + n) f.at) (is_among (f.at + n) (full_ends f.at fills.full ++ fills.rest))
          (among-full (f.at + n) f.at fills.full fills.rest
          (fragment-ends slices g fills.rest (held-last n long) fills.goes_on)),
      long-more slices (f.at + n) f.at (full_ends f.at fills.full ++ fills.rest)
          (long-full slices (f.at + n) f.at fills.full fills.rest (long-ends slices g fills.rest fills.goes_on)),
    ))
