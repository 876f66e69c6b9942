-- The rules for cutting leave one list, and the packets of a unit meet them.
use Rattle.std.proofs.Common.{◌≡◌, ℕ, zero, suc, ◌+◌, ◌*◌, ◌<◌, ◌≤◌, Bool, true, false, List, []}
use Rattle.std.proofs.Common.{◌∷◌, ◌++◌, refl, sym, ap, subst, ◌∙◌, arith, inl, inr}
use Rattle.std.proofs.lemmas.Bool.{both_ways}
use Rattle.rtp_pack.specs.declared.open_packet.TheConstants.{MAX_PAYLOAD_BYTES}
use Rattle.mpeg_scan.specs.declared.units.Unit.{Unit as PictureUnit}
use Rattle.rtp_pack.specs.declared.open_packet.OpenPacket.{OpenPacket}
use Rattle.rtp_pack.specs.declared.payloads.Packet.{Packet}
use Rattle.rtp_pack.specs.Packetization.{Begins, Cuts, Fills, filling_after, full_before, full_ends}
use Rattle.rtp_pack.specs.Packetization.{goes_in, last_start, next_filling, start_of}
use Rattle.rtp_pack.specs.Packets.{before_slice, full_packets, packets_from}

-- ---- one list

pub one-cutting : (slices : List ℕ) (f : OpenPacket) (a b : List ℕ) → Cuts f slices a → Cuts f slices b → a ≡ b
one-cutting [] f a b x y = x ∙ sym y
one-cutting (n ∷ slices) f a b x y = elim x [
  | inl p ↦ elim y [
    | inl q ↦ one-fill (λ last r s. one-cutting slices (filling_after f n last) r s) p.1 q.1
    | inr q ↦ absurd (both_ways (goes_in f n) q.0 p.0)
  ]
  | inr p ↦ elim y [
    | inl q ↦ absurd (both_ways (goes_in f n) p.0 q.0)
    | inr q ↦ p.1.1.0
        ∙ ap (λ (r : List ℕ). f.at ∷ r)
        (one-fill (λ last r s. one-cutting slices (filling_after f n last) r s) p.1.1.1 q.1.1.1)
        ∙ sym q.1.1.0
  ]
]
  where
    G : ℕ → List ℕ → Type 0
    G last rest = Cuts (filling_after f n last) slices rest

    one-fill : {start : ℕ} {a b : List ℕ} → ((last : ℕ) (r s : List ℕ) → G last r → G last s → r ≡ s)
        → Fills G start (f.at + n) a → Fills G start (f.at + n) b → a ≡ b
    one-fill {start} same x y =
        let full : x.full ≡ y.full = omega (arith, x.before, x.within, y.before, y.within) in
        let there = subst (λ k. G (start + MAX_PAYLOAD_BYTES * k) x.rest) full x.goes_on in
        let rest : x.rest ≡ y.rest = same (start + MAX_PAYLOAD_BYTES * y.full) x.rest y.rest there y.goes_on in
        x.filled ∙ ap (λ k. full_ends start k ++ x.rest) full ∙ ap (λ (r : List ℕ). full_ends start y.full ++ r) rest
        ∙ sym y.filled

-- ---- the packets' ends

-- slices have at least a byte each
abbrev pub AreSome : List ℕ → Type 0
AreSome [] = Unit {0}
AreSome (length ∷ slices) = (0 < length) × AreSome slices

-- where packets end
abbrev pub ends : List Packet → List ℕ
ends [] = []
ends (p ∷ packets) = p.to ∷ ends packets

pub ends-append : (a b : List Packet) → ends (a ++ b) ≡ ends a ++ ends b
ends-append [] b = refl
ends-append (p ∷ a) b = ap (λ (l : List ℕ). p.to ∷ l) (ends-append a b)

pub ends-full : (unit : PictureUnit) (begin : Bool) (start count : ℕ)
    → ends (full_packets unit begin start count) ≡ full_ends start count
ends-full unit begin start zero = refl
ends-full unit begin start (suc count) =
    ap (λ (l : List ℕ). (start + MAX_PAYLOAD_BYTES) ∷ l) (ends-full unit false (start + MAX_PAYLOAD_BYTES) count)

pub full_before-less : (start end : ℕ) → start < end → start + MAX_PAYLOAD_BYTES * full_before start end < end
full_before-less start end less = omega arith

pub full_before-within : (start end : ℕ) → start < end
    → end ≤ start + MAX_PAYLOAD_BYTES * full_before start end + MAX_PAYLOAD_BYTES
full_before-within start end less = omega arith

pub start-less : (f : OpenPacket) (n : ℕ) (goes : Bool) → f.from ≤ f.at → 0 < n → start_of goes f < f.at + n
start-less f n true order some = omega arith
start-less f n false order some = omega arith

pub next-order : (f : OpenPacket) (n : ℕ) → f.from ≤ f.at → 0 < n → (next_filling f n).from < (next_filling f n).at
next-order f n order some =
    full_before-less (start_of (goes_in f n) f) (f.at + n) (start-less f n (goes_in f n) order some)

-- the packets end where the rules say
pub packets-cut : (unit : PictureUnit) (slices : List ℕ) (f : OpenPacket) → f.from ≤ f.at → AreSome slices
    → Cuts f slices (ends (packets_from unit f slices))
packets-cut unit [] f order some = refl
packets-cut unit (n ∷ slices) f order some =
    begins (goes_in f n)
    (packets-cut unit slices (next_filling f n) (let next = next-order f n order some.0 in omega (arith, next)) some.1)
  where
    G : ℕ → List ℕ → Type 0
    G last rest = Cuts (filling_after f n last) slices rest

    after : List Packet
    after = packets_from unit (next_filling f n) slices

    fills : {start : ℕ} → start < f.at + n → G (last_start start (f.at + n)) (ends after)
        → Fills G start (f.at + n) (ends (full_packets unit true start (full_before start (f.at + n)) ++ after))
    fills {start} less goes_on = record {
      full = full_before start (f.at + n);
      rest = ends after;
      before = full_before-less start (f.at + n) less;
      within = full_before-within start (f.at + n) less;
      filled = ends-append (full_packets unit true start (full_before start (f.at + n))) after
          ∙ ap (λ (l : List ℕ). l ++ ends after) (ends-full unit true start (full_before start (f.at + n)));
      goes_on = goes_on;
    }

    begins : (goes : Bool) → G (last_start (start_of goes f) (f.at + n)) (ends after)
        → Begins (λ start left. Fills G start (f.at + n) left) goes f.from f.at
        (ends ((before_slice goes unit f
        ++ full_packets unit true (start_of goes f) (full_before (start_of goes f) (f.at + n))) ++ after))
    begins true goes_on = inl (refl, fills (omega (arith, order, some.0)) goes_on)
    begins false goes_on =
        inr (
          refl,
          (
            ends (full_packets unit true f.at (full_before f.at (f.at + n)) ++ after),
            (refl, fills (omega (arith, some.0)) goes_on),
          ),
        )
