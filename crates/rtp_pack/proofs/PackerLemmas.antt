-- The packer's invariant: the packets so far, and those that the rest of the unit gives.
use Rattle.std.proofs.Common.{◌≡◌, ℕ, ◌+◌, ◌-◌, ◌<◌, ◌≤◌, List, [], ◌∷◌, ◌++◌, append_assoc, drop, length, get_or, refl}
use Rattle.std.proofs.Common.{sym, ap, subst, ◌∙◌, arith, drop-cons, add-one}
use Rattle.std.proofs.Math.ListN.{drop_of_length-le}
use Rattle.mpeg_scan.specs.declared.units.Unit.{Unit as PictureUnit}
use Rattle.rtp_pack.specs.declared.open_packet.OpenPacket.{OpenPacket}
use Rattle.rtp_pack.specs.declared.payloads.Packet.{Packet}
use Rattle.rtp_pack.specs.Packetization.{next_filling}
use Rattle.rtp_pack.specs.Packets.{AreInOrder, filling_packet, lengths_to, next_place, packets_from, slice_packets}

-- the slices from a place of the list on
pub from-place : (starts : List ℕ) (i : ℕ) → i < length starts → drop i starts ≡ get_or starts i 0 ∷ drop (i + 1) starts
from-place starts i less = rw (add-one, drop-cons starts i 0) refl

-- what the order of the slices says of the one at a place
pub record AtSlice (to : ℕ) (starts : List ℕ) (i at : ℕ) : Type 0 where
  pub least : at + 4 ≤ next_place to (drop (i + 1) starts)
  pub after : AreInOrder (next_place to (drop (i + 1) starts)) (drop (i + 1) starts) to
  pub lengths : lengths_to to (drop i starts)
      ≡ (next_place to (drop (i + 1) starts) - at) ∷ lengths_to to (drop (i + 1) starts)

pub at-slice : (to : ℕ) (starts : List ℕ) (i at : ℕ) → i < length starts → AreInOrder at (drop i starts) to
    → AtSlice to starts i at
at-slice to starts i at less order =
    let place = from-place starts i less in
    let first = subst (λ (rest : List ℕ). AreInOrder at rest to) place order in
    record {
      least = first.1.0;
      after = first.1.1;
      lengths = ap (λ (rest : List ℕ). lengths_to to rest) place
          ∙ ap (λ here. (next_place to (drop (i + 1) starts) - here) ∷ lengths_to to (drop (i + 1) starts)) first.0;
    }

-- before the slice at a place of the list: the portion that is being filled, and the packets that are out
pub record Packing : Type 0 where
  pub index : ℕ
  pub filling : OpenPacket
  pub out : List Packet

-- those packets, and those that are to come
abbrev pub all_packets : PictureUnit → List ℕ → Packing → List Packet
all_packets unit starts p = p.out ++ packets_from unit p.filling (lengths_to unit.to (drop p.index starts))

abbrev pub InOrder : PictureUnit → List ℕ → Packing → Type 0
InOrder unit starts p = AreInOrder p.filling.at (drop p.index starts) unit.to

-- a slice, its end, and what is left after it
pub record SliceEnds (unit : PictureUnit) (starts : List ℕ) (old new : Packing) : Type 0 where
  pub end : ℕ
  pub less : old.index < length starts
  pub at_end : end ≡ next_place unit.to (drop (old.index + 1) starts)
  pub at_index : new.index ≡ old.index + 1
  pub at_next : new.filling ≡ next_filling old.filling (end - old.filling.at)
  pub more : new.out ≡ old.out ++ slice_packets unit old.filling (end - old.filling.at)

pub record SliceOut (unit : PictureUnit) (starts : List ℕ) (old new : Packing) : Type 0 where
  pub in_order : InOrder unit starts new
  pub packets : all_packets unit starts new ≡ all_packets unit starts old

-- once its packets are out, those of the slices after it follow
pub put-slice : {unit : PictureUnit} {starts : List ℕ} {old new : Packing} → InOrder unit starts old
    → SliceEnds unit starts old new → SliceOut unit starts old new
put-slice {unit} {starts} {old} {new} in_order ends =
    let f = old.filling in
    let n = ends.end - f.at in
    let here = at-slice unit.to starts old.index f.at ends.less in_order in
    let at_end : new.filling.at ≡ f.at + n = ap (λ (g : OpenPacket). g.at) ends.at_next in
    let there : next_place unit.to (drop (old.index + 1) starts) ≡ new.filling.at =
    omega (arith, here.least, ends.at_end, at_end) in
    let rest = lengths_to unit.to (drop (old.index + 1) starts) in
    let lengths : lengths_to unit.to (drop old.index starts) ≡ n ∷ rest =
    here.lengths ∙ ap (λ e. (e - f.at) ∷ rest) (sym ends.at_end) in
    record {
      in_order = subst (λ i. AreInOrder new.filling.at (drop i starts) unit.to) (sym ends.at_index)
          (subst (λ at. AreInOrder at (drop (old.index + 1) starts) unit.to) there here.after);
      packets = ap (λ (o : List Packet). o ++ packets_from unit new.filling
          (lengths_to unit.to (drop new.index starts)))
          ends.more
          ∙ ap (λ i. (old.out ++ slice_packets unit f n)
          ++ packets_from unit new.filling (lengths_to unit.to (drop i starts))) ends.at_index
          ∙ ap (λ (g : OpenPacket). (old.out ++ slice_packets unit f n) ++ packets_from unit g rest) ends.at_next
          ∙ append_assoc old.out (slice_packets unit f n) (packets_from unit (next_filling f n) rest)
          ∙ sym (ap (λ (l : List ℕ). old.out ++ packets_from unit f l) lengths);
    }

-- after the last slice the portion that is being filled is the last packet
pub put-last : (unit : PictureUnit) (starts : List ℕ) (p : Packing) → length starts ≤ p.index
    → p.out ++ filling_packet unit p.filling ∷ [] ≡ all_packets unit starts p
put-last unit starts p past =
    ap (λ (l : List ℕ). p.out ++ packets_from unit p.filling (lengths_to unit.to l))
    (sym (drop_of_length-le starts past))
