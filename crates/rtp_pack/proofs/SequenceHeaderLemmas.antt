-- Only a unit's first packet has S.
use Rattle.std.proofs.Common.{◌≡◌, ◌≢◌, ℕ, ◌<◌, ◌&&◌, ◌==◌, Bool, true, false, List, [], ◌∷◌, sym, subst, ap, refl, ◌∙◌}
use Rattle.std.proofs.Common.{arith}
use Rattle.std.proofs.lemmas.Bool.{ne_eqb}
use Rattle.mpeg_scan.specs.declared.units.Unit.{Unit as PictureUnit}
use Rattle.rtp_pack.specs.declared.payloads.Packet.{Packet}
use Rattle.rtp_pack.specs.Packets.{ArePackets, DoCover, portion_packets, unit_starts}
use Rattle.rtp_pack.specs.Laws.{HaveNoSequenceHeader, OnlyFirstHasSequenceHeader}

and_false : (b : Bool) → (b && false) ≡ false
and_false true = refl
and_false false = refl

and_same : (b : Bool) (n : ℕ) → (b && (n == n)) ≡ b
and_same true n = grind arith
and_same false n = refl

-- a packet that begins later in the unit has no S
later_none : (unit : PictureUnit) (starts : List ℕ) (from : ℕ) (cuts : List ℕ) → unit.from < from
    → DoCover from (portion_packets unit starts from cuts) unit.to
    → HaveNoSequenceHeader (portion_packets unit starts from cuts)
later_none unit starts from [] past cover = tt
later_none unit starts from (cut ∷ cuts) past cover =
    let other : from ≢ unit.from = λ same. omega (arith, same, past) in (
      ap (λ b. unit.has_sequence && b) (ne_eqb from unit.from other) ∙ and_false unit.has_sequence,
      later_none unit starts cut cuts (omega (arith, past, cover.1.0)) cover.1.1.1,
    )

portions_flagged : (unit : PictureUnit) (starts cuts : List ℕ)
    → DoCover unit.from (portion_packets unit starts unit.from cuts) unit.to
    → OnlyFirstHasSequenceHeader unit.has_sequence (portion_packets unit starts unit.from cuts)
portions_flagged unit starts [] cover = tt
portions_flagged unit starts (cut ∷ cuts) cover =
    (and_same unit.has_sequence unit.from, later_none unit starts cut cuts cover.1.0 cover.1.1.1)

pub first-flagged : (slice_starts : List ℕ) (unit : PictureUnit) (packets : List Packet)
    → ArePackets slice_starts unit packets → DoCover unit.from packets unit.to
    → OnlyFirstHasSequenceHeader unit.has_sequence packets
first-flagged slice_starts unit packets are cover =
    let starts = unit_starts slice_starts unit in
    let P : List Packet → Type 0 = λ l. DoCover unit.from l unit.to in
    subst (OnlyFirstHasSequenceHeader unit.has_sequence) (sym are.portions)
    (portions_flagged unit starts are.cuts (subst P are.portions cover))
