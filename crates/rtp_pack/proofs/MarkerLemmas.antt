-- Only a unit's last packet has the marker.
use Rattle.std.proofs.Common.{◌≢◌, ℕ, ◌<◌, ◌≤◌, List, [], ◌∷◌, sym, subst, arith}
use Rattle.std.proofs.lemmas.Bool.{eq-eqb, ne_eqb}
use Rattle.mpeg_scan.specs.declared.units.Unit.{Unit as PictureUnit}
use Rattle.rtp_pack.specs.declared.payloads.Packet.{Packet}
use Rattle.rtp_pack.specs.Packets.{ArePackets, DoCover, portion_packets, unit_starts}
use Rattle.rtp_pack.specs.Laws.{IsLastMarked}

-- packets cover bytes in their order
covers-some : (from : ℕ) (packets : List Packet) (to : ℕ) → DoCover from packets to → from ≤ to
covers-some from [] to same = omega (arith, same)
covers-some from (p ∷ packets) to cover = omega (arith, cover.1.0, covers-some p.to packets to cover.1.1.1)

portions-marked : (unit : PictureUnit) (starts : List ℕ) (from : ℕ) (cuts : List ℕ)
    → DoCover from (portion_packets unit starts from cuts) unit.to
    → IsLastMarked (portion_packets unit starts from cuts)
portions-marked unit starts from [] cover = tt
portions-marked unit starts from (cut ∷ []) cover = eq-eqb cut unit.to cover.1.1.1
portions-marked unit starts from (cut ∷ (next ∷ cuts)) cover =
    let rest = cover.1.1.1 in
    let before : cut < unit.to =
    omega (arith, rest.1.0, covers-some next (portion_packets unit starts next cuts) unit.to rest.1.1.1) in
    let other : cut ≢ unit.to = λ same. omega (arith, same, before) in
    (ne_eqb cut unit.to other, portions-marked unit starts cut (next ∷ cuts) rest)

pub last-marked : (slice_starts : List ℕ) (unit : PictureUnit) (packets : List Packet)
    → ArePackets slice_starts unit packets → DoCover unit.from packets unit.to → IsLastMarked packets
last-marked slice_starts unit packets are cover =
    let starts = unit_starts slice_starts unit in
    let P : List Packet → Type 0 = λ l. DoCover unit.from l unit.to in
    subst IsLastMarked (sym are.portions) (portions-marked unit starts unit.from are.cuts (subst P are.portions cover))
