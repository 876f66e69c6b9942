-- The packets of a unit that is laid out in its film.
use Rattle.std.proofs.Common.{◌≡◌, ℕ, ◌+◌, ◌-◌, ◌*◌, ◌≤◌, List, [], ◌∷◌, sum, refl, sym, ap, subst, ◌∙◌, arith}
use Rattle.rtp_pack.specs.declared.reports.TheConstants.{REPORT_BYTES}
use Rattle.rtp_pack.specs.declared.sizes.TheConstants.{FRAME_HEAD_BYTES}
use Rattle.mpeg_scan.specs.declared.units.Unit.{Unit as PictureUnit}
use Rattle.rtp_pack.specs.declared.payloads.Packet.{Packet}
use Rattle.rtp_pack.specs.Packetization.{AreCutPoints, first_portion}
use Rattle.rtp_pack.specs.Packets.{ArePackets, AreInOrder, DoCover, IsLaid, frames_size, lengths_to, next_place}
use Rattle.rtp_pack.specs.Packets.{portion_packets, unit_lengths, unit_packets, unit_starts}
use Rattle.rtp_pack.specs.Sizes.{IsPacked, measure_from_headers, bytes_of, cuts_size, frames_of, measure_of, with_slice}
use Rattle.rtp_pack.specs.Sizes.{with_slices, Measure}
use Rattle.rtp_pack.proofs.CutPointLemmas.{AreSome, ends, packets-cut}
use Rattle.rtp_pack.proofs.SliceFlagLemmas.{first-right, flags}
use Rattle.rtp_pack.specs.Laws.{ArePortions}
use Rattle.rtp_pack.proofs.PacketizationLemmas.{portions-cover, sum-cons}
use Rattle.rtp_pack.proofs.SizeLemmas.{AreLong, begun-kept, keeps-slices, size-unit}

lengths-long : (starts : List ℕ) (at to : ℕ) → AreInOrder at starts to → AreLong (lengths_to to starts)
lengths-long [] at to order = tt
lengths-long (s ∷ starts) at to order =
    (omega (arith, order.0, order.1.0), lengths-long starts (next_place to starts) to order.1.1)

long-some : (slices : List ℕ) → AreLong slices → AreSome slices
long-some [] long = tt
long-some (n ∷ slices) long = (omega (arith, long.0), long-some slices long.1)

lengths-bytes : (starts : List ℕ) (at to : ℕ) (m : Measure) → AreInOrder at starts to
    → bytes_of (with_slices m (lengths_to to starts)) + at ≡ bytes_of m + to
lengths-bytes [] at to m order = omega (arith, order)
lengths-bytes (s ∷ starts) at to m order =
    let rest = lengths-bytes starts (next_place to starts) to (with_slice m (next_place to starts - s)) order.1.1 in
    omega (arith, rest, order.0, order.1.0)

frames-portions : (unit : PictureUnit) (starts : List ℕ) (cuts : List ℕ) (from : ℕ)
    → frames_size (portion_packets unit starts from cuts) ≡ cuts_size from cuts
frames-portions unit starts [] from = refl
frames-portions unit starts (cut ∷ cuts) from = ap (λ n. FRAME_HEAD_BYTES + (cut - from) + n)
    (frames-portions unit starts cuts cut)

pub packets-are : (starts : List ℕ) (unit : PictureUnit) → IsLaid starts unit
    → ArePackets starts unit (unit_packets starts unit)
packets-are starts unit laid =
    let f = first_portion unit.from unit.head_end in
    let packets = unit_packets starts unit in
    record {
      cuts = ends packets;
      cutting = packets-cut unit (unit_lengths starts unit) f (omega (arith, laid.head))
          (long-some (unit_lengths starts unit)
          (lengths-long (unit_starts starts unit) unit.head_end unit.to laid.in_order));
      portions = flags (first-right unit (unit_starts starts unit) laid.head laid.in_order)
          (record { order = laid.in_order; starts = λ x h. refl; ends = λ x h. refl });
    }

lengths-sum : (starts : List ℕ) (at to : ℕ) → AreInOrder at starts to → at + sum (lengths_to to starts) ≡ to
lengths-sum [] at to order = omega (arith, order)
lengths-sum (s ∷ starts) at to order =
    let rest = lengths-sum starts (next_place to starts) to order.1.1 in
    omega (arith, rest, order.0, order.1.0, sum-cons (next_place to starts - s) (lengths_to to starts))

portions-packets : (unit : PictureUnit) (starts cuts : List ℕ) (from to : ℕ) → ArePortions from cuts to
    → DoCover from (portion_packets unit starts from cuts) to
portions-packets unit starts [] from to portions = portions
portions-packets unit starts (cut ∷ cuts) from to portions =
    (refl, (portions.0, (portions.1.0, portions-packets unit starts cuts cut to portions.1.1)))

-- they cover the unit
pub packets-cover : (starts : List ℕ) (unit : PictureUnit) → IsLaid starts unit
    → DoCover unit.from (unit_packets starts unit) unit.to
packets-cover starts unit laid =
    let are = packets-are starts unit laid in
    let portions =
    portions-cover (unit_lengths starts unit) (first_portion unit.from unit.head_end) are.cuts
    (laid.head, laid.short) are.cutting in
    let whole : ArePortions unit.from are.cuts unit.to =
    subst (λ t. ArePortions unit.from are.cuts t)
    (lengths-sum (unit_starts starts unit) unit.head_end unit.to laid.in_order) portions in
    let P : List Packet → Type 0 = λ l. DoCover unit.from l unit.to in
    subst P (sym are.portions) (portions-packets unit (unit_starts starts unit) are.cuts unit.from unit.to whole)

-- what the frames of the unit take
pub packets-size : (starts : List ℕ) (unit : PictureUnit) → IsLaid starts unit
    → frames_size (unit_packets starts unit)
    ≡ frames_of (measure_of (unit.head_end - unit.from) (unit_lengths starts unit))
packets-size starts unit laid =
    let are = packets-are starts unit laid in
    let end : unit.from + (unit.head_end - unit.from) ≡ unit.head_end = omega (arith, laid.head) in
    let cutting : AreCutPoints unit.from (unit.from + (unit.head_end - unit.from)) (unit_lengths starts unit)
    are.cuts = rw end are.cutting in
    ap frames_size are.portions ∙ frames-portions unit (unit_starts starts unit) are.cuts unit.from
    ∙ sym (size-unit (unit.head_end - unit.from) (unit_lengths starts unit) unit.from are.cuts cutting)

pub packets-bound : (starts : List ℕ) (unit : PictureUnit) → IsLaid starts unit
    → frames_size (unit_packets starts unit) + REPORT_BYTES ≤ 2 * (unit.to - unit.from) + 112
packets-bound starts unit laid =
    let slices = unit_lengths starts unit in
    let headers = unit.head_end - unit.from in
    let kept = keeps-slices slices (measure_from_headers headers) (begun-kept headers (omega (arith, laid.head)))
    (lengths-long (unit_starts starts unit) unit.head_end unit.to laid.in_order) in
    let bytes =
    lengths-bytes (unit_starts starts unit) unit.head_end unit.to (measure_from_headers headers) laid.in_order in
    omega (arith, packets-size starts unit laid, kept.whole, bytes, laid.head)

pub packed : (starts : List ℕ) (unit : PictureUnit) (packets : List Packet) → IsLaid starts unit
    → packets ≡ unit_packets starts unit → IsPacked starts unit packets
packed starts unit packets laid list =
    subst (λ (l : List Packet). IsPacked starts unit l) (sym list)
    (record {
      list = refl;
      rules = packets-are starts unit laid;
      cover = packets-cover starts unit laid;
      size = packets-size starts unit laid;
      bound = packets-bound starts unit laid;
    })
