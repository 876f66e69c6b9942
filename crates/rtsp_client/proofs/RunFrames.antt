-- The frames of a film's units, as a client reads them: each from one source, the last of each unit
-- marked.
use Rattle.std.proofs.Common.{◌≡◌, ℕ, suc, ◌+◌, ◌*◌, ◌^◌, ◌<◌, ◌≤◌, Bool, true, false, nat_le, nat_lt, cond, List, []}
use Rattle.std.proofs.Common.{◌∷◌, ◌++◌, map, length, drop, is_ok, refl, sym, ap, subst, ◌∙◌, arith, inl, inr}
use Rattle.std.proofs.lemmas.Bool.{cond-false, cond-true, le-ltb}
use Rattle.std.proofs.lemmas.List.{length-append}
use Rattle.mpeg_scan.specs.declared.units.Unit.{Unit as PictureUnit}
use Rattle.mpeg_scan.specs.Layout.{AreLaid, IsLaid}
use Rattle.mpeg_scan.specs.PictureRates.{picture_time}
use Rattle.rtp_pack.specs.declared.heads.Head.{Head}
use Rattle.rtp_pack.specs.declared.payloads.Packet.{Packet}
use Rattle.rtp_pack.specs.Heads.{bit, head_at, head_bytes, head_of, packet_head}
use Rattle.rtp_pack.specs.Laws.{ForAllCutPoints, IsLastMarked, IsUncut}
use Rattle.rtp_pack.specs.declared.open_packet.OpenPacket.{OpenPacket}
use Rattle.rtp_pack.specs.Packetization.{first_portion, next_filling}
use Rattle.rtp_pack.specs.Packets.{DoCover, packets_from, portion_packet, portion_packets, slice_packets}
use Rattle.rtp_pack.specs.Packets.{unit_lengths, unit_packets, unit_starts}
use Rattle.rtp_pack.proofs.MarkerLemmas.{last-marked}
use Rattle.rtp_pack.proofs.UnitPacketLemmas.{packets-are, packets-cover}
use Rattle.film_frames.specs.Laws.{frames_among}
use Rattle.film_frames.specs.Pieces.{count_of, octets_of, pieces_of, unit_of}
use Rattle.film_frames.specs.FramedRuns.{FramedRun, blocks_from, interleaved_block, payload, piece_bytes}
use Rattle.film_frames.proofs.PieceLemmas.{pieces-cons}
use Rattle.rtsp_client.specs.ClientHistory.{is_last}

-- ---- the head of a frame

-- a frame of a source, with its marker
pub record IsRead (source : ℕ) (marker : Bool) (block : List ℕ) : Type 0 where
  pub is_read : is_ok (head_of (drop 4 block)) ≡ true
  pub source_is : (head_at (drop 4 block)).ssrc ≡ source
  pub last_is : is_last block ≡ marker

head-read : (channel : ℕ) (head : Head) (rest : List ℕ) → head.ssrc < 2 ^ 32
    → IsRead head.ssrc head.marker (interleaved_block channel (head_bytes head ++ rest))
head-read channel head rest small =
    record {
      is_read = read-by head rest refl (le-ltb (length (head_bytes head ++ rest)) 16 (omega arith));
      source_is = omega (arith, small);
      last_is = marked head.marker;
    }
  where
    marked : (m : Bool) → nat_le 128 (bit m * 128 + 32) ≡ m
    marked true = refl
    marked false = refl

    read-by : {m : Bool} (h : Head) (rest : List ℕ) → h.marker ≡ m
        → nat_lt (length (head_bytes h ++ rest)) 16 ≡ false → is_ok (head_of (head_bytes h ++ rest)) ≡ true
    read-by {m = true} h rest is long = cc
    read-by {m = false} h rest is long = cc

-- ---- frames of units

-- a frame of a source
pub record IsFrom (source : ℕ) (block : List ℕ) : Type 0 where
  pub is_read : is_ok (head_of (drop 4 block)) ≡ true
  pub source_is : (head_at (drop 4 block)).ssrc ≡ source

abbrev pub AllFrom : ℕ → List (List ℕ) → Type 0
AllFrom source [] = Unit {0}
AllFrom source (b ∷ bs) = IsFrom source b × AllFrom source bs

-- how many of them are the last of a unit
abbrev pub count_last : List (List ℕ) → ℕ
count_last [] = 0
count_last (b ∷ bs) = cond (is_last b) (suc (count_last bs)) (count_last bs)

-- the last of them is the last of a unit
abbrev pub EndsUnit : List (List ℕ) → Type 0
EndsUnit [] = Unit {0}
EndsUnit (b ∷ []) = is_last b ≡ true
EndsUnit (b ∷ (c ∷ bs)) = EndsUnit (c ∷ bs)

-- frames of a source, of so many complete units
pub record AreFrames (source units : ℕ) (frames : List (List ℕ)) : Type 0 where
  pub all : AllFrom source frames
  pub count : count_last frames ≡ units
  pub ends : EndsUnit frames

-- the pieces of a run: what their units are taken of
abbrev Domain : {A : Type 0} {B : Type 0} → (A → B) → Type 0
Domain {A} f = A

abbrev Part : Type 0
Part = Domain unit_of

-- what the frames of pieces are, whatever was sent before them
record SendFrames (run : FramedRun) (units : ℕ) (pieces : List Part) : Type 0 where
  sent : (f o : ℕ) → AreFrames run.identity.ssrc units (frames_among pieces (blocks_from run f o pieces))

-- pieces whose frames are those of so many units
record SentPieces (run : FramedRun) : Type 0 where
  units : ℕ
  pieces : List Part
  sends : SendFrames run units pieces

-- the block of a frame
abbrev frame_block : FramedRun → PictureUnit → Packet → ℕ → List ℕ
frame_block run unit p f =
    interleaved_block run.identity.channel
    (head_bytes (packet_head run.identity (picture_time run.rate) unit p f) ++ payload run.film p)

-- a unit of a run, with the pieces that its packets make, and a report that may stand before them
record UnitPieces : Type 0 where
  run : FramedRun
  unit : PictureUnit
  make : Packet → Part
  report : Part
  bytes : (p : Packet) (f o : ℕ) → piece_bytes run f o (make p) ≡ frame_block run unit p f
  among : (p : Packet) (ps : List Part) (b : List ℕ) (bs : List (List ℕ))
      → frames_among (make p ∷ ps) (b ∷ bs) ≡ b ∷ frames_among ps bs
  none : (ps : List Part) (b : List ℕ) (bs : List (List ℕ)) → frames_among (report ∷ ps) (b ∷ bs) ≡ frames_among ps bs

-- the pieces of packets of it
abbrev pieces_in : UnitPieces → List Packet → List Part
pieces_in u packets = cond u.unit.starts_group (u.report ∷ []) [] ++ map u.make packets

ends-last : (b : List ℕ) (bs : List (List ℕ)) → is_last b ≡ true → EndsUnit bs → EndsUnit (b ∷ bs)
ends-last b [] last ends = last
ends-last b (c ∷ bs) last ends = ends

ends-more : (b : List ℕ) (bs : List (List ℕ)) → 0 < count_last bs → EndsUnit bs → EndsUnit (b ∷ bs)
ends-more b [] some ends = absurd (omega (arith, some))
ends-more b (c ∷ bs) some ends = ends

with-frame : {source : ℕ} {marker : Bool} (block : List ℕ) → IsRead source marker block → IsFrom source block
with-frame block read = record { is_read = read.is_read; source_is = read.source_is }

-- the frames of a packet and of the pieces after it
one-frame : (u : UnitPieces) (p : Packet) (ps : List Part) (f o : ℕ)
    → frame_block u.run u.unit p f
    ∷ frames_among ps (blocks_from u.run (f + count_of (u.make p)) (o + octets_of (u.make p)) ps)
    ≡ frames_among (u.make p ∷ ps) (blocks_from u.run f o (u.make p ∷ ps))
one-frame u p ps f o =
    let tail = blocks_from u.run (f + count_of (u.make p)) (o + octets_of (u.make p)) ps in
    ap (λ (b : List ℕ). b ∷ frames_among ps tail) (sym (u.bytes p f o))
    ∙ sym (u.among p ps (piece_bytes u.run f o (u.make p)) tail)

-- a packet's frame before others: the last one of a unit, or one that goes on
last-frame : {source units : ℕ} {block : List ℕ} {tail : List (List ℕ)} → IsRead source true block
    → AreFrames source units tail → AreFrames source (suc units) (block ∷ tail)
last-frame {block = block} {tail} read more = record {
  all = (with-frame block read, more.all);
  count = cond-true (is_last block) (suc (count_last tail)) (count_last tail) read.last_is ∙ ap suc more.count;
  ends = ends-last block tail read.last_is more.ends;
}

open-frame : {source units : ℕ} {block : List ℕ} {tail : List (List ℕ)} → IsRead source false block
    → AreFrames source (suc units) tail → AreFrames source (suc units) (block ∷ tail)
open-frame {block = block} {tail} read more = record {
  all = (with-frame block read, more.all);
  count = cond-false (is_last block) (suc (count_last tail)) (count_last tail) read.last_is ∙ more.count;
  ends = ends-more block tail (omega (arith, more.count)) more.ends;
}

-- the frames of a unit's packets, and those of the pieces after them
unit-frames : (u : UnitPieces) (packets : List Packet) (rest : SentPieces u.run) → u.run.identity.ssrc < 2 ^ 32
    → IsLastMarked packets → 0 < length packets
    → SendFrames u.run (suc rest.units) (pieces_in u packets ++ rest.pieces)
unit-frames u packets rest small marked some = reported u.unit.starts_group (by-list packets marked some)
  where
    run : FramedRun
    run = u.run

    read : (p : Packet) (f : ℕ) → IsRead run.identity.ssrc p.marker (frame_block run u.unit p f)
    read p f = head-read run.identity.channel (packet_head run.identity (picture_time run.rate) u.unit p f)
        (payload run.film p) small

    by-list : (packets : List Packet) → IsLastMarked packets → 0 < length packets
        → SendFrames run (suc rest.units) (map u.make packets ++ rest.pieces)
    by-list [] marked some = absurd (omega (arith, some))
    by-list (p ∷ []) marked some = record {
      sent = λ f o.
          subst (λ (l : List (List ℕ)). AreFrames run.identity.ssrc (suc rest.units) l) (one-frame u p rest.pieces f o)
          (last-frame (subst (λ m. IsRead run.identity.ssrc m (frame_block run u.unit p f)) marked (read p f))
          (rest.sends.sent (f + count_of (u.make p)) (o + octets_of (u.make p))));
    }
    by-list (p ∷ (q ∷ packets)) marked some = record {
      sent = λ f o.
          subst (λ (l : List (List ℕ)). AreFrames run.identity.ssrc (suc rest.units) l)
          (one-frame u p (map u.make (q ∷ packets) ++ rest.pieces) f o)
          (open-frame (subst (λ m. IsRead run.identity.ssrc m (frame_block run u.unit p f)) marked.0 (read p f))
          ((by-list (q ∷ packets) marked.1 (omega arith)).sent (f + count_of (u.make p)) (o + octets_of (u.make p))));
    }

    reported : (starts : Bool) → SendFrames run (suc rest.units) (map u.make packets ++ rest.pieces)
        → SendFrames run (suc rest.units) ((cond starts (u.report ∷ []) [] ++ map u.make packets) ++ rest.pieces)
    reported true then = record {
      sent = λ f o.
          let ps = map u.make packets ++ rest.pieces in
          let tail = blocks_from run (f + count_of u.report) (o + octets_of u.report) ps in
          subst (λ (l : List (List ℕ)). AreFrames run.identity.ssrc (suc rest.units) l)
          (sym (u.none ps (piece_bytes run f o u.report) tail))
          (then.sent (f + count_of u.report) (o + octets_of u.report));
    }
    reported false then = then

packets-some : (unit : PictureUnit) (f : OpenPacket) (slices : List ℕ) → 0 < length (packets_from unit f slices)
packets-some unit f [] = omega arith
packets-some unit f (l ∷ slices) =
    omega (
      arith,
      length-append (slice_packets unit f l) (packets_from unit (next_filling f l) slices),
      packets-some unit (next_filling f l) slices,
    )

some-packets : (starts : List ℕ) (unit : PictureUnit) → 0 < length (unit_packets starts unit)
some-packets starts unit = packets-some unit (first_portion unit.from unit.head_end) (unit_lengths starts unit)

-- the frames of units, each laid out in its film
pub units-frames : (end : ℕ) (run : FramedRun) (starts : List ℕ) (units : List PictureUnit) → run.identity.ssrc < 2 ^ 32
    → AreLaid end starts units → AreFrames run.identity.ssrc (length units)
    (frames_among (pieces_of starts units) (blocks_from run 0 0 (pieces_of starts units)))
units-frames end run starts units small laid = (by-units units laid).sent 0 0
  where
    by-units : (units : List PictureUnit) → AreLaid end starts units
        → SendFrames run (length units) (pieces_of starts units)
    by-units [] laid = record { sent = λ f o. record { all = tt; count = refl; ends = tt } }
    by-units (unit ∷ units) laid =
        let packets = unit_packets starts unit in
        let marked = last-marked starts unit packets (packets-are starts unit laid.0.1)
        (packets-cover starts unit laid.0.1) in
        let rest = pieces_of starts units in
        subst (λ (l : List Part). SendFrames run (suc (length units)) l) (sym (pieces-cons starts unit units))
        (unit-frames (record {
          run = run;
          unit = unit;
          make = _;
          report = _;
          bytes = λ p g n. refl;
          among = λ p ps b bs. refl;
          none = λ ps b bs. refl;
        }) packets (record { units = length units; pieces = rest; sends = by-units units laid.1 })
        small marked (some-packets starts unit))

-- ---- the first frame

-- a list that a frame of a packet begins
pub record BeginsWith (run : FramedRun) (unit : PictureUnit) (packet : Packet) (frames : List (List ℕ)) : Type 0 where
  pub block : List ℕ
  pub more : List (List ℕ)
  pub are : frames ≡ block ∷ more
  pub payload_is : drop 20 block ≡ payload run.film packet

first-by : (u : UnitPieces) (packet : Packet) (starts : Bool) (frames rest : List Part)
    → BeginsWith u.run u.unit packet
    (frames_among ((cond starts (u.report ∷ []) [] ++ (u.make packet ∷ frames)) ++ rest)
    (blocks_from u.run 0 0 ((cond starts (u.report ∷ []) [] ++ (u.make packet ∷ frames)) ++ rest)))
first-by u packet true frames rest =
    let ps = u.make packet ∷ (frames ++ rest) in
    let f = 0 + count_of u.report in
    let o = 0 + octets_of u.report in
    record {
      block = frame_block u.run u.unit packet f;
      more = _;
      are = u.none ps (piece_bytes u.run 0 0 u.report) (blocks_from u.run f o ps)
          ∙ sym (one-frame u packet (frames ++ rest) f o);
      payload_is = refl;
    }
first-by u packet false frames rest = record {
  block = frame_block u.run u.unit packet 0;
  more = _;
  are = sym (one-frame u packet (frames ++ rest) 0 0);
  payload_is = refl;
}

-- a unit has a first packet
pub record HasPacket (starts : List ℕ) (unit : PictureUnit) : Type 0 where
  pub packet : Packet
  pub packets : List Packet
  pub are : unit_packets starts unit ≡ packet ∷ packets

pub has-packet : (starts : List ℕ) (unit : PictureUnit) → HasPacket starts unit
has-packet starts unit = by-list (unit_packets starts unit) refl (some-packets starts unit)
  where
    by-list : (packets : List Packet) → unit_packets starts unit ≡ packets → 0 < length packets
        → HasPacket starts unit
    by-list [] is some = absurd (omega (arith, some))
    by-list (p ∷ packets) is some = record { packet = p; packets = packets; are = is }

begins-unit : {starts : List ℕ} (u : UnitPieces) (there : HasPacket starts u.unit) (rest : List Part)
    → BeginsWith u.run u.unit there.packet (frames_among (pieces_in u (unit_packets starts u.unit) ++ rest)
    (blocks_from u.run 0 0 (pieces_in u (unit_packets starts u.unit) ++ rest)))
begins-unit u there rest =
    let Q : List Packet → Type 0 = λ ps. BeginsWith u.run u.unit there.packet
    (frames_among (pieces_in u ps ++ rest) (blocks_from u.run 0 0 (pieces_in u ps ++ rest))) in
    subst Q (sym there.are) (first-by u there.packet u.unit.starts_group (map u.make there.packets) rest)

pub first-frame : (run : FramedRun) (starts : List ℕ) (unit : PictureUnit) (units : List PictureUnit)
    (there : HasPacket starts unit)
    → BeginsWith run unit there.packet (frames_among (pieces_of starts (unit ∷ units))
    (blocks_from run 0 0 (pieces_of starts (unit ∷ units))))
first-frame run starts unit units there =
    let P : List Part → Type 0 = λ l. BeginsWith run unit there.packet (frames_among l (blocks_from run 0 0 l)) in
    subst P (sym (pieces-cons starts unit units))
    (begins-unit (record {
      run = run;
      unit = unit;
      make = _;
      report = _;
      bytes = λ p g n. refl;
      among = λ p ps b bs. refl;
      none = λ ps b bs. refl;
    }) there (pieces_of starts units))

-- the first packet of a unit goes as far as its head, or further, where no cut stands in a head
pub first-long : {starts : List ℕ} {unit : PictureUnit} (there : HasPacket starts unit)
    → ForAllCutPoints (λ from headers_end slices cuts. IsUncut from headers_end cuts)
    → IsLaid starts unit → (there.packet.from ≡ unit.from) × (unit.head_end ≤ there.packet.to)
first-long {starts} {unit} there uncut laid =
    let are = packets-are starts unit laid in
    let P : List Packet → Type 0 = λ l. DoCover unit.from l unit.to in
    let cover = subst P there.are (packets-cover starts unit laid) in
    let whole = uncut unit.from unit.head_end (unit_lengths starts unit) are.cuts laid.head laid.short are.cutting in
    by-cuts are.cuts whole (sym are.portions ∙ there.are) cover.1.0
  where
    open there use {packet, packets}

    by-cuts : (cuts : List ℕ) → IsUncut unit.from unit.head_end cuts
        → portion_packets unit (unit_starts starts unit) unit.from cuts ≡ packet ∷ packets → unit.from < packet.to
        → (packet.from ≡ unit.from) × (unit.head_end ≤ packet.to)
    by-cuts [] whole same some = cc
    by-cuts (cut ∷ cuts) whole same some =
        let first : portion_packet unit (unit_starts starts unit) unit.from cut ≡ packet = cc in
        let to : cut ≡ packet.to = ap (λ (p : Packet). p.to) first in (
          ap (λ (p : Packet). p.from) (sym first),
          elim whole.0 [ inl before ↦ absurd (omega (arith, before, to, some)) | inr after ↦ omega (arith, after, to) ],
        )

-- ---- lists of frames

pub count-append : (xs ys : List (List ℕ)) → count_last (xs ++ ys) ≡ count_last xs + count_last ys
count-append [] ys = omega arith
count-append (x ∷ xs) ys = by-last (count_last xs) (count_last ys) (is_last x) (count-append xs ys)
  where
    by-last : {a : ℕ} (b c : ℕ) (last : Bool) → a ≡ b + c → cond last (suc a) a ≡ cond last (suc b) b + c
    by-last b c true is = omega (arith, is)
    by-last b c false is = is

ends-some : (b : List ℕ) (bs : List (List ℕ)) → EndsUnit (b ∷ bs) → 0 < count_last (b ∷ bs)
ends-some b [] ends = let one : count_last (b ∷ []) ≡ 1 = cond-true {A = ℕ} (is_last b) 1 0 ends in omega (arith, one)
ends-some b (c ∷ bs) ends = by-last (is_last b) (ends-some c bs ends)
  where
    by-last : {n : ℕ} (last : Bool) → 0 < n → 0 < cond last (suc n) n
    by-last true some = omega arith
    by-last false some = some

-- where frames go on, a unit isn't complete yet
pub ends-later : (xs : List (List ℕ)) (b : List ℕ) (rest : List (List ℕ)) → EndsUnit (xs ++ b ∷ rest)
    → 0 < count_last (b ∷ rest)
ends-later [] b rest ends = ends-some b rest ends
ends-later (x ∷ []) b rest ends = ends-some b rest ends
ends-later (x ∷ (y ∷ xs)) b rest ends = ends-later (y ∷ xs) b rest ends

pub from-at : {source : ℕ} (xs : List (List ℕ)) (b : List ℕ) (rest : List (List ℕ)) → AllFrom source (xs ++ b ∷ rest)
    → IsFrom source b
from-at [] b rest all = all.0
from-at (x ∷ xs) b rest all = from-at xs b rest all.1
