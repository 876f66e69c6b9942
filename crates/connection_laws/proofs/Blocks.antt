-- The blocks of a run, unit by unit: a report before a unit that starts a group, and its frames.
use Rattle.std.proofs.Common.{◌≡◌, ℕ, ◌+◌, ◌*◌, Bool, nat_le, cond, List, [], ◌∷◌, ◌++◌, map, refl, ap, arith}
use Rattle.connection_laws.proofs.Terms.{picture_time, Packet, unit_packets, frames_among, unit_pieces, FramedRun}
use Rattle.connection_laws.proofs.Terms.{blocks_from, payload, block_events, element_events, Frame, Report, is_last}
use Rattle.mpeg_scan.specs.declared.units.Unit.{Unit as PictureUnit}
use Rattle.rtp_pack.specs.Heads.{bit, head_bytes, packet_head}
use Rattle.rtp_pack.specs.Reports.{report_bytes, unit_report}
use Rattle.film_frames.specs.Pieces.{count_of, octets_of, unit_of}
use Rattle.film_frames.specs.FramedRuns.{interleaved_block, piece_bytes}
use Rattle.connection_laws.proofs.HistorySums.{AreOneBlocks}
use Rattle.connection_laws.proofs.Lists.{each_append}

-- the pieces of a run: what their units are taken of
abbrev pub Domain : {A : Type 0} {B : Type 0} → (A → B) → Type 0
Domain {A} f = A

abbrev pub Part : Type 0
Part = Domain unit_of

-- the numbers of frames and octets after pieces
abbrev pub frames_after : ℕ → List Part → ℕ
frames_after f [] = f
frames_after f (x ∷ xs) = frames_after (f + count_of x) xs

abbrev pub octets_after : ℕ → List Part → ℕ
octets_after o [] = o
octets_after o (x ∷ xs) = octets_after (o + octets_of x) xs

pub blocks_append : (run : FramedRun) (f o : ℕ) (xs ys : List Part)
    → blocks_from run f o (xs ++ ys) ≡ blocks_from run f o xs ++ blocks_from run (frames_after f xs)
    (octets_after o xs) ys
blocks_append run f o [] ys = refl
blocks_append run f o (x ∷ xs) ys = rw (blocks_append run (f + count_of x) (o + octets_of x) xs ys)

-- ---- a unit

abbrev pub frame_block : FramedRun → PictureUnit → Packet → ℕ → List ℕ
frame_block run unit p f =
    interleaved_block run.identity.channel
    (head_bytes (packet_head run.identity (picture_time run.rate) unit p f) ++ payload run.film p)

abbrev pub report_block : FramedRun → PictureUnit → ℕ → ℕ → List ℕ
report_block run unit f o =
    interleaved_block run.identity.control (report_bytes (unit_report run.identity (picture_time run.rate) unit f o))

abbrev pub frame_blocks : FramedRun → PictureUnit → ℕ → List Packet → List (List ℕ)
frame_blocks run unit f [] = []
frame_blocks run unit f (p ∷ packets) = frame_block run unit p f ∷ frame_blocks run unit (f + 1) packets

abbrev pub report_if : Bool → FramedRun → PictureUnit → ℕ → ℕ → List (List ℕ)
report_if starts run unit f o = cond starts (report_block run unit f o ∷ []) []

abbrev pub unit_blocks : FramedRun → List ℕ → PictureUnit → ℕ → ℕ → List (List ℕ)
unit_blocks run starts unit f o = report_if unit.starts_group run unit f o ++ frame_blocks run unit f
    (unit_packets starts unit)

-- the parts and blocks after those of a unit
pub record AfterUnit : Type 0 where
  pub parts : List Part
  pub blocks : List (List ℕ)

-- a unit's report and frames, as parts of a film's pieces
record UnitParts (run : FramedRun) (unit : PictureUnit) : Type 0 where
  report : Part
  frame : Packet → Part
  told : (f o : ℕ) → piece_bytes run f o report ≡ report_block run unit f o
  uncounted : count_of report ≡ 0
  none : (ps : List Part) (b : List ℕ) (bs : List (List ℕ)) → frames_among (report ∷ ps) (b ∷ bs) ≡ frames_among ps bs
  bytes : (p : Packet) (f o : ℕ) → piece_bytes run f o (frame p) ≡ frame_block run unit p f
  count : (p : Packet) → count_of (frame p) ≡ 1
  among : (p : Packet) (ps : List Part) (b : List ℕ) (bs : List (List ℕ))
      → frames_among (frame p ∷ ps) (b ∷ bs) ≡ b ∷ frames_among ps bs

module _ {run : FramedRun} {unit : PictureUnit} (is : UnitParts run unit) where
  frames_made : (f o : ℕ) (packets : List Packet)
      → blocks_from run f o (map is.frame packets) ≡ frame_blocks run unit f packets
  frames_made f o [] = refl
  frames_made f o (p ∷ packets) = search (arith, frames_made (f + 1) (o + octets_of (is.frame p)) packets)

  frames_told : (f : ℕ) (packets : List Packet) (rest : AfterUnit)
      → frames_among (map is.frame packets ++ rest.parts) (frame_blocks run unit f packets ++ rest.blocks)
      ≡ frame_blocks run unit f packets ++ frames_among rest.parts rest.blocks
  frames_told f [] rest = refl
  frames_told f (p ∷ packets) rest = grind (arith, frames_told (f + 1) packets rest)

  parts_made : (starts : Bool) (f o : ℕ) (packets : List Packet)
      → blocks_from run f o (cond starts (is.report ∷ []) [] ++ map is.frame packets)
      ≡ report_if starts run unit f o ++ frame_blocks run unit f packets
  parts_made starts f o packets = grind (arith, frames_made)

  parts_told : (starts : Bool) (f o : ℕ) (packets : List Packet) (rest : AfterUnit)
      → frames_among ((cond starts (is.report ∷ []) [] ++ map is.frame packets) ++ rest.parts)
      ((report_if starts run unit f o ++ frame_blocks run unit f packets) ++ rest.blocks)
      ≡ frame_blocks run unit f packets ++ frames_among rest.parts rest.blocks
  parts_told starts f o packets rest = grind (arith, frames_told)

-- its blocks, and the frames among them
pub unit_made : (run : FramedRun) (f o : ℕ) (starts : List ℕ) (unit : PictureUnit)
    → blocks_from run f o (unit_pieces starts unit) ≡ unit_blocks run starts unit f o
unit_made run f o starts unit =
    parts_made {run = run} {unit = unit} (record {
      report = _;
      frame = _;
      told = λ g n. refl;
      uncounted = refl;
      none = λ ps b bs. refl;
      bytes = λ p g n. refl;
      count = λ p. refl;
      among = λ p ps b bs. refl;
    }) unit.starts_group f o (unit_packets starts unit)

pub unit_among : (run : FramedRun) (f o : ℕ) (starts : List ℕ) (unit : PictureUnit) (rest : AfterUnit) →
    frames_among (unit_pieces starts unit ++ rest.parts) (unit_blocks run starts unit f o ++ rest.blocks)
    ≡ frame_blocks run unit f (unit_packets starts unit) ++ frames_among rest.parts rest.blocks
unit_among run f o starts unit rest =
    parts_told {run = run} {unit = unit} (record {
      report = _;
      frame = _;
      told = λ g n. refl;
      uncounted = refl;
      none = λ ps b bs. refl;
      bytes = λ p g n. refl;
      count = λ p. refl;
      among = λ p ps b bs. refl;
    }) unit.starts_group f o (unit_packets starts unit) rest

-- ---- what a client reads of them

bit_read : (m : Bool) → nat_le 128 (bit m * 128 + 32) ≡ m
bit_read m = grind arith

pub last_is : (run : FramedRun) (f : ℕ) (unit : PictureUnit) (p : Packet)
    → is_last (frame_block run unit p f) ≡ p.marker
last_is run f unit p = bit_read p.marker

pub frame_moment : (run : FramedRun) (f : ℕ) (unit : PictureUnit) (p : Packet) → run.identity.channel ≡ 0
    → element_events (frame_block run unit p f) ≡ Frame (frame_block run unit p f) ∷ []
frame_moment run f unit p media = ap (λ c. block_events c (frame_block run unit p f)) media

pub report_moment : (run : FramedRun) (f o : ℕ) (unit : PictureUnit) → run.identity.control ≡ 1
    → element_events (report_block run unit f o) ≡ Report (report_block run unit f o) ∷ []
report_moment run f o unit control = cc control

pub frames_one : (run : FramedRun) (f : ℕ) (unit : PictureUnit) (packets : List Packet) → run.identity.channel ≡ 0
    → AreOneBlocks (frame_blocks run unit f packets)
frames_one run f unit [] media = tt
frames_one run f unit (p ∷ packets) media = grind (arith, frames_one run (f + 1) unit packets media)

reports_one : (starts : Bool) (run : FramedRun) (f o : ℕ) (unit : PictureUnit) → run.identity.control ≡ 1
    → AreOneBlocks (report_if starts run unit f o)
reports_one starts run f o unit given = grind arith

-- a run on channels 0 and 1, with the frames and octets that it sent before
pub record RunFrom : Type 0 where
  pub run : FramedRun
  pub frames : ℕ
  pub octets : ℕ
  pub media : run.identity.channel ≡ 0
  pub control : run.identity.control ≡ 1

pub unit_one : (from : RunFrom) (starts : List ℕ) (unit : PictureUnit) →
    AreOneBlocks (unit_blocks from.run starts unit from.frames from.octets)
unit_one from starts unit = search (each_append, unit_packets, reports_one, frames_one)
