-- Where the heads of a frame end.
use Rattle.std.proofs.Common.{◌≡◌, ◌≢◌, ℕ, ◌+◌, ◌-◌, ◌*◌, ◌<◌, ◌≤◌, Bool, true, false, List, [], length, get_or, min}
use Rattle.std.proofs.Common.{refl, subst, arith, inl, inr, replicate}
use Rattle.std.proofs.lemmas.Bool.{cases_lt}
use Rattle.std.proofs.lemmas.List.{get_or-map, get_or-replicate, length-map, length-replicate}
use Rattle.rtp_pack.specs.declared.sizes.TheConstants.{FRAME_HEAD_BYTES}
use Rattle.mpeg_scan.specs.declared.units.Unit.{Unit as PictureUnit}
use Rattle.rtp_pack.specs.declared.payloads.Packet.{Packet}
use Rattle.rtp_pack.specs.Heads.{bit}
use Rattle.film_frames.specs.declared.pieces.Piece.TheVariants.{Frame, Report}
use Rattle.film_frames.specs.FramedRuns.{FramedRun, piece_bytes}
use Rattle.film_frames.specs.Tables.{IsCutPacket}
use Rattle.film_frames.specs.Tracks.{HasHeads, IsHeadEnd, IsSplit, begin_of, zero_frames}
use Rattle.film_frames.proofs.RunBytesLemmas.{piece-length}
use Rattle.film_frames.proofs.TrackLemmas.{IsPart, begin-le, begin-more}

-- a report has no such heads, and a frame has
pub report-heads : (run : FramedRun) (frames octets : ℕ) (unit : PictureUnit)
    → HasHeads (piece_bytes run frames octets (Report unit)) → ⊥
report-heads run frames octets unit heads = heads.no_report refl

no-report : (marker : Bool) → bit marker * 128 + 32 ≢ 200
no-report true = λ is. omega (arith, is)
no-report false = λ is. omega (arith, is)

pub frame-heads : {unit : PictureUnit} {packet : Packet} (run : FramedRun) (frames octets : ℕ)
    → IsCutPacket run.film unit packet
    → HasHeads (piece_bytes run frames octets (Frame unit packet))
frame-heads {unit} {packet} run frames octets cut = record {
  interleaved = refl;
  no_report = no-report packet.marker;
  payload = omega (arith, piece-length run frames octets (Frame unit packet) cut, cut.some);
}

-- a place within a piece, past its beginning, is in no other piece
one-piece : (pieces : List (List ℕ)) (k place number : ℕ)
    → (begin_of pieces k < place) × (place < begin_of pieces (k + 1))
    → (begin_of pieces number ≤ place) × (place ≤ begin_of pieces (number + 1)) → number ≡ k
one-piece pieces k place number inside there =
    elim (cases_lt number k) [
      | inl l ↦ absurd (omega (arith, begin-le pieces (number + 1) k (omega (arith, l)), inside.0, there.1))
      | inr g ↦ elim (cases_lt k number) [
        | inl l ↦ absurd (omega (arith, begin-le pieces (k + 1) number (omega (arith, l)), inside.1, there.0))
        | inr h ↦ omega (arith, g, h)
      ]
    ]

head-here : (pieces : List (List ℕ)) (k : ℕ) {place : ℕ}
    → (begin_of pieces k < place) × (place < begin_of pieces (k + 1))
    → IsHeadEnd pieces place → HasHeads (get_or pieces k []) × (place ≡ begin_of pieces k + FRAME_HEAD_BYTES)
head-here pieces k {place} inside is =
    let same = one-piece pieces k place is.number inside (
      omega (arith, is.place_is),
      omega (arith, is.place_is, is.frame.payload, begin-more pieces is.number is.among),
    ) in (
      subst (λ n. HasHeads (get_or pieces n [])) same is.frame,
      subst (λ n. place ≡ begin_of pieces n + FRAME_HEAD_BYTES) same is.place_is,
    )

-- the bytes of a frame from a place on are split at the end of its heads
pub frame-split : {pieces : List (List ℕ)} {at k : ℕ} (head payload : ℕ) → IsPart pieces k at (head + payload)
    → HasHeads (get_or pieces k [])
    → head ≡ FRAME_HEAD_BYTES - min (at - begin_of pieces k) FRAME_HEAD_BYTES → IsSplit pieces at head payload
frame-split {pieces} {k = k} head payload part heads is = record {
  ends = λ some more. record {
    number = k;
    among = part.among;
    frame = heads;
    place_is = omega (arith, is, part.begins, some);
  };
  only = λ place end past before.
      omega (
        arith,
        (head-here pieces k (omega (arith, part.begins, past), omega (arith, part.ends, before)) end).1,
        is,
        part.begins,
        past,
      );
}

-- those of a report are all in the head
pub report-split : {pieces : List (List ℕ)} {at k : ℕ} (head payload : ℕ) → IsPart pieces k at (head + payload)
    → (HasHeads (get_or pieces k []) → ⊥) → payload ≡ 0 → IsSplit pieces at head payload
report-split {pieces} {k = k} head payload part none is = record {
  ends = λ some more. absurd (omega (arith, more, is));
  only = λ place end past before. absurd
      (none (head-here pieces k (omega (arith, part.begins, past), omega (arith, part.ends, before)) end).0);
}

-- zero bytes have no heads
zeros-heads : (sizes : List ℕ) (number : ℕ) → number < length (zero_frames sizes)
    → HasHeads (get_or (zero_frames sizes) number []) → ⊥
zeros-heads sizes number among heads =
    let size = get_or sizes number 0 in
    let piece : get_or (zero_frames sizes) number [] ≡ replicate {A = ℕ} size 0 =
    get_or-map (λ n. replicate {A = ℕ} n 0) sizes number 0 []
    (omega (arith, among, length-map sizes (λ n. replicate {A = ℕ} n 0))) in
    let its : HasHeads (replicate {A = ℕ} size 0) = subst HasHeads piece heads in
    let some : 0 < size = omega (arith, its.payload, length-replicate {A = ℕ} size 0) in
    omega (arith, its.interleaved, get_or-replicate {A = ℕ} size 0 0 0 some)

pub zeros-split : (sizes : List ℕ) (at head payload : ℕ) → head ≡ 0 → IsSplit (zero_frames sizes) at head payload
zeros-split sizes at head payload none = record {
  ends = λ some more. absurd (omega (arith, some, none));
  only = λ place end past before. absurd (zeros-heads sizes end.number end.among end.frame);
}
