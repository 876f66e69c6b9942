-- What follows from the definition of a run's bytes: numbers, sizes, and what has ended.
use Rattle.std.proofs.Common.{◌≡◌, ℕ, zero, suc, ◌+◌, ◌-◌, ◌%◌, ◌^◌, ◌<◌, cond, List, [], ◌∷◌, ◌++◌}
use Rattle.std.proofs.Common.{length, take, get_or, refl, sym, ap, subst, ◌∙◌, arith, inl, inr}
use Rattle.std.proofs.lemmas.Bool.{cases_lt, le-leb, lt-leb}
use Rattle.std.proofs.lemmas.List.Sums.{sum_by-cons}
use Rattle.rtp_pack.specs.declared.heads.Head.{Head}
use Rattle.rtp_pack.specs.Heads.{head_bytes, packet_head}
use Rattle.mpeg_scan.specs.PictureRates.{picture_time}
use Rattle.film_frames.specs.declared.pieces.Piece.{Piece}
use Rattle.film_frames.specs.declared.pieces.Piece.TheVariants.{Report, Frame}
use Rattle.rtp_pack.specs.Reports.{report_bytes, unit_report}
use Rattle.film_frames.specs.Laws.{AreBlocks, IsBlock, HasPieceSize, HaveSizes, frames_among, sequence_of}
use Rattle.film_frames.specs.Pieces.{count_of, frames_in, octets_of, wire_of}
use Rattle.film_frames.specs.FramedRuns.{HaveEnded, FramedRun, count_ended, interleaved_block, blocks_from, payload}
use Rattle.film_frames.specs.FramedRuns.{piece_bytes, run_pieces, pieces_in}
use Rattle.film_frames.specs.Tables.{IsSound}
use Rattle.film_frames.proofs.PieceLemmas.{AreSound, sound-at}
use Rattle.film_frames.proofs.RunBytesLemmas.{begin-cons, begin-next, blocks_from-at, blocks_from-count, piece-length}

-- ---- sequence numbers

head-sequence : (channel : ℕ) (head : Head) (rest : List ℕ) → head.sequence < 2 ^ 16
    → sequence_of (interleaved_block channel (head_bytes head ++ rest)) ≡ head.sequence
head-sequence channel head rest small = omega arith

frame-sequence : (run : FramedRun) (frames octets : ℕ) (piece : Piece) → count_of piece ≡ 1
    → sequence_of (piece_bytes run frames octets piece) ≡ (run.identity.sequence + frames) % 2 ^ 16
frame-sequence run frames octets (Report unit) frame = cc
frame-sequence run frames octets (Frame unit p) frame =
    head-sequence run.identity.channel (packet_head run.identity (picture_time run.rate) unit p frames)
    (payload run.film p) (omega arith)

pub counts-on : (run : FramedRun) (frames octets : ℕ) (pieces : List Piece) (k : ℕ)
    → k < length (frames_among pieces (blocks_from run frames octets pieces))
    → sequence_of (get_or (frames_among pieces (blocks_from run frames octets pieces)) k [])
    ≡ (run.identity.sequence + (frames + k)) % 2 ^ 16
counts-on run frames octets [] k h = absurd (omega (arith, h))
counts-on run frames octets (Report unit ∷ pieces) k h =
    let next : frames + 0 + k ≡ frames + k = omega arith in
    counts-on run (frames + 0) (octets + 0) pieces k h ∙ ap (λ n. (run.identity.sequence + n) % 2 ^ 16) next
counts-on run frames octets (Frame unit p ∷ pieces) zero h =
    let none : frames ≡ frames + 0 = omega arith in
    frame-sequence run frames octets (Frame unit p) refl ∙ ap (λ n. (run.identity.sequence + n) % 2 ^ 16) none
counts-on run frames octets (Frame unit p ∷ pieces) (suc k) h =
    let next : frames + 1 + k ≡ frames + suc k = omega arith in
    counts-on run (frames + 1) (octets + octets_of (Frame unit p)) pieces k (omega (arith, h))
    ∙ ap (λ n. (run.identity.sequence + n) % 2 ^ 16) next

pub frames-count : (run : FramedRun) (frames octets : ℕ) (pieces : List Piece)
    → length (frames_among pieces (blocks_from run frames octets pieces)) ≡ frames_in pieces
frames-count run frames octets [] = refl
frames-count run frames octets (Report unit ∷ pieces) =
    omega (arith, frames-count run (frames + 0) (octets + 0) pieces, sum_by-cons count_of (Report unit) pieces)
frames-count run frames octets (Frame unit p ∷ pieces) =
    omega (
      arith,
      frames-count run (frames + 1) (octets + octets_of (Frame unit p)) pieces,
      sum_by-cons count_of (Frame unit p) pieces,
    )

-- ---- sizes

piece-size : (film : List ℕ) (piece : Piece) → IsSound film piece → HasPieceSize piece (wire_of piece)
piece-size film (Report unit) sound = refl
piece-size film (Frame unit p) sound = (omega arith, (omega (arith, sound.some), omega (arith, sound.short)))

pub have-sizes : (run : FramedRun) → AreSound run.film (pieces_in run) → HaveSizes (pieces_in run) (run_pieces run)
have-sizes run sound = record {
  count = blocks_from-count run 0 0 (pieces_in run);
  each = λ k piece at.
      let its = sound-at run.film (pieces_in run) k piece at sound in
      let bytes = blocks_from-at run 0 0 (pieces_in run) k at in
      let long : length (get_or (run_pieces run) k []) ≡ wire_of piece =
      ap (λ (l : List ℕ). length l) bytes ∙ piece-length run (0 + frames_in (take k (pieces_in run))) _ piece its in
      subst (λ n. HasPieceSize piece n) (sym long) (piece-size run.film piece its);
}

-- ---- blocks

block-is : (channel : ℕ) (block : List ℕ) → IsBlock (interleaved_block channel block)
block-is channel block = ((omega arith, refl), omega arith)

piece-block : (run : FramedRun) (frames octets : ℕ) (piece : Piece) → IsBlock (piece_bytes run frames octets piece)
piece-block run frames octets (Report unit) =
    block-is run.identity.control (report_bytes (unit_report run.identity (picture_time run.rate) unit frames octets))
piece-block run frames octets (Frame unit p) =
    block-is run.identity.channel
    (head_bytes (packet_head run.identity (picture_time run.rate) unit p frames) ++ payload run.film p)

pub are-blocks : (run : FramedRun) (frames octets : ℕ) (pieces : List Piece)
    → AreBlocks (blocks_from run frames octets pieces)
are-blocks run frames octets [] k h = absurd (omega (arith, h))
are-blocks run frames octets (piece ∷ pieces) zero h = piece-block run frames octets piece
are-blocks run frames octets (piece ∷ pieces) (suc k) h =
    are-blocks run (frames + count_of piece) (octets + octets_of piece) pieces k (omega (arith, h))

-- ---- what has ended

pub count_ended-have : (pieces : List (List ℕ)) (at : ℕ) → HaveEnded pieces at (count_ended at pieces)
count_ended-have [] at = record { among = omega arith; last = omega arith; next = λ h. absurd (omega (arith, h)) }
count_ended-have (piece ∷ pieces) at =
    elim (cases_lt at (length piece)) [
      | inl l ↦
          let none : 0 ≡ count_ended at (piece ∷ pieces) =
          sym (ap (λ b. cond b (count_ended (at - length piece) pieces + 1) 0) (lt-leb (length piece) at l)) in
          let P : ℕ → Type 0 = λ n. HaveEnded (piece ∷ pieces) at n in
          subst P none
          (record { among = omega arith; last = omega arith; next = λ h. omega (arith, l, begin-cons piece pieces 0) })
      | inr g ↦
          let rest = count_ended-have pieces (at - length piece) in
          let n = count_ended (at - length piece) pieces in
          let one : suc n ≡ n + 1 = omega arith in
          let more : suc n ≡ count_ended at (piece ∷ pieces) =
          one ∙ sym (ap (λ b. cond b (count_ended (at - length piece) pieces + 1) 0) (le-leb (length piece) at g)) in
          let P : ℕ → Type 0 = λ n. HaveEnded (piece ∷ pieces) at n in
          subst P more (record {
            among = omega (arith, rest.among);
            last = omega (arith, rest.last, begin-cons piece pieces n, g);
            next = λ h. omega (arith, rest.next (omega (arith, h)), begin-next piece pieces n, g);
          })
    ]
