-- The next bytes of a run, from a place on.
use Rattle.std.proofs.Common.{◌≡◌, ℕ, ◌+◌, ◌-◌, ◌<◌, ◌≤◌, List, [], ◌++◌, length, take, drop}
use Rattle.std.proofs.Common.{get_or, refl, sym, subst, ap, ◌∙◌, arith, inl, inr, Some, slice_get, min, max}
use Rattle.std.proofs.lemmas.Bool.{cases_lt}
use Rattle.std.proofs.lemmas.List.{append-nil, drop-append-le, drop-drop, drop-take, length-drop}
use Rattle.std.proofs.lemmas.List.{length-take-le, take_all}
use Rattle.std.proofs.Math.Seq.{drop-append-add}
use Rattle.rtp_pack.specs.declared.reports.TheConstants.{REPORT_BYTES}
use Rattle.rtp_pack.specs.declared.sizes.TheConstants.{FRAME_HEAD_BYTES}
use Rattle.rtp_pack.specs.declared.payloads.Packet.{Packet}
use Rattle.film_frames.specs.declared.pieces.Piece.{Piece}
use Rattle.film_frames.specs.Pieces.{frames_in, octets_in, wire_of}
use Rattle.film_frames.specs.Tables.{IsSound}
use Rattle.film_frames.specs.FramedRuns.{HaveEnded, FramedRun, payload, piece_bytes, run_pieces, pieces_in}
use Rattle.film_frames.specs.Tracks.{IsBoundary, IsBoundaryAfter, IsNext, begin_of, framed_bytes}
use Rattle.film_frames.proofs.TrackLemmas.{IsPart, begin-all, begin-le, begin-more, next-found}
use Rattle.film_frames.proofs.RunBytesLemmas.{blocks_from-at, blocks_from-count, piece-length}

-- ---- where a place lies

pub count_ended-within : (pieces : List (List ℕ)) (at k : ℕ) → HaveEnded pieces at k
    → at < length (framed_bytes pieces) → k < length pieces
count_ended-within pieces at k have within =
    elim (cases_lt k (length pieces)) [
      | inl l ↦ l
      | inr g ↦
          let last : begin_of pieces k ≡ begin_of pieces (length pieces) =
          ap (λ n. begin_of pieces n) (omega (arith, g, have.among)) in
          absurd (omega (arith, last, begin-all pieces, have.last, within))
    ]

-- before a run's end there is a piece that hasn't ended
pub count-among : (run : FramedRun) (at k : ℕ) → HaveEnded (run_pieces run) at k
    → at < length (framed_bytes (run_pieces run)) → k < length (pieces_in run)
count-among run at k have within =
    omega (arith, count_ended-within (run_pieces run) at k have within, blocks_from-count run 0 0 (pieces_in run))

pub boundary-count_ended : (pieces : List (List ℕ)) (at k : ℕ) → HaveEnded pieces (at - 1) k → 0 < at
    → at ≤ length (framed_bytes pieces) → IsBoundaryAfter pieces at (begin_of pieces (k + 1))
boundary-count_ended pieces at k have some within =
    let inside = count_ended-within pieces (at - 1) k have (omega (arith, some, within)) in
    record {
      boundary = record { number = k + 1; among = omega (arith, inside); place_is = refl };
      after = omega (arith, have.next inside, some);
      least = λ other b h.
          elim (cases_lt k b.number) [
            | inl l ↦ omega (arith, begin-le pieces (k + 1) b.number (omega (arith, l)), b.place_is)
            | inr g ↦ absurd (omega (arith, begin-le pieces b.number k g, b.place_is, have.last, h, some))
          ];
    }

-- the rest of the piece in which a place lies is next
pub rest-next : (pieces : List (List ℕ)) (at k : ℕ) → HaveEnded pieces at k → at < length (framed_bytes pieces)
    → IsNext pieces at (drop (at - begin_of pieces k) (get_or pieces k []))
rest-next pieces at k have within =
    let inside = count_ended-within pieces at k have within in
    let more = begin-more pieces k inside in
    let next = have.next inside in
    let rest = drop (at - begin_of pieces k) (get_or pieces k []) in
    let n = begin_of pieces (k + 1) - at in
    let count : length rest ≡ n =
    omega (arith, length-drop (at - begin_of pieces k) (get_or pieces k []), more, next, have.last) in
    let part : IsPart pieces k at n = record { among = inside; begins = have.last; ends = omega (arith, next) } in
    subst (IsNext pieces at) (take_all n rest (omega (arith, count))) (next-found part (omega (arith, next)))

-- ---- the bytes of a report or a frame from a place on

pub report-rest : (block : List ℕ) (o : ℕ) → length block ≡ REPORT_BYTES → o ≤ REPORT_BYTES
    → take (REPORT_BYTES - o) (drop o block) ++ [] ≡ drop o block
report-rest block o long within =
    append-nil (take (REPORT_BYTES - o) (drop o block))
    ∙ take_all (REPORT_BYTES - o) (drop o block) (omega (arith, length-drop o block, long))

-- a place in a frame: in the heads that begin these bytes, or in the payload of a packet of the film
pub record InFrame (film block : List ℕ) (p : Packet) (o : ℕ) : Type 0 where
  pub long : length block ≡ REPORT_BYTES
  pub order : p.from ≤ p.to
  pub within : p.to ≤ length film
  pub inside : o ≤ FRAME_HEAD_BYTES + (p.to - p.from)

frame-rest : {film block : List ℕ} {p : Packet} {o : ℕ} → InFrame film block p o
    → take (FRAME_HEAD_BYTES - min o FRAME_HEAD_BYTES) (drop (min o FRAME_HEAD_BYTES) block)
    ++ take (p.to - (p.from + (max o FRAME_HEAD_BYTES - FRAME_HEAD_BYTES)))
    (drop (p.from + (max o FRAME_HEAD_BYTES - FRAME_HEAD_BYTES)) film)
    ≡ drop o (take FRAME_HEAD_BYTES block ++ payload film p)
frame-rest {film} {block} {p} {o} lies =
    let heads : length (take FRAME_HEAD_BYTES block) ≡ FRAME_HEAD_BYTES =
    length-take-le FRAME_HEAD_BYTES block (omega (arith, lies.long)) in
    elim (cases_lt FRAME_HEAD_BYTES o) [
      | inr g ↦
          let least : min o FRAME_HEAD_BYTES ≡ o = omega (arith, g) in
          let none : p.from + (max o FRAME_HEAD_BYTES - FRAME_HEAD_BYTES) ≡ p.from = omega (arith, g) in
          let twenty : FRAME_HEAD_BYTES ≡ o + (FRAME_HEAD_BYTES - o) = omega (arith, g) in
          ap (λ n. take (FRAME_HEAD_BYTES - n) (drop n block)
          ++ take (p.to - (p.from + (max o FRAME_HEAD_BYTES - FRAME_HEAD_BYTES)))
          (drop (p.from + (max o FRAME_HEAD_BYTES - FRAME_HEAD_BYTES)) film)) least
          ∙ ap (λ n. take (FRAME_HEAD_BYTES - o) (drop o block) ++ take (p.to - n) (drop n film)) none
          ∙ ap (λ (l : List ℕ). l ++ payload film p)
          (sym (drop-take o (FRAME_HEAD_BYTES - o) block) ∙ ap (λ n. drop o (take n block)) (sym twenty))
          ∙ sym (drop-append-le o (take FRAME_HEAD_BYTES block) (payload film p) (omega (arith, g, heads)))
      | inl l ↦
          let m = o - FRAME_HEAD_BYTES in
          let least : min o FRAME_HEAD_BYTES ≡ FRAME_HEAD_BYTES = omega (arith, l) in
          let past : p.from + (max o FRAME_HEAD_BYTES - FRAME_HEAD_BYTES) ≡ p.from + m = omega (arith, l) in
          let left : p.to - p.from ≡ m + (p.to - (p.from + m)) = omega (arith, l, lies.inside, lies.order) in
          let at : o ≡ length (take FRAME_HEAD_BYTES block) + m = omega (arith, heads, l) in
          ap (λ n. take (FRAME_HEAD_BYTES - n) (drop n block)
          ++ take (p.to - (p.from + (max o FRAME_HEAD_BYTES - FRAME_HEAD_BYTES)))
          (drop (p.from + (max o FRAME_HEAD_BYTES - FRAME_HEAD_BYTES)) film)) least
          ∙ ap (λ n. take (p.to - n) (drop n film)) past
          ∙ ap (λ (l : List ℕ). take (p.to - (p.from + m)) l) (sym (drop-drop m p.from film))
          ∙ sym (drop-take m (p.to - (p.from + m)) (drop p.from film))
          ∙ ap (λ n. drop m (take n (drop p.from film))) (sym left)
          ∙ sym (drop-append-add (take FRAME_HEAD_BYTES block) (payload film p) m)
          ∙ ap (λ n. drop n (take FRAME_HEAD_BYTES block ++ payload film p)) (sym at)
    ]

-- the same where the range of the heads and the payload are known by equations
pub frame-part : {bytes film block : List ℕ} {low high o : ℕ} {p : Packet} → InFrame film block p o
    → low ≡ min o FRAME_HEAD_BYTES → high ≡ max o FRAME_HEAD_BYTES
    → bytes ≡ take (p.to - (p.from + (high - FRAME_HEAD_BYTES))) (drop (p.from + (high - FRAME_HEAD_BYTES)) film)
    → (take (FRAME_HEAD_BYTES - low) (drop low block) ++ bytes ≡ drop o (take FRAME_HEAD_BYTES block ++ payload film p))
    × ((FRAME_HEAD_BYTES - low) + length bytes + o ≡ FRAME_HEAD_BYTES + (p.to - p.from))
frame-part {bytes} {film} {block} {low} {high} {o} {p} lies low_is high_is are =
    let at = p.from + (high - FRAME_HEAD_BYTES) in
    let count : length bytes ≡ p.to - at =
    ap (λ (l : List ℕ). length l) are
    ∙ length-take-le (p.to - at) (drop at film) (omega (arith, length-drop at film, lies.within)) in (
      ap (λ (l : List ℕ). take (FRAME_HEAD_BYTES - low) (drop low block) ++ l) are
          ∙ ap (λ n. take (FRAME_HEAD_BYTES - n) (drop n block)
          ++ take (p.to - (p.from + (high - FRAME_HEAD_BYTES))) (drop (p.from + (high - FRAME_HEAD_BYTES)) film)) low_is
          ∙ ap (λ n. take (FRAME_HEAD_BYTES - min o FRAME_HEAD_BYTES) (drop (min o FRAME_HEAD_BYTES) block)
          ++ take (p.to - (p.from + (n - FRAME_HEAD_BYTES))) (drop (p.from + (n - FRAME_HEAD_BYTES)) film)) high_is
          ∙ frame-rest lies,
      omega (arith, count, low_is, high_is, lies.order, lies.inside),
    )

-- ---- the piece of a run in which a place lies

pub record IsIn (run : FramedRun) (at k : ℕ) (piece : Piece) : Type 0 where
  pub bytes : get_or (run_pieces run) k []
      ≡ piece_bytes run (frames_in (take k (pieces_in run))) (octets_in (take k (pieces_in run))) piece
  pub inside : at - begin_of (run_pieces run) k < wire_of piece
  pub ends : begin_of (run_pieces run) (k + 1) ≡ begin_of (run_pieces run) k + wire_of piece
  pub begins : begin_of (run_pieces run) k ≤ at
  pub number : k < length (run_pieces run)

pub is-in : {run : FramedRun} {at k : ℕ} {piece : Piece} → HaveEnded (run_pieces run) at k
    → at < length (framed_bytes (run_pieces run)) → slice_get (pieces_in run) k ≡ Some piece
    → IsSound run.film piece → IsIn run at k piece
is-in {run} {at} {k} {piece} have within found sound =
    let pieces = run_pieces run in
    let number = count_ended-within pieces at k have within in
    let frames : 0 + frames_in (take k (pieces_in run)) ≡ frames_in (take k (pieces_in run)) = omega arith in
    let octets : 0 + octets_in (take k (pieces_in run)) ≡ octets_in (take k (pieces_in run)) = omega arith in
    let bytes : get_or pieces k []
    ≡ piece_bytes run (frames_in (take k (pieces_in run))) (octets_in (take k (pieces_in run))) piece =
    blocks_from-at run 0 0 (pieces_in run) k found
    ∙ ap (λ n. piece_bytes run n (0 + octets_in (take k (pieces_in run))) piece) frames
    ∙ ap (λ n. piece_bytes run (frames_in (take k (pieces_in run))) n piece) octets in
    let long : length (get_or pieces k []) ≡ wire_of piece =
    ap (λ (l : List ℕ). length l) bytes
    ∙ piece-length run (frames_in (take k (pieces_in run))) (octets_in (take k (pieces_in run))) piece sound in
    let more = begin-more pieces k number in
    record {
      bytes = bytes;
      inside = omega (arith, more, long, have.next number, have.last);
      ends = omega (arith, more, long);
      begins = have.last;
      number = number;
    }

pub ends-boundary : (pieces : List (List ℕ)) (k place : ℕ) → k < length pieces → place ≡ begin_of pieces (k + 1)
    → IsBoundary pieces place
ends-boundary pieces k place within is = record { number = k + 1; among = omega (arith, within); place_is = is }
