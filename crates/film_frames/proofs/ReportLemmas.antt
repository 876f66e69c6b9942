-- What the reports of a run count, and the channels of its pieces.
use Rattle.std.proofs.Common.{◌≡◌, ℕ, ◌+◌, ◌<◌, List, [], length, take, get_or, Some, slice_get}
use Rattle.std.proofs.Common.{slice_index, refl, sym, ap, ◌∙◌, arith}
use Rattle.std.proofs.lemmas.Option.{slice_get_within}
use Rattle.rtp_pack.specs.declared.reports.TheConstants.{REPORT_BYTES}
use Rattle.mpeg_scan.specs.declared.units.Unit.{Unit as PictureUnit}
use Rattle.film_frames.specs.declared.pieces.Piece.{Piece}
use Rattle.film_frames.specs.declared.pieces.Piece.TheVariants.{Report, Frame}
use Rattle.film_frames.specs.Laws.{AreCountsBefore, AreOnChannels, ReportsCountFrames, channel_of}
use Rattle.film_frames.specs.Pieces.{frames_in, octets_in}
use Rattle.film_frames.specs.FramedRuns.{HaveEnded, FramedRun, count_ended, frames_before, octets_before, piece_bytes}
use Rattle.film_frames.specs.FramedRuns.{run_pieces, pieces_in}
use Rattle.film_frames.specs.Tracks.{begin_of}
use Rattle.film_frames.proofs.RunBytesLemmas.{count_ended-is, blocks_from-at, blocks_from-count}
use Rattle.film_frames.proofs.TrackLemmas.{begin-more}

-- where a report begins, the pieces before it have ended
count_ended-before : (run : FramedRun) (k : ℕ) (unit : PictureUnit) → slice_get (pieces_in run) k ≡ Some (Report unit)
    → count_ended (begin_of (run_pieces run) k) (run_pieces run) ≡ k
count_ended-before run k unit at =
    let pieces = run_pieces run in
    let within : k < length pieces =
    omega (arith, slice_get_within (pieces_in run) k (Report unit) at, blocks_from-count run 0 0 (pieces_in run)) in
    let long : length (get_or pieces k []) ≡ REPORT_BYTES =
    ap (λ (l : List ℕ). length l) (blocks_from-at run 0 0 (pieces_in run) k at) in
    count_ended-is pieces (begin_of pieces k) k (record {
      among = omega (arith, within);
      last = omega arith;
      next = λ h. omega (arith, begin-more pieces k within, long);
    })

pub reports-count : (run : FramedRun) → ReportsCountFrames run
reports-count run = λ k unit at.
    let before = sym (count_ended-before run k unit at) in
    let f : 0 + frames_in (take k (pieces_in run)) ≡ frames_in (take k (pieces_in run)) = omega arith in
    let o : 0 + octets_in (take k (pieces_in run)) ≡ octets_in (take k (pieces_in run)) = omega arith in
    let frames : 0 + frames_in (take k (pieces_in run)) ≡ frames_before run (begin_of (run_pieces run) k) =
    f ∙ ap (λ n. frames_in (take n (pieces_in run))) before in
    let octets : 0 + octets_in (take k (pieces_in run)) ≡ octets_before run (begin_of (run_pieces run) k) =
    o ∙ ap (λ n. octets_in (take n (pieces_in run))) before in
    blocks_from-at run 0 0 (pieces_in run) k at
    ∙ ap (λ n. piece_bytes run n (0 + octets_in (take k (pieces_in run))) (Report unit)) frames
    ∙ ap (λ n. piece_bytes run (frames_before run (begin_of (run_pieces run) k)) n (Report unit)) octets

-- what counts before a place
pub counted-before : (run : FramedRun) (at count : ℕ) → HaveEnded (run_pieces run) at count → AreCountsBefore run at
    count
counted-before run at count have =
    let is = count_ended-is (run_pieces run) at count have in
    record {
      frames = ap (λ n. frames_in (take n (pieces_in run))) is;
      octets = ap (λ n. octets_in (take n (pieces_in run))) is;
    }

-- ---- channels

piece-channel : (run : FramedRun) (frames octets : ℕ) (piece : Piece)
    → slice_index (piece_bytes run frames octets piece) 1 ≡ channel_of run piece
piece-channel run frames octets (Report unit) = refl
piece-channel run frames octets (Frame unit p) = refl

pub on-channels : (run : FramedRun) → AreOnChannels run
on-channels run = λ k piece at.
    ap (λ (l : List ℕ). slice_index l 1) (blocks_from-at run 0 0 (pieces_in run) k at)
    ∙ piece-channel run (0 + frames_in (take k (pieces_in run))) (0 + octets_in (take k (pieces_in run))) piece
