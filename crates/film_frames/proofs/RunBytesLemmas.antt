-- The bytes of a run's pieces, and where they begin.
use Rattle.std.proofs.Common.{◌≡◌, ℕ, zero, suc, ◌+◌, ◌-◌, ◌*◌, ◌<◌, ◌≤◌, cond, List, [], ◌∷◌, length, take, drop}
use Rattle.std.proofs.Common.{get_or, Some, slice_get, refl, sym, ap, ◌∙◌, arith, inl, inr, length-append}
use Rattle.std.specs.List.{sum_by}
use Rattle.std.proofs.lemmas.Bool.{cases_lt, le-leb, lt-leb}
use Rattle.std.proofs.lemmas.List.{length-drop, length-take-le}
use Rattle.std.proofs.lemmas.List.Concat.{length-flat_map}
use Rattle.std.proofs.lemmas.List.Sums.{sum_by-cons}
use Rattle.rtp_pack.specs.declared.reports.TheConstants.{REPORT_BYTES}
use Rattle.rtp_pack.specs.declared.payloads.Packet.{Packet}
use Rattle.film_frames.specs.declared.pieces.Piece.{Piece}
use Rattle.film_frames.specs.declared.pieces.Piece.TheVariants.{Report, Frame}
use Rattle.film_frames.specs.Pieces.{count_of, frames_in, octets_in, octets_of, wire_in, wire_of}
use Rattle.film_frames.specs.Tables.{IsSound}
use Rattle.film_frames.specs.FramedRuns.{HaveEnded, FramedRun, count_ended, blocks_from, payload, piece_bytes}
use Rattle.film_frames.specs.Tracks.{begin_of, framed_bytes}
use Rattle.film_frames.proofs.PieceLemmas.{AreSound}
use Rattle.film_frames.proofs.TrackLemmas.{PieceEnds, IsSearched, begin-all, begin-le, begin-none}

-- ---- what a piece takes

pub payload-length : (film : List ℕ) (p : Packet) → p.from ≤ p.to → p.to ≤ length film
    → length (payload film p) ≡ p.to - p.from
payload-length film p order within =
    length-take-le (p.to - p.from) (drop p.from film) (omega (arith, length-drop p.from film, order, within))

pub piece-length : (run : FramedRun) (frames octets : ℕ) (piece : Piece) → IsSound run.film piece
    → length (piece_bytes run frames octets piece) ≡ wire_of piece
piece-length run frames octets (Report unit) sound = refl
piece-length run frames octets (Frame unit p) sound =
    omega (arith, payload-length run.film p (omega (arith, sound.some)) sound.within)

pub blocks_from-count : (run : FramedRun) (frames octets : ℕ) (pieces : List Piece)
    → length (blocks_from run frames octets pieces) ≡ length pieces
blocks_from-count run frames octets [] = refl
blocks_from-count run frames octets (piece ∷ pieces) =
    ap suc (blocks_from-count run (frames + count_of piece) (octets + octets_of piece) pieces)

blocks_from-sum : (run : FramedRun) (frames octets : ℕ) (pieces : List Piece) (k : ℕ) → AreSound run.film pieces
    → sum_by length (take k (blocks_from run frames octets pieces)) ≡ wire_in (take k pieces)
blocks_from-sum run frames octets [] zero sound = refl
blocks_from-sum run frames octets [] (suc k) sound = refl
blocks_from-sum run frames octets (piece ∷ pieces) zero sound = refl
blocks_from-sum run frames octets (piece ∷ pieces) (suc k) sound =
    let rest = blocks_from-sum run (frames + count_of piece) (octets + octets_of piece) pieces k sound.1 in
    sum_by-cons length (piece_bytes run frames octets piece)
    (take k (blocks_from run (frames + count_of piece) (octets + octets_of piece) pieces))
    ∙ ap (λ n. n
    + sum_by length (take k (blocks_from run (frames + count_of piece) (octets + octets_of piece) pieces)))
    (piece-length run frames octets piece sound.0)
    ∙ ap (λ n. wire_of piece + n) rest
    ∙ sym (sum_by-cons wire_of piece (take k pieces))

pub blocks_from-begin : (run : FramedRun) (frames octets : ℕ) (pieces : List Piece) (k : ℕ) → AreSound run.film pieces
    → begin_of (blocks_from run frames octets pieces) k ≡ wire_in (take k pieces)
blocks_from-begin run frames octets pieces k sound =
    length-flat_map (λ (p : List ℕ). p) (take k (blocks_from run frames octets pieces))
    ∙ blocks_from-sum run frames octets pieces k sound

-- the bytes of the piece of a number
pub blocks_from-at : {piece : Piece} (run : FramedRun) (frames octets : ℕ) (pieces : List Piece) (k : ℕ)
    → slice_get pieces k ≡ Some piece
    → get_or (blocks_from run frames octets pieces) k []
    ≡ piece_bytes run (frames + frames_in (take k pieces)) (octets + octets_in (take k pieces)) piece
blocks_from-at {piece} run frames octets [] k at = cc
blocks_from-at {piece} run frames octets (first ∷ pieces) zero at =
    let same : first ≡ piece = cc in
    let f : frames ≡ frames + 0 = omega arith in
    let o : octets ≡ octets + 0 = omega arith in
    ap (λ p. piece_bytes run frames octets p) same ∙ ap (λ n. piece_bytes run n octets piece) f
    ∙ ap (λ n. piece_bytes run (frames + 0) n piece) o
blocks_from-at {piece} run frames octets (first ∷ pieces) (suc k) at =
    let rest = blocks_from-at run (frames + count_of first) (octets + octets_of first) pieces k at in
    let f : frames + count_of first + frames_in (take k pieces) ≡ frames + frames_in (first ∷ take k pieces) =
    omega (arith, sum_by-cons count_of first (take k pieces)) in
    let o : octets + octets_of first + octets_in (take k pieces) ≡ octets + octets_in (first ∷ take k pieces) =
    omega (arith, sum_by-cons octets_of first (take k pieces)) in
    rest
    ∙ ap (λ n. piece_bytes run n (octets + octets_of first + octets_in (take k pieces)) piece) f
    ∙ ap (λ n. piece_bytes run (frames + frames_in (first ∷ take k pieces)) n piece) o

-- ---- octets, by the bytes, the frames and the reports

pub octets-are : (pieces : List Piece)
    → wire_in pieces + REPORT_BYTES * frames_in pieces
    ≡ octets_in pieces + 16 * frames_in pieces + REPORT_BYTES * length pieces
octets-are [] = refl
octets-are (Report unit ∷ pieces) =
    omega (
      arith,
      octets-are pieces,
      sum_by-cons wire_of (Report unit) pieces,
      sum_by-cons count_of (Report unit) pieces,
      sum_by-cons octets_of (Report unit) pieces,
    )
octets-are (Frame unit p ∷ pieces) =
    omega (
      arith,
      octets-are pieces,
      sum_by-cons wire_of (Frame unit p) pieces,
      sum_by-cons count_of (Frame unit p) pieces,
      sum_by-cons octets_of (Frame unit p) pieces,
    )

pub frames-le : (pieces : List Piece) → frames_in pieces ≤ length pieces
frames-le [] = omega arith
frames-le (Report unit ∷ pieces) = omega (arith, frames-le pieces, sum_by-cons count_of (Report unit) pieces)
frames-le (Frame unit p ∷ pieces) = omega (arith, frames-le pieces, sum_by-cons count_of (Frame unit p) pieces)

-- ---- the pieces that have ended

pub have-count_ended : (e : PieceEnds) {at upto k : ℕ} → IsSearched e (upto + 1) k
    → (upto ≤ at) × (upto < at → upto ≡ length (framed_bytes e.pieces)) → HaveEnded e.pieces at k
have-count_ended e {at} {upto} {k} is cut = record {
  among = omega (arith, is.count, are.count);
  last = elim (cases_lt 0 k) [
    | inl l ↦
        let end = are.each (k - 1) (omega (arith, l, is.count)) in
        let same : begin_of pieces (k - 1 + 1) ≡ begin_of pieces k = ap (λ n. begin_of pieces n) (omega (arith, l)) in
        omega (arith, is.below (k - 1) (omega (arith, l)), end, same, cut.0)
    | inr z ↦ omega (arith, begin-none pieces k (omega (arith, z)))
  ];
  next = λ h.
      let within : k < length e.ends = omega (arith, h, are.count) in
      let end = are.each k within in
      let later = is.from within in
      elim (cases_lt upto at) [
        | inl l ↦ absurd
            (omega (
              arith,
              cut.1 l,
              end,
              later,
              begin-le pieces (k + 1) (length pieces) (omega (arith, h)),
              begin-all pieces,
            ))
        | inr g ↦ omega (arith, g, end, later)
      ];
}
  where
    open e use {pieces, are}

pub begin-cons : (piece : List ℕ) (pieces : List (List ℕ)) (k : ℕ)
    → begin_of (piece ∷ pieces) (suc k) ≡ length piece + begin_of pieces k
begin-cons piece pieces k = length-append piece (framed_bytes (take k pieces))

pub begin-next : (piece : List ℕ) (pieces : List (List ℕ)) (k : ℕ)
    → begin_of (piece ∷ pieces) (suc k + 1) ≡ length piece + begin_of pieces (k + 1)
begin-next piece pieces k =
    let next : suc k + 1 ≡ suc (k + 1) = omega arith in
    ap (λ n. begin_of (piece ∷ pieces) n) next ∙ begin-cons piece pieces (k + 1)

-- the count of them
pub count_ended-is : (pieces : List (List ℕ)) (at count : ℕ) → HaveEnded pieces at count → count_ended at pieces ≡ count
count_ended-is [] at count have = omega (arith, have.among)
count_ended-is (piece ∷ pieces) at zero have =
    let before : at < length piece = omega (arith, have.next (omega arith), begin-cons piece pieces 0) in
    ap (λ b. cond b (count_ended (at - length piece) pieces + 1) 0) (lt-leb (length piece) at before)
count_ended-is (piece ∷ pieces) at (suc count) have =
    let here : length piece ≤ at = omega (arith, have.last, begin-cons piece pieces count) in
    let rest = count_ended-is pieces (at - length piece) count (record {
      among = omega (arith, have.among);
      last = omega (arith, have.last, begin-cons piece pieces count);
      next = λ h. omega (arith, have.next (omega (arith, h)), begin-next piece pieces count, here);
    }) in
    ap (λ b. cond b (count_ended (at - length piece) pieces + 1) 0) (le-leb (length piece) at here)
    ∙ omega (arith, rest)
