-- The boundaries of a run don't hang on its identity.
use Rattle.std.proofs.Common.{◌≡◌, ℕ, ◌≤◌, length, take, refl, sym, ◌∙◌, arith}
use Rattle.mpeg_scan.specs.declared.films.Film.{Film}
use Rattle.rtp_pack.specs.declared.reports.Identity.{Identity}
use Rattle.film_frames.specs.Pieces.{wire_in}
use Rattle.film_frames.specs.Tracks.{IsBoundary, begin_of}
use Rattle.film_frames.specs.FramedRuns.{run_of, pieces_in, run_pieces}
use Rattle.film_frames.proofs.RunBytesLemmas.{blocks_from-count}
use Rattle.film_frames.proofs.RunPieceLemmas.{UnitSpan, run-begin}

-- units of a film, from one on up to another
pub record FilmPart : Type 0 where
  pub film : Film
  pub first : ℕ
  pub end : ℕ
  pub order : first ≤ end
  pub within : end ≤ length film.units.items

pub same-boundaries : {place : ℕ} (part : FilmPart) (one other : Identity)
    → IsBoundary (run_pieces (run_of part.film part.first part.end one)) place
    → IsBoundary (run_pieces (run_of part.film part.first part.end other)) place
same-boundaries {place} part one other b =
    let a_run = run_of film first end one in
    let b_run = run_of film first end other in
    let a = begins one b.number in
    let c = begins other b.number in
    record {
      number = b.number;
      among = omega (
        arith,
        b.among,
        blocks_from-count a_run 0 0 (pieces_in a_run),
        blocks_from-count b_run 0 0 (pieces_in b_run),
      );
      place_is = b.place_is ∙ a ∙ sym c;
    }
  where
    open part use {film, first, end, order, within}

    begins : (identity : Identity) (k : ℕ) → begin_of (run_pieces (run_of film first end identity)) k
        ≡ wire_in (take k (pieces_in (run_of film first end identity)))
    begins identity k =
        let span : UnitSpan = record { film = film; first_unit = first; end_unit = end; identity = identity } in
        run-begin span (run_of film first end identity) k (record { view = refl; order = order; within = within })
