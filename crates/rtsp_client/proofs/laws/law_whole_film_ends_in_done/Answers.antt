use Rattle.std.proofs.Common.{◌^◌, ◌<◌, ◌∷◌, [], length, sym, append_assoc, ◌∙◌}
use Rattle.mpeg_scan.specs.declared.films.Film.{Film}
use Rattle.rtp_pack.specs.declared.reports.Identity.{Identity}
use Rattle.film_frames.specs.FramedRuns.{run_of}
use Rattle.rtsp_client.specs.ClientHistory.{Frame}
use Rattle.rtsp_client.specs.MeterGuarantee.{frames_heard}
use Rattle.rtsp_client.proofs.WholeFilms.{SentFilm, all-accepted, awaits-on, film-complete, film-done, next-good}
use Rattle.rtsp_client.proofs.WholeFilms.{nothing-before, teardown-last}
use Rattle.rtsp_client.proofs.laws.law_whole_film_ends_in_done.Goals as goal
use Rattle.rtsp_client.proofs.laws.law_whole_film_ends_in_done.Goals.{After-law_packets_respect_slices}

abbrev sent : After-law_packets_respect_slices → (film : Film) (identity : Identity) → identity.ssrc < 2 ^ 32
    → SentFilm
sent c film identity small = record {
  film = film;
  identity = identity;
  uncut = c.law_packets_respect_slices.ensures.headers;
  numbers = c.law_sequence_numbers_are_consecutive.ensures.numbers (run_of film 0 (length film.units.items) identity);
  small = small;
}

pub returns : goal.returns
returns c = record {
  frame = λ film identity h block rest small awaits are.
      next-good (sent c film identity small) (record { rest = rest; awaits = awaits; are = are });
  frames = λ film identity h events rest small awaits none are.
      all-accepted (sent c film identity small) h events awaits none (rest, are);
  before = λ film identity wish h block next rest small awaits are.
      nothing-before (sent c film identity small) wish (record {
        rest = rest;
        awaits = awaits-on (Frame block) tt awaits;
        are = are ∙ sym (append_assoc (frames_heard h) (block ∷ []) (next ∷ rest));
      });
  last = λ film identity wish h block small awaits are.
      teardown-last (sent c film identity small) wish h block awaits are;
  done = λ film identity wish h message small awaits are two answer.
      film-done wish (film-complete (sent c film identity small) awaits are) two answer;
}
