-- What the plays of a day send, as the sizes of its units and as its frames and reports.
use Rattle.std.specs.Prelude.{ℕ, List, length}
use Rattle.rtp_pack.specs.declared.reports.Identity.{Identity}
use Rattle.film_frames.specs.declared.stored_films.Stored.{Stored}
use Rattle.film_frames.specs.FramedRuns.{run_of, run_pieces}
use Rattle.film_frames.specs.Tracks.{zero_frames}
use Rattle.film_run.specs.Units.{stored_sizes}
use Rattle.day_run.specs.declared.media.Media.{Media}
use Rattle.day_run.specs.declared.media.Media.TheVariants as media
use Rattle.day_run.specs.declared.media.Sending.{Sending}
use Rattle.day_run.specs.declared.media.Sending.TheVariants as sendings

-- the identity of what is sent, which nobody receives
abbrev pub no_identity : Identity
no_identity = record {
  channel = 0;
  control = 0;
  ssrc = 0;
  sequence = 0;
  timestamp = 0;
  packets = 0;
  octets = 0;
}

-- all reports and frames of a film, and all frames of a trace
abbrev pub film_pieces : Stored → List (List ℕ)
film_pieces stored = run_pieces (run_of stored.film 0 (length stored.film.units.items) no_identity)

abbrev pub media_sizes : Media → List ℕ
media_sizes (media.Film stored) = stored_sizes stored.now
media_sizes (media.Trace trace) = trace.sizes

abbrev pub media_pieces : Media → List (List ℕ)
media_pieces (media.Film stored) = film_pieces stored.now
media_pieces (media.Trace trace) = zero_frames trace.sizes

abbrev pub sending_pieces : Sending → List (List ℕ)
sending_pieces (sendings.Film frames) = run_pieces frames
sending_pieces (sendings.Trace track) = zero_frames track.now
