use Rattle.std.proofs.Common.{arith, ◌≡◌, length, sum}
use Rattle.film_frames.specs.Tracks.{framed_bytes}
use Rattle.film_frames.proofs.TraceLemmas.{length-zeros}
use Rattle.day_run.specs.declared.media.Media.{Media}
use Rattle.day_run.specs.declared.trace_media.TraceMedia.{TraceMedia}
use Rattle.day_run.specs.MediaPieces.{media_pieces, media_sizes}
use Rattle.day_run.specs.declared.media.Source.TheVariants.{Trace}
use Rattle.day_run.specs.declared.media.Media.TheVariants as played
use Rattle.day_run.proofs.media.Media.as_sending.Goals as goal

trace-length : (medium : Media) (trace : TraceMedia) → medium ≡ played.Trace trace
    → length (framed_bytes (media_pieces medium)) ≡ sum (media_sizes medium)
trace-length medium trace e = grind (arith, length-zeros trace.sizes)

pub returns-in-Trace-clause-all : goal.returns-in-Trace-clause-all
returns-in-Trace-clause-all c = trace-length c.args.self.now c.in-Trace.trace c.in-Trace.is
