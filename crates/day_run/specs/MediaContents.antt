-- Films and traces as they are played, in the words of a day.
use Rattle.std.specs.Prelude.{ℕ}
use Rattle.mpeg_scan.specs.PictureRates.{picture_time}
use Rattle.day_run.specs.declared.media.Media.{Media}
use Rattle.day_run.specs.declared.media.Media.TheVariants.{Film, Trace}
use Rattle.day_run.specs.MediaPieces.{media_pieces, media_sizes}
use Rattle.day_run.specs.ClientStates.{MediaContent}

-- the time of a picture; a trace has one picture a slot
abbrev pub media_units : ℕ → Media → ℕ
media_units slot_units (Film stored) = picture_time stored.now.film.rate
media_units slot_units (Trace trace) = slot_units

abbrev pub media_content : ℕ → Media → MediaContent
media_content slot_units medium =
    record {
      sizes = media_sizes medium;
      pieces = media_pieces medium;
      picture_units = media_units slot_units medium;
    }
