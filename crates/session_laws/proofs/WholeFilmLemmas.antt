-- A PLAY from a film's beginning, without an end, asks for the entire film.
use Rattle.std.proofs.Common.{◌≡◌, ◌≤◌, [], Some, None, length, codes, refl, arith}
use Rattle.session.proofs.SharedTerms.{IsAskedRun, IsSpan, picture_time, Run, run_of, Stored}
use Rattle.session.specs.declared.play_requests.PlayRequest.{PlayRequest}
use Rattle.rtsp_fields.proofs.DescriptionLines.{zero_time}
use Rattle.rtsp_fields.proofs.RangeTexts.{span_read}
use Rattle.rtsp_fields.proofs.SeparatedTexts.{other_than}
use Rattle.rtsp_fields.specs.declared.ranges.Origin.TheVariants.{At}
use Rattle.rtsp_fields.proofs.FieldUniqueness.{span_once}
use Rattle.session_laws.specs.PlayLaws.{unsent_run}

-- the run of all units of a film, of which nothing was sent
abbrev whole_of : Stored → Run
whole_of stored = unsent_run 0 (length stored.film.units.items)

from-zero : IsSpan (codes "npt=0-") (record { from = At 0; to = None })
unfolding other_than
from-zero = span_read (codes "0") [] (record { from = At 0; to = None }) refl zero_time refl

pub asked-whole : (stored : Stored) (wanted : PlayRequest) → 1 ≤ picture_time stored.film.rate
    → IsAskedRun stored.film None (Some (codes "npt=0-")) wanted → run_of wanted ≡ whole_of stored
asked-whole stored wanted some asked =
    let span = span_once (codes "npt=0-") asked.span (record { from = At 0; to = None }) asked.is_span from-zero in
    (grind arith)
