use Rattle.std.proofs.Common.{◌∙◌, ap}
use Rattle.film_frames.specs.Laws.{payloads}
use Rattle.rtsp_client.proofs.OutputPayloads.{payloads-are}
use Rattle.rtsp_client.proofs.laws.law_output_is_film_bytes.Goals as goal

pub returns : goal.returns
returns c = λ film first_unit end_unit identity order within moments is first at_first last at_last.
    payloads-are moments
    ∙ (ap payloads is
    ∙ c.law_payloads_are_film_bytes.ensures film first_unit end_unit identity order within first at_first last at_last)
