use Rattle.std.proofs.Common.{◌≡◌, ap, sym, refl, ◌∙◌, true, false}
use Rattle.rtsp_fields.specs.SeparatedParts.{in_lower_case}
use Rattle.rtsp_fields.proofs.PartLemmas.{other_protocol, taken_channels}
use Rattle.rtsp_fields.proofs.transports.read_alternative.Goals as goal

pub returns : goal.returns
returns c =
    taken_channels c.channels_of.result c.part_end-end.ensures
    (ap in_lower_case (sym c.trim.ensures) ∙ c.if-not-eq_ignore_ascii_case.ensures.test.0 refl)
    (c.if-not-is_plain.ensures.0 refl) c.channels_of.ensures

pub returns-then-not-eq_ignore_ascii_case : goal.returns-then-not-eq_ignore_ascii_case
returns-then-not-eq_ignore_ascii_case c = λ channels t.
    other_protocol c.args.text.now c.part_end-end.result channels c.part_end-end.ensures
    (λ same. let bad : false ≡ true =
    c.if-not-eq_ignore_ascii_case.ensures.test.1 (ap in_lower_case c.trim.ensures ∙ same) in cc) t
