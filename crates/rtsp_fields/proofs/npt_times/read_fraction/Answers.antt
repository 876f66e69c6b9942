use Rattle.std.proofs.Common.{sym, ◌∙◌}
use Rattle.rtsp_fields.proofs.DigitTexts.{fraction_read}
use Rattle.rtsp_fields.proofs.npt_times.read_fraction.Goals as goal

pub returns : goal.returns
returns c =
    rw (c.unwrap_or-value.ensures, c.pow.ensures)
    (fraction_read c.read_digits.result (sym c.are_digits.ensures ∙ c.if-not-are_digits.false) c.min.ensures
    c.read_digits.ensures)
