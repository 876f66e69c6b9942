use Rattle.vod_base.proofs.TextLemmas.{read_written, written_read}
use Rattle.std.proofs.Common.{ap, ◌∙◌}
use Rattle.vod_base.specs.Numbers.{number_of}
use Rattle.vod_base.proofs.laws.law_decimal_text_is_read.Goals as goal

pub returns : goal.returns
returns c = λ text number small.
    (λ read. read_written text number read, λ written. ap number_of written.1 ∙ written_read written.0 number small)
