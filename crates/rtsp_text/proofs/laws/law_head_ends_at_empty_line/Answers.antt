use Rattle.rtsp_text.proofs.EndedLines.{head_found}
use Rattle.rtsp_text.proofs.laws.law_head_ends_at_empty_line.Goals as goal

pub returns : goal.returns
returns c = λ first headers last later ended all empty.
    head_found later (record { first_is = ended; headers_are = all; last_is = empty })
