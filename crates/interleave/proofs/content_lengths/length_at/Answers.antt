use Rattle.std.proofs.Common.{rules}
use Rattle.interleave.proofs.HeadSearchResults.{read_value}
use Rattle.interleave.proofs.content_lengths.length_at.Goals as goal

pub returns-in-Some : goal.returns-in-Some
returns-in-Some c =
    read_value {head = c.args.head.now} {text = c.trim.result.now} {at = c.args.at} {text_end = _} {next = _} _
    c.in-Some.ensures.found
    (rw (c.trim.ensures) (search rules)) c.length_of_value.ensures
