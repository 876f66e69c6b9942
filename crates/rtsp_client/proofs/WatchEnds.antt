-- An answer, from its parts.
use Rattle.std.proofs.Common.{◌≡◌, ℕ, List, Some}
use Rattle.std.specs.Prelude.{codes}
use Rattle.rtsp_text.specs.Lines.{first_line}
use Rattle.rtsp_text.specs.StatusLines.{IsStatusLine}
use Rattle.rtsp_client.specs.Replies.{IsAnswer, number_in}

pub answer_is : (message : List ℕ) (number code : ℕ) (phrase : List ℕ) → IsStatusLine (first_line message) code phrase
    → number_in message (codes "CSeq") ≡ Some number → IsAnswer message number code
answer_is message number code phrase line sequence = record { phrase = phrase; line = line; sequence = sequence }
