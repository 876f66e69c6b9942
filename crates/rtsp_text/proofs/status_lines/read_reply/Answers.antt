use Rattle.std.proofs.Common.{ℕ, List, length, sym, subst, ◌∙◌}
use Rattle.rtsp_text.specs.StatusLines.{IsStatusLine}
use Rattle.rtsp_text.proofs.MessageUniqueness.{split_at}
use Rattle.rtsp_text.proofs.RequestBounds.{lengths_of}
use Rattle.rtsp_text.proofs.StatusTexts.{line_once}
use Rattle.rtsp_text.proofs.status_lines.read_reply.Goals as goal

pub returns-in_err-code-clause-read : goal.returns-in_err-code-clause-read
returns-in_err-code-clause-read c =
    rw c.from_residual.ensures
    (λ code phrase line. c.in_err-code.ensures code phrase
    (subst (λ (t : List ℕ). IsStatusLine t code phrase) (sym c.first_line.ensures) line))

pub returns-in_err-code-clause-replies : goal.returns-in_err-code-clause-replies
returns-in_err-code-clause-replies c =
    rw c.from_residual.ensures
    (λ code phrase head body is. c.in_err-code.ensures code phrase
    (subst (λ (t : List ℕ). IsStatusLine t code phrase) (sym c.first_line.ensures) is.line))

pub returns : goal.returns
returns c =
    let lengths = lengths_of c.requires c.split.ensures in
    let line = subst (λ (t : List ℕ). IsStatusLine t c.in_ok-code.code c.in_ok-code.phrase.now) c.first_line.ensures
    c.in_ok-code.ensures in record {
      read = record { split = c.split.ensures; line = line; body_is = lengths.body_is };
      replies = λ code phrase head body is.
          let same = line_once line is.line in
          let one = split_at (length head) c.split.ensures is.split.is_head in
          let other = split_at (length head) is.split is.split.is_head in
          (same.0, same.1, one.0 ∙ sym other.0, one.1 ∙ sym other.1);
      head = lengths.head_short;
      body = lengths.body_short;
    }
