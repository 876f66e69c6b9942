use Rattle.std.proofs.Common.{arith, sym, ◌∙◌}
use Rattle.rtsp_text.proofs.StatusTexts.{code_read, code_none}
use Rattle.rtsp_text.proofs.status_lines.read_code.Goals as goal

pub overflow_cast-result : goal.overflow_cast-result
overflow_cast-result c =
    omega (
      arith,
      (code_read c.args.text.now c.in_ok-number.number c.if-text-ne3.false
          (sym (c.in_ok-number.ensures.value ∙ c.read_number.ensures.number))).1,
    )

pub returns : goal.returns
returns c =
    (code_read c.args.text.now c.in_ok-number.number c.if-text-ne3.false
    (sym (c.in_ok-number.ensures.value ∙ c.read_number.ensures.number))).0

pub returns-in_err-number : goal.returns-in_err-number
returns-in_err-number c =
    rw c.from_residual.ensures
    (λ code is. code_none c.args.text.now code (sym (c.in_err-number.ensures.value ∙ c.read_number.ensures.number)) is)
