use Rattle.std.proofs.Common.{◌≡◌, ◌++◌, ◌∷◌, ℕ, List, codes, length, get_or, refl, sym, ap, subst, ◌∙◌, arith}
use Rattle.std.proofs.lemmas.Bool.{both_ways, eqb-true}
use Rattle.rtsp_text.specs.StatusLines.{IsCode}
use Rattle.rtsp_text.proofs.CutUniqueness.{cut_none, cut_once}
use Rattle.rtsp_text.proofs.LineIteration.{some_bytes}
use Rattle.rtsp_text.proofs.StatusTexts.{status_parts}
use Rattle.rtsp_text.proofs.status_lines.status_line.Goals as goal
use Rattle.rtsp_text.proofs.status_lines.status_line.Goals.{then-not-is_rtsp_1_0-via-then-not-is_rtsp_1_0}
use Rattle.rtsp_text.proofs.status_lines.status_line.Goals.{then-not-is_rtsp_1_0-via-else-not-is_rtsp_1_0+then-is_empty}
use Rattle.rtsp_text.proofs.status_lines.status_line.Goals.{then-not-is_rtsp_1_0-via-else-not-is_rtsp_1_0+else-is_empty+then-phrase-eq32}

pub returns-in_err-digits : goal.returns-in_err-digits
returns-in_err-digits c =
    rw c.from_residual-in_err-digits.ensures
    (λ code phrase line. cut_none 32 _ line.digits phrase c.in_err-digits.ensures
    (cut_once {a = codes "RTSP/1.0"} c.in_ok-version.ensures line.parts refl).after)

pub returns-then-not-is_rtsp_1_0 : goal.returns-then-not-is_rtsp_1_0
returns-then-not-is_rtsp_1_0 c = λ code phrase line.
    let same = status_parts c.in_ok-version.ensures c.in_ok-digits.ensures line in
    elim c.then-not-is_rtsp_1_0.branch [
      | then-not-is_rtsp_1_0-via-then-not-is_rtsp_1_0 w ↦
          both_ways c.is_rtsp_1_0.result w.if-not-is_rtsp_1_0.true (c.is_rtsp_1_0.ensures.1 same.version_is)
      | then-not-is_rtsp_1_0-via-else-not-is_rtsp_1_0+then-is_empty w ↦
          let none : length c.in_ok-digits.phrase.now ≡ 0 =
          eqb-true (length c.in_ok-digits.phrase.now) 0 (sym w.is_empty.ensures ∙ w.if-is_empty.true) in
          omega (arith, none, ap length same.phrase_is, line.some)
      | then-not-is_rtsp_1_0-via-else-not-is_rtsp_1_0+else-is_empty+then-phrase-eq32 w ↦
          line.no_space (ap (λ (r : List ℕ). get_or r 0 0) (sym same.phrase_is) ∙ w.if-phrase-eq32.true)
    ]

pub returns : goal.returns
returns c = record {
  digits = c.in_ok-digits.digits.now;
  parts = c.in_ok-version.ensures.parts ∙ ap (λ v. v ++ 32 ∷ c.in_ok-version.rest.now)
      (c.is_rtsp_1_0.ensures.0 c.if-not-is_rtsp_1_0.false)
      ∙ ap (λ t. codes "RTSP/1.0" ++ 32 ∷ t) c.in_ok-digits.ensures.parts;
  is_code = c.in_ok-code.ensures;
  some = some_bytes c.in_ok-digits.phrase.now (sym c.is_empty.ensures ∙ c.if-is_empty.false);
  no_space = c.if-phrase-eq32.false;
}

pub returns-in_err-code : goal.returns-in_err-code
returns-in_err-code c =
    rw c.from_residual-in_err-code.ensures
    (λ code phrase line. c.in_err-code.ensures code (subst (λ (d : List ℕ). IsCode d code)
    (sym (status_parts c.in_ok-version.ensures c.in_ok-digits.ensures line).digits_are) line.is_code))
