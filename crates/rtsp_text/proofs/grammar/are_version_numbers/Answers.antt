use Rattle.std.proofs.Common.{sym, ◌∙◌}
use Rattle.std.proofs.lemmas.Bool.{both_ways}
use Rattle.rtsp_text.proofs.LineWords.{number_parts, numbers}
use Rattle.rtsp_text.proofs.grammar.are_version_numbers.Goals as goal

pub returns-then-is_decimal : goal.returns-then-is_decimal
returns-then-is_decimal c = (
  λ h. numbers c.args.text.now c.in-Some.major.now c.in-Some.minor.now c.in-Some.ensures
      (sym c.is_decimal.ensures ∙ c.if-is_decimal.true) (sym c.is_decimal-then-is_decimal.ensures ∙ h),
  λ line. c.is_decimal-then-is_decimal.ensures
      ∙ (number_parts c.args.text.now c.in-Some.major.now c.in-Some.minor.now c.in-Some.ensures line).minor_is,
)

pub returns-else-is_decimal : goal.returns-else-is_decimal
returns-else-is_decimal c = (
  λ h. absurd (both_ways c.is_decimal.result c.if-is_decimal.false h),
  λ line. c.is_decimal.ensures
      ∙ (number_parts c.args.text.now c.in-Some.major.now c.in-Some.minor.now c.in-Some.ensures line).major_is,
)
