use Rattle.std.proofs.Common.{sym, ◌∙◌}
use Rattle.std.proofs.lemmas.Bool.{both_ways}
use Rattle.rtsp_text.proofs.LineWords.{header_parts, header_line}
use Rattle.rtsp_text.proofs.grammar.is_header_line.Goals as goal

pub returns-then-is_token : goal.returns-then-is_token
returns-then-is_token c = (
  λ h. header_line c.args.text.now c.in-Some.name.now c.in-Some.value.now c.in-Some.ensures
      (sym c.is_token.ensures ∙ c.if-is_token.true) (sym c.has_value_bytes.ensures ∙ h),
  λ line. c.has_value_bytes.ensures
      ∙ (header_parts c.args.text.now c.in-Some.name.now c.in-Some.value.now c.in-Some.ensures line).value_is,
)

pub returns-else-is_token : goal.returns-else-is_token
returns-else-is_token c = (
  λ h. absurd (both_ways c.is_token.result c.if-is_token.false h),
  λ line. c.is_token.ensures
      ∙ (header_parts c.args.text.now c.in-Some.name.now c.in-Some.value.now c.in-Some.ensures line).name_is,
)
