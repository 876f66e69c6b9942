use Rattle.std.proofs.Common.{refl, sym, ap, subst, ◌∙◌}
use Rattle.std.proofs.lemmas.Bool.{both_ways}
use Rattle.rtsp_text.specs.Grammar.{is_token, IsUrl, IsVersion}
use Rattle.rtsp_text.proofs.CutUniqueness.{cut_none, cut_once}
use Rattle.rtsp_text.proofs.LineWords.{line_parts, token_without}
use Rattle.rtsp_text.proofs.grammar.request_line.Goals as goal
use Rattle.rtsp_text.proofs.grammar.request_line.Goals.{else-is_token-via-then-is_token+then-is_url+else-is_version}
use Rattle.rtsp_text.proofs.grammar.request_line.Goals.{else-is_token-via-then-is_token+else-is_url}
use Rattle.rtsp_text.proofs.grammar.request_line.Goals.{else-is_token-via-else-is_token}

pub returns-in_err-url : goal.returns-in_err-url
returns-in_err-url c =
    rw c.from_residual-in_err-url.ensures
    (λ m u v line. cut_none 32 c.in_ok-method.rest.now u v c.in_err-url.ensures
    (cut_once c.in_ok-method.ensures line.parts (token_without 32 refl m line.method_is)).after)

pub returns-else-is_token : goal.returns-else-is_token
returns-else-is_token c = λ m u v line.
    let same = line_parts c.in_ok-method.ensures c.in_ok-url.ensures line in
    elim c.else-is_token.branch [
      | else-is_token-via-then-is_token+then-is_url+else-is_version w ↦
          both_ways w.is_version.result w.if-is_version.false
          (w.is_version.ensures.1 (subst IsVersion (sym same.version_is) line.version_is))
      | else-is_token-via-then-is_token+else-is_url w ↦
          both_ways w.is_url.result w.if-is_url.false (w.is_url.ensures.1 (subst IsUrl (sym same.url_is) line.url_is))
      | else-is_token-via-else-is_token w ↦
          both_ways c.is_token.result w.if-is_token.false
          (c.is_token.ensures ∙ ap is_token same.method_is ∙ line.method_is)
    ]
