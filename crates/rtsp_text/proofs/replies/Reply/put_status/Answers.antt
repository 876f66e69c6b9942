use Rattle.std.proofs.Common.{◌++◌, ◌≡◌, codes, decimal, ap, ◌∙◌}
use Rattle.rtsp_text.specs.Replies.{phrase, status_line}
use Rattle.rtsp_text.proofs.ReplyTexts.{two_put}
use Rattle.rtsp_text.proofs.replies.Reply.put_status.Goals as goal

pub returns-clause-text : goal.returns-clause-text
unfolding status_line
returns-clause-text c =
    let digits : c.as_bytes.result.now ≡ decimal c.args.code = c.as_bytes.ensures.value ∙ c.format.ensures.text in
    let old = c.args.self.now in
    let version = codes "RTSP/1.0 " in
    let code = decimal c.args.code in
    let with_code =
    c.put-2.ensures.text ∙ ap (λ t. c.put.new.self ++ t) digits ∙ two_put old version code c.put.ensures.text in
    let with_phrase =
    c.put-4.ensures.text ∙ ap (λ t. c.put-3.new.self ++ t) c.phrase.ensures.text
    ∙ two_put old (version ++ code ++ codes " ") (phrase c.args.code)
    (c.put-3.ensures.text ∙ two_put old (version ++ code) (codes " ") with_code) in
    c.put-5.ensures.text ∙ two_put old (version ++ code ++ codes " " ++ phrase c.args.code) (codes "\r\n") with_phrase
