use Rattle.std.proofs.Common.{◌++◌, ◌≡◌, [], codes, decimal, ap, sym, ◌∙◌}
use Rattle.std.proofs.lemmas.List.{append-nil}
use Rattle.rtsp_text.specs.Replies.{status_line, sequence_line, field_line}
use Rattle.rtsp_text.proofs.ReplyTexts.{two_put, front_start}
use Rattle.rtsp_text.proofs.replies.Reply.start.Goals as goal

pub returns-in-Some-clause-text : goal.returns-in-Some-clause-text
unfolding sequence_line
returns-in-Some-clause-text c =
    let digits : c.as_bytes.result.now ≡ decimal c.in-Some.number = c.as_bytes.ensures.value ∙ c.format.ensures.text in
    let line : field_line (record { name = codes "CSeq"; value = c.as_bytes.result.now })
    ≡ sequence_line c.args.sequence =
    ap (λ t. field_line (record { name = codes "CSeq"; value = t })) digits ∙ sym (ap sequence_line c.in-Some.is) in
    c.put_field.ensures.text ∙ ap (λ t. c.put_status.new.self ++ t) line
    ∙ two_put c.args.self.now (status_line c.args.code) (sequence_line c.args.sequence) c.put_status.ensures.text

pub returns-in-Some-clause-front : goal.returns-in-Some-clause-front
returns-in-Some-clause-front c =
    front_start c.args.code c.args.sequence c.args.self.now c.put_field.new.self (returns-in-Some-clause-text c)

pub returns-in_default-clause-text : goal.returns-in_default-clause-text
unfolding sequence_line
returns-in_default-clause-text c =
    let none : sequence_line c.args.sequence ≡ [] = ap sequence_line c.in_default.is in
    c.put_status.ensures.text
    ∙ ap (λ t. c.args.self.now ++ t)
    (sym (append-nil (status_line c.args.code)) ∙ ap (λ t. status_line c.args.code ++ t) (sym none))

pub returns-in_default-clause-front : goal.returns-in_default-clause-front
returns-in_default-clause-front c =
    front_start c.args.code c.args.sequence c.args.self.now c.put_status.new.self (returns-in_default-clause-text c)
