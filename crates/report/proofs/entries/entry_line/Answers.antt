use Rattle.std.proofs.Common.{◌++◌, ap, codes, decimal}
use Rattle.vod_base.specs.Fields.{field}
use Rattle.report.specs.EntryLines.{answer_text, command_text}
use Rattle.vod_base.proofs.AppendLemmas.{appended_as, both, cut_before, handed_on, none_appended, then_appended}
use Rattle.report.proofs.entries.entry_line.Goals as goal

pub returns-in_err-push_number : goal.returns-in_err-push_number
returns-in_err-push_number c =
    none_appended c.from_residual.result c.from_residual.ensures.0 c.in_err-push_number.ensures.kept

pub returns-in_err-push_field : goal.returns-in_err-push_field
returns-in_err-push_field c =
    let entry = c.args.entry.now in
    let place = decimal c.args.place in
    let words = ap
    (λ n. place ++ field (codes " seat=") n ++ command_text entry.command ++ answer_text entry.answer
    ++ codes "\n") c.from.ensures in
    handed_on c.from_residual-in_err-push_field.result c.from_residual-in_err-push_field.ensures.0
    (appended_as words (cut_before (codes "\n")
    (cut_before (answer_text entry.answer) (cut_before (command_text entry.command)
    (then_appended place c.in_ok-push_number.ensures.whole c.in_err-push_field.ensures)))))

pub returns-in_err-push_command : goal.returns-in_err-push_command
returns-in_err-push_command c =
    let entry = c.args.entry.now in
    let place = decimal c.args.place in
    let seat = field (codes " seat=") c.from.result in
    let words = ap
    (λ n. place ++ field (codes " seat=") n ++ command_text entry.command ++ answer_text entry.answer
    ++ codes "\n") c.from.ensures in
    let head = both _ place seat c.in_ok-push_number.ensures.whole c.in_ok-push_field.ensures.whole in
    handed_on c.from_residual-in_err-push_command.result c.from_residual-in_err-push_command.ensures.0
    (appended_as words
    (cut_before (codes "\n")
    (cut_before (answer_text entry.answer) (then_appended (place ++ seat) head c.in_err-push_command.ensures))))

pub returns-in_err-push_answer : goal.returns-in_err-push_answer
returns-in_err-push_answer c =
    let entry = c.args.entry.now in
    let place = decimal c.args.place in
    let seat = field (codes " seat=") c.from.result in
    let command = command_text entry.command in
    let words = ap
    (λ n. place ++ field (codes " seat=") n ++ command ++ answer_text entry.answer ++ codes "\n") c.from.ensures in
    let head = both _ place seat c.in_ok-push_number.ensures.whole c.in_ok-push_field.ensures.whole in
    let asked = both _ (place ++ seat) command head c.in_ok-push_command.ensures.whole in
    handed_on c.from_residual-in_err-push_answer.result c.from_residual-in_err-push_answer.ensures.0
    (appended_as words (cut_before (codes "\n")
    (then_appended (place ++ seat ++ command) asked c.in_err-push_answer.ensures)))

pub returns : goal.returns
returns c =
    let entry = c.args.entry.now in
    let place = decimal c.args.place in
    let seat = field (codes " seat=") c.from.result in
    let command = command_text entry.command in
    let answer = answer_text entry.answer in
    let words = ap (λ n. place ++ field (codes " seat=") n ++ command ++ answer ++ codes "\n") c.from.ensures in
    let head = both _ place seat c.in_ok-push_number.ensures.whole c.in_ok-push_field.ensures.whole in
    let asked = both _ (place ++ seat) command head c.in_ok-push_command.ensures.whole in
    let answered = both _ (place ++ seat ++ command) answer asked c.in_ok-push_answer.ensures.whole in
    appended_as words (then_appended (place ++ seat ++ command ++ answer) answered c.push.ensures)
