use Rattle.std.proofs.Common.{ap, sym, codes}
use Rattle.vod_base.specs.Fields.{field}
use Rattle.report.specs.EntryLines.{command_text}
use Rattle.vod_base.proofs.AppendLemmas.{appended_as, cut_before, handed_on, then_appended}
use Rattle.report.proofs.entries.push_command.Goals as goal

pub returns-in_err-push_field-in-Halt : goal.returns-in_err-push_field-in-Halt
returns-in_err-push_field-in-Halt c =
    handed_on c.from_residual.result c.from_residual.ensures.0
    (appended_as (ap command_text (sym c.in-Halt.is))
    (cut_before (field (codes " keep=") c.in-Halt.keep) c.in_err-push_field-in-Halt.ensures))

pub returns-in_ok-push_field-in-Halt : goal.returns-in_ok-push_field-in-Halt
returns-in_ok-push_field-in-Halt c =
    appended_as (ap command_text (sym c.in-Halt.is))
    (then_appended (field (codes " halt number=") c.in-Halt.number) c.in_ok-push_field-in-Halt.ensures.whole
    c.push_field-in-Halt.ensures)
