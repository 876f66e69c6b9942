use Rattle.inputs.proofs.ScanLemmas.{handed_on}
use Rattle.offline_commands.proofs.DayLemmas.{held_as, named_trouble}
use Rattle.offline_commands.proofs.days.load_source.Goals as goal

pub returns-in_ok-film-in-Film-clause-held : goal.returns-in_ok-film-in-Film-clause-held
returns-in_ok-film-in-Film-clause-held g c = λ held told.
    held_as {named = c.args.named.now} held _ (record { kind_is = c.in-Film.is; name_is = c.as_str-name.ensures.value })
    ((c.in_ok-film-in-Film.ensures {u = tt}).film held told)

pub returns-in_err-film-in-Film-clause-error : goal.returns-in_err-film-in-Film-clause-error
returns-in_err-film-in-Film-clause-error g c =
    handed_on _ c.from_residual.result c.from_residual.ensures.1
    (named_trouble {named = c.args.named.now} _ _ _ c.in_err-film-in-Film.field-0.0
    (record { kind_is = c.in-Film.is; name_is = c.as_str-name.ensures.value })
    ((c.in_err-film-in-Film.ensures {u = tt}).error))

pub returns-in_ok-sizes-in-Trace-clause-held : goal.returns-in_ok-sizes-in-Trace-clause-held
returns-in_ok-sizes-in-Trace-clause-held g c = λ held told.
    held_as {named = c.args.named.now} held _
    (record { kind_is = c.in-Trace.is; name_is = c.as_str-name.ensures.value })
    ((c.in_ok-sizes-in-Trace.ensures {u = tt}).held held told)

pub returns-in_err-sizes-in-Trace-clause-error : goal.returns-in_err-sizes-in-Trace-clause-error
returns-in_err-sizes-in-Trace-clause-error g c =
    handed_on _ c.from_residual-in_err-sizes-in-Trace.result c.from_residual-in_err-sizes-in-Trace.ensures.1
    (named_trouble {named = c.args.named.now} _ _ _ c.in_err-sizes-in-Trace.field-0.0
    (record { kind_is = c.in-Trace.is; name_is = c.as_str-name.ensures.value })
    ((c.in_err-sizes-in-Trace.ensures {u = tt}).error))
