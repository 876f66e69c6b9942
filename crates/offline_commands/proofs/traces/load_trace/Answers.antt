use Rattle.std.proofs.Common.{inl}
use Rattle.inputs.proofs.ScanLemmas.{handed_on, read_trouble_map}
use Rattle.offline_commands.proofs.traces.load_trace.Goals as goal

pub returns-in_err-text-clause-error : goal.returns-in_err-text-clause-error
returns-in_err-text-clause-error g c =
    handed_on _ c.from_residual.result c.from_residual.ensures.1 (read_trouble_map _ _ c.in_err-text.field-0.0
    (λ name is. is) (λ held name fault told is missing. inl missing) ((c.in_err-text.ensures {u = tt}).error))
