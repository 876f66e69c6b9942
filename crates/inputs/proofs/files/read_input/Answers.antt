use Rattle.inputs.proofs.ScanLemmas.{handed_on}
use Rattle.inputs.proofs.LibraryLemmas.{then_read}
use Rattle.inputs.proofs.files.read_input.Goals as goal

pub returns-in_err-size-clause-error : goal.returns-in_err-size-clause-error
returns-in_err-size-clause-error g c =
    handed_on _ c.from_residual.result c.from_residual.ensures.1 ((c.in_err-size.ensures {u = tt}).error)

pub returns-clause-library : goal.returns-clause-library
returns-clause-library g c = then_read c.find_file.ensures.library c.read_bytes.ensures.library
