use Rattle.std.proofs.Common.{refl}
use Rattle.inputs.specs.Videos.{pack_in}
use Rattle.inputs.proofs.StreamFaultLemmas.{fault_in_file}
use Rattle.inputs.proofs.laws.law_stream_fault_counts_from_the_file.Goals as goal

pub returns : goal.returns
returns c = λ file fault is. fault_in_file file fault (pack_in file) refl is
