use Rattle.connection_laws.proofs.InputSplits.{lack_fronts, same_fronts, two_cuttings}
use Rattle.connection_laws.proofs.laws.law_output_ignores_segmentation.Goals as goal

pub returns : goal.returns
returns c = record { same = two_cuttings; answers = same_fronts; memory = lack_fronts }
