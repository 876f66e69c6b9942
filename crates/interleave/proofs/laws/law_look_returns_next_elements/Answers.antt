use Rattle.interleave.proofs.StreamElements.{next_elements, tells_none}
use Rattle.interleave.proofs.laws.law_look_returns_next_elements.Goals as goal

pub returns : goal.returns
returns c = record {
  elements = λ heard rest elements answer first cut. next_elements rest answer first heard elements cut;
  none = tells_none;
}
