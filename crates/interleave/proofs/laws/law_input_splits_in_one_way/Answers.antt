use Rattle.interleave.proofs.ElementExistence.{has_stream}
use Rattle.interleave.proofs.StreamElements.{TwoStreams, stream_once}
use Rattle.interleave.proofs.laws.law_input_splits_in_one_way.Goals as goal

pub returns : goal.returns
returns c = record {
  some = has_stream;
  one = λ heard one other rest end stream stream'.
      let streams : TwoStreams heard one other rest end = record { one = stream; other = stream' } in
      stream_once streams;
}
