use Rattle.rtsp_text.proofs.RequestTextLemmas.{request_found, request_of, request_whole, values_of}
use Rattle.rtsp_text.proofs.laws.law_request_round_trips.Goals as goal

pub returns : goal.returns
returns c = record {
  found = request_found;
  whole = request_whole;
  read = request_of;
  values = λ parts name front. values_of parts front name;
}
