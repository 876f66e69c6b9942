use Rattle.rtsp_text.proofs.FaultTexts.{headers_are, length_digits, sequence_written}
use Rattle.rtsp_text.proofs.RequestTextLemmas.{form_of}
use Rattle.rtsp_text.proofs.laws.law_read_request_is_well_formed.Goals as goal

pub returns : goal.returns
returns c = record {
  form = λ message method url sequence head body request. form_of request;
  sequence = λ message first texts method url sequence head body has request.
      sequence_written has request.sequence_is;
  length = λ message first texts method url sequence head body value has request field.
      length_digits message (headers_are message first texts has) request.length_is field;
}
