use Rattle.sys_demux.proofs.StandardFaultLemmas.{byte_refused, code_refused, end_refused, pack_refused, packet_refused}
use Rattle.sys_demux.proofs.laws.law_bad_items_are_refused_at_their_place.Goals as goal

pub returns : goal.returns
returns c = record {
  pack = pack_refused;
  packet = λ elements front stream content are fits first never.
      packet_refused elements front are (record { fits = fits; first_is = first; never = never });
  code = code_refused;
  byte = byte_refused;
  end = λ elements element count are is begun short. end_refused elements element count are is (begun, short);
}
