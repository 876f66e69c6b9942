use Rattle.sys_demux.proofs.StandardStreamLemmas.{stream_read}
use Rattle.sys_demux.proofs.laws.law_standard_stream_is_unwrapped.Goals as goal

pub returns : goal.returns
returns c = stream_read
