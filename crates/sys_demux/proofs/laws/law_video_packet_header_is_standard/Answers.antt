use Rattle.sys_demux.proofs.PacketHeaderLemmas.{header_is}
use Rattle.sys_demux.proofs.laws.law_video_packet_header_is_standard.Goals as goal

pub returns : goal.returns
returns c = header_is
