use Rattle.sys_demux.proofs.VideoPrefixLemmas.{video_begins}
use Rattle.sys_demux.proofs.laws.law_lent_video_is_a_prefix.Goals as goal

pub returns : goal.returns
returns c = λ seen video more whole was.
    video_begins more was.reached
