use Rattle.sys_demux.proofs.ReadingUniqueness.{system_once, video_once, refused_once, not_both}
use Rattle.sys_demux.proofs.laws.law_stream_has_one_reading.Goals as goal

pub returns : goal.returns
returns c = record {
  video = λ bytes one other. video_once bytes one other;
  fault = λ bytes one other. refused_once bytes one other;
  either = λ bytes video fault. not_both bytes video fault;
  items = λ bytes one other a b. system_once bytes one other a b;
}
