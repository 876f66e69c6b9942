use Rattle.vod_base.proofs.LineLemmas.{carriage_line, feed_line, one_line}
use Rattle.vod_base.proofs.laws.law_line_ends_at_lf_or_crlf.Goals as goal

pub returns : goal.returns
returns c = record {
  carriage = carriage_line;
  feed = feed_line;
  one = λ bytes at one other next after is are. one_line (one, next) (other, after) is are;
}
