use Rattle.day_script.proofs.LineEndLemmas.{empty-line, line-ended, line-last, line-returned}
use Rattle.day_script.proofs.laws.law_script_lines_end_at_line_feeds.Goals as goal

pub returns : goal.returns
returns c = record { ended = line-ended; returned = line-returned; last = line-last; empty = empty-line }
