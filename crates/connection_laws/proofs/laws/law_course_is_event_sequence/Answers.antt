use Rattle.connection_laws.proofs.CourseInduction.{follows_all, follows_last, parts_of}
use Rattle.connection_laws.proofs.laws.law_course_is_event_sequence.Goals as goal

pub returns : goal.returns
returns c = record {
  all = follows_all;
  last = λ old mid new rounds round runs last. follows_last old rounds runs last;
  fronts = parts_of;
}
