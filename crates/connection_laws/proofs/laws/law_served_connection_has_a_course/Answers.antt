-- A connection's report has a course.
use Rattle.std.proofs.Common.{arith, ◌++◌, List, length, refl}
use Rattle.std.proofs.lemmas.List.{append-nil}
use Rattle.connection_laws.proofs.Terms.{Ending, AtElement, InReply, Round, Stage, ending_rounds, IsCourseBetween}
use Rattle.connection_laws.proofs.Terms.{first_stage}
use Rattle.conn.specs.EventSteps.{RunsAll}
use Rattle.connection_laws.proofs.CourseInduction.{follows_all, follows_last}
use Rattle.conn.proofs.ReplyContents.{CourseEnd}
use Rattle.connection_laws.proofs.laws.law_served_connection_has_a_course.Goals as goal

-- rounds up to the end, and where they lead
record LeadsTo (old : Stage) (rounds : List Round) : Type 0 where
  last : Stage
  follows : IsCourseBetween old rounds last

up_to_end : (old mid : Stage) (rounds : List Round) (ending : Ending) (ended : CourseEnd mid ending)
    → RunsAll old rounds mid → LeadsTo old (rounds ++ ending_rounds ending)
up_to_end old mid rounds (AtElement round) ended runs = grind (arith, follows_last old rounds runs ended.ends.0)
up_to_end old mid rounds (InReply round message outcome front) ended runs =
    record { last = ended.ends.1.mid; follows = follows_last old rounds runs ended.ends.1.runs }
up_to_end old mid rounds _ ended runs = search (append-nil, follows_all)

pub returns : goal.returns
returns c = record {
  served = λ films settings words old_told new_told old new report served. (grind arith);
  course = λ films settings words doings report done.
      let all = up_to_end (first_stage films settings words) done.mid doings.rounds doings.ending
      (record { count = length doings.rounds; end = report.end; new = done.last; ends = done.ends }) done.runs in (
        record {
          films = films;
          settings = settings;
          words = words;
          rounds = doings.rounds ++ ending_rounds doings.ending;
          last = all.last;
          follows = all.follows;
        },
        record { films_are = refl; settings_are = refl; words_are = refl; rounds_are = refl },
      );
}
