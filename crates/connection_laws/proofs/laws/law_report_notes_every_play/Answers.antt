use Rattle.connection_laws.proofs.CourseNotes.{plays_noted, entries_noted}
use Rattle.connection_laws.proofs.CourseTurns.{turns_told}
use Rattle.connection_laws.proofs.laws.law_report_notes_every_play.Goals as goal

pub returns : goal.returns
returns c = record {
  notes = λ films settings words doings report done. plays_noted done;
  turns = λ films settings words doings report done. turns_told done;
  entries = λ films settings words doings report done. entries_noted done;
}
