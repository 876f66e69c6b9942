use Rattle.std.proofs.Common.{ap}
use Rattle.day_script.specs.TextLines.{texts_at}
use Rattle.day_script.specs.ScriptReading.{reading_of, with_message}
use Rattle.day_script.proofs.script_reader.ScriptBuilder.line_of.Goals as goal

pub returns-in-Pause-clause-line : goal.returns-in-Pause-clause-line
returns-in-Pause-clause-line c = ap (with_message (reading_of c.args.self.now) (texts_at c.args.words.now))
    c.in-Pause.is

pub returns-in-Resume-clause-line : goal.returns-in-Resume-clause-line
returns-in-Resume-clause-line c =
    ap (with_message (reading_of c.args.self.now) (texts_at c.args.words.now)) c.in-Resume.is

pub returns-in-Look-clause-line : goal.returns-in-Look-clause-line
returns-in-Look-clause-line c = ap (with_message (reading_of c.args.self.now) (texts_at c.args.words.now)) c.in-Look.is
