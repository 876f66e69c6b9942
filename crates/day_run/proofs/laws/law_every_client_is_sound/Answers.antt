use Rattle.std.proofs.Common.{length}
use Rattle.day_run.proofs.ScriptLines.{run_of}
use Rattle.day_run.proofs.DayUniqueness.{morning-sound, run-sound}
use Rattle.day_run.proofs.laws.law_every_client_is_sound.Goals as goal

pub returns : goal.returns
returns c = λ link lines texts moment client link-is clients are run.
    (run-sound lines texts (run_of link (length link.media) lines texts moment clients are run) link-is
    morning-sound).each client
