use Rattle.std.proofs.Common.{◌≡◌, ℕ, map, get_or, arith, ap}
use Rattle.film_make.specs.Generator.{words_after}
use Rattle.day_run.specs.ClientStates.{Idle}
use Rattle.std.proofs.lemmas.Grind.{common_steps}
use Rattle.day_run.specs.declared.clients.Client.{Client}
use Rattle.day_run.specs.Clients.{state_of}
use Rattle.day_run.specs.FairDays.{words_for}
use Rattle.day_run.proofs.FairLines.{no-words}
use Rattle.day_run.proofs.fairs.turn_client.Goals.{After-index}
use Rattle.day_run.proofs.fairs.turn_client.Goals as goal

-- no word is drawn
none-drawn : {w : ℕ → ℕ} (c : After-index) → words_for (state_of c.index.result.now) ≡ 0
    → w ≡ words_after (words_for (get_or (map state_of c.args.machine.now.clients.items) c.args.client Idle)) w
none-drawn c none =
    no-words c.args.machine.now.clients.items c.args.client c.index.result.now c.requires.machine.count
    c.ranges.client.fits c.index.ensures none

pub returns-in-Playing-clause-left : goal.returns-in-Playing-clause-left
returns-in-Playing-clause-left c =
    none-drawn (goal.at.returns-in-Playing-clause-left c).After-index
    (ap (λ (x : Client). words_for (state_of x)) c.in-Playing.is)

pub returns-in-Pausing-clause-left : goal.returns-in-Pausing-clause-left
returns-in-Pausing-clause-left c =
    none-drawn (goal.at.returns-in-Pausing-clause-left c).After-index
    (ap (λ (x : Client). words_for (state_of x)) c.in-Pausing.is)

pub returns-in_ok-resume-in-Paused-clause-left : goal.returns-in_ok-resume-in-Paused-clause-left
returns-in_ok-resume-in-Paused-clause-left c =
    none-drawn (goal.at.returns-in_ok-resume-in-Paused-clause-left c).After-index
    (ap (λ (x : Client). words_for (state_of x)) c.in-Paused.is)

pub returns-in-Playing-clause-done : goal.returns-in-Playing-clause-done
returns-in-Playing-clause-done c = grind (arith, common_steps)

pub returns-in-Pausing-clause-done : goal.returns-in-Pausing-clause-done
returns-in-Pausing-clause-done c = grind (arith, common_steps)

pub returns-in_ok-resume-in-Paused-clause-done : goal.returns-in_ok-resume-in-Paused-clause-done
returns-in_ok-resume-in-Paused-clause-done c = grind (arith, common_steps)
