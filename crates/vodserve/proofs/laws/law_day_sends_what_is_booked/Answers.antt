use Rattle.day_run.specs.Days.{link_of}
use Rattle.day_run.proofs.DayPrefixLemmas.{day-keeps}
use Rattle.vodserve.proofs.laws.law_day_sends_what_is_booked.Goals as goal

pub returns : goal.returns
returns c = λ store streams run ended ran count.
    day-keeps {link = link_of run.capacity run.journal run.slot ran.sources} count ran.clients ran.lines ran.ran.day
    ran.ran.legal
