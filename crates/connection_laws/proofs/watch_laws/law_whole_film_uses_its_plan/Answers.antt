use Rattle.connection_laws.proofs.FirstPlays.{asked_plan}
use Rattle.connection_laws.proofs.watch_laws.law_whole_film_uses_its_plan.Goals as goal

pub returns : goal.returns
returns c = search asked_plan
