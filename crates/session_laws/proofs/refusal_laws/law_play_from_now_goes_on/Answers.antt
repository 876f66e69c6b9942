use Rattle.session_laws.proofs.RefusalLawLemmas.{now_begins, now_resumes}
use Rattle.session_laws.proofs.refusal_laws.law_play_from_now_goes_on.Goals as goal

pub returns : goal.returns
returns c = record { begins = now_begins; resumes = now_resumes }
