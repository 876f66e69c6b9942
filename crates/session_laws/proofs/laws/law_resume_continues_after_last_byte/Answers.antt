use Rattle.session_laws.proofs.RtpNumberLemmas.{resumes}
use Rattle.session_laws.proofs.laws.law_resume_continues_after_last_byte.Goals as goal

pub returns : goal.returns
returns c = resumes
