-- What a reply other than 200 leaves, and what plays on.
use Rattle.std.proofs.Common.{arith, ◌≡◌, ℕ, List}
use Rattle.session.proofs.SharedTerms.{AsksNoHalt, Hears, LeavesOr, Played, Playing, PlaysOn, SessionState, Setup}
use Rattle.session.specs.declared.commands.Ask.TheVariants.{Reply}
use Rattle.session.proofs.InitialStateLemmas.{HeardMessage, heard_by}
use Rattle.session.proofs.RequestCaseAnalysis.{answer_to}

-- in Playing a request that asks for no halt leaves the play
pub hears_plays : (heard : HeardMessage) (setup : Setup) (play : Played) → heard.old.state ≡ Playing setup play
    → AsksNoHalt heard.ask → PlaysOn heard.old heard.new
hears_plays heard setup play is = grind (arith, answer_to heard)

pub hears_leaves : (old new : SessionState) (message : List ℕ) → Hears old message Reply new → LeavesOr old new
hears_leaves old new message hears = grind (arith, answer_to (heard_by hears))
