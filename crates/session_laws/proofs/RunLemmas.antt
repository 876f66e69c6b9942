-- What a request makes of the runs of a session, for laws on its entire course.
use Rattle.std.proofs.Common.{arith, ◌≡◌, ℕ, ◌+◌, ◌-◌, ◌⊎◌, Bool, true, List, Option, Some, None, refl}
use Rattle.session.proofs.SharedTerms.{AsksHalt, Counts, counts_for, Hears, is_answered, IsFilmAt, IsRequestFor}
use Rattle.session.proofs.SharedTerms.{next_boundary, Offers, Origin, prepared_of, Run, run_of, Segment, sending_of}
use Rattle.session.proofs.SharedTerms.{session_text, SessionState, Setup, Stored}
use Rattle.session.specs.declared.commands.Ask.{Ask}
use Rattle.session.specs.declared.play_requests.PlayRequest.{PlayRequest}
use Rattle.session.specs.declared.states.AfterHalt.{AfterHalt}
use Rattle.session.specs.declared.states.Play.{Play as Played}
use Rattle.session.specs.declared.states.Prepared.{Prepared}
use Rattle.session.specs.declared.commands.Ask.TheVariants.{Reply as AskReply, Play as AskPlay, Halt as AskHalt}
use Rattle.session.specs.declared.commands.Ask.TheVariants.{Look as AskLook, Offer as AskOffer}
use Rattle.session.specs.declared.states.AfterHalt.TheVariants.{Paused}
use Rattle.session.specs.declared.states.Awaited.TheVariants.{Play, Halt, Look, Offer}
use Rattle.session.specs.declared.states.State.TheVariants.{Init, Ready, Playing}
use Rattle.session.specs.RunRequests.{counts_before}
use Rattle.session.proofs.InitialStateLemmas.{HeardMessage, heard_by, PlayInHand}
use Rattle.session.proofs.RequestCaseAnalysis.{Answer, Replies as RepliesAlone, SetsUp as SettlesSetup, StartsPlay}
use Rattle.session.proofs.RequestCaseAnalysis.{HaltsPlay, StopsPlay, EndsSession, TakesLook, SeeksOffer, answer_to}
use Rattle.session.proofs.RequestCaseAnalysis.{settled_init}
pub use Rattle.session.proofs.ResumedPlayLemmas.{of_film as one_film}
pub use Rattle.session_laws.proofs.RtpNumberLemmas.{identity_goes_on as run_goes_on}

-- the same units of a film, of which so many more bytes were sent
pub record IsLeft (run : Run) (keep : ℕ) (left : Run) : Type 0 where
  pub first : left.first_unit ≡ run.first_unit
  pub end : left.end_unit ≡ run.end_unit
  pub sent : left.sent ≡ run.sent + keep

abbrev pub IsLeftBy : Run → ℕ → AfterHalt → Type 0
IsLeftBy run keep (Paused left) = IsLeft run keep left
IsLeftBy run keep _ = Unit {0}

-- ---- the run that a PLAY asks for

-- the paused run goes on, or a new one begins
pub record IsResumedRun (old : SessionState) (paused : Option Run) (run : Run) (counts : Counts) : Type 0 where
  pub paused_is : paused ≡ Some run
  pub counts_are : counts ≡ old.counts

pub record IsBegunRun (old : SessionState) (stored : Stored) (setup : Setup) (paused : Option Run) (run : Run)
    (counts : Counts) : Type 0 where
  pub none_sent : run.sent ≡ 0
  pub counts_are : counts ≡ counts_before stored.film old.source setup old.counts paused

abbrev pub IsNextRun : SessionState → Stored → Setup → Option Run → Run → Counts → Type 0
IsNextRun old stored setup paused run counts =
    IsResumedRun old paused run counts ⊎ IsBegunRun old stored setup paused run counts

wanted_run : (old : SessionState) (stored : Stored) (setup : Setup) (paused : Option Run) (from : Origin)
    (to : Option ℕ) (wanted : PlayRequest) → IsRequestFor stored.film paused from to wanted
    → IsNextRun old stored setup paused (run_of wanted)
    (counts_for stored.film old.source setup old.counts paused wanted)
wanted_run old stored setup paused from to wanted given = grind arith

-- ---- a message, as far as runs go by it

-- a play that is asked for in Ready
pub record AskedPlay (old : SessionState) : Type 0 where
  pub stored : Stored
  pub setup : Setup
  pub paused : Option Run
  pub prepared : Prepared
  pub text : List ℕ
  pub ready : old.state ≡ Ready setup paused
  pub at : IsFilmAt old.films setup.film stored
  pub next : IsNextRun old stored setup paused prepared.run prepared.counts
  pub frames : prepared.frames ≡ sending_of stored.film old.source setup prepared.counts prepared.run

-- a halt that is asked for in Playing, at the next boundary
pub record AskedHalt (old : SessionState) : Type 0 where
  pub setup : Setup
  pub play : Played
  pub keep : ℕ
  pub next : AfterHalt
  pub text : List ℕ
  pub playing : old.state ≡ Playing setup play
  pub told : is_answered next ≡ true
  pub keep_is : keep ≡ next_boundary play.pacer
  pub left : IsLeftBy play.run keep next

pub data RunsAs (old : SessionState) (ask : Ask) (new : SessionState) : Type 0 where
  Replies : (text : List ℕ) (tearing : Bool) → ask ≡ AskReply
      → new ≡ record old { text = text; waits = true; tearing = tearing } → RunsAs old ask new
  SetsUp : (text : List ℕ) (setup : Setup) → old.state ≡ Init → ask ≡ AskReply
      → new ≡ record old { text = text; waits = true; state = Ready setup None } → RunsAs old ask new
  AsksPlay : (play : AskedPlay old) → ask ≡ AskPlay play.prepared.plan
      → new ≡ record old { awaited = Play play.prepared; text = play.text } → RunsAs old ask new
  Stops : (halt : AskedHalt old) → ask ≡ AskHalt halt.keep
      → new ≡ record old {
        state = Playing halt.setup (record halt.play { pacer = record halt.play.pacer { keep = halt.keep } });
        awaited = Halt halt.keep halt.next;
        text = halt.text;
      }
      → RunsAs old ask new
  AsksLook : (sequence : ℕ) → ask ≡ AskLook old.heard
      → new ≡ record old { looks_left = old.looks_left - 1; awaited = Look sequence } → RunsAs old ask new
  AsksOffer : (plan : List Segment) (offers : Offers) (sequence : ℕ) → ask ≡ AskOffer plan offers
      → new ≡ record old { awaited = Offer sequence } → RunsAs old ask new

-- the halt that a PAUSE or a TEARDOWN asks for
abbrev halt_of : {old new : SessionState} {sequence : ℕ} {next : AfterHalt} {ask : Ask} (hand : PlayInHand old)
    (is : AsksHalt old sequence hand.setup hand.play next ask new) → is_answered next ≡ true
    → IsLeftBy hand.play.run is.keep next → AskedHalt old
halt_of {old} {sequence = sequence} {next} hand is told left = record {
  setup = hand.setup;
  play = hand.play;
  keep = is.keep;
  next = next;
  text = session_text sequence old.id;
  playing = hand.playing;
  told = told;
  keep_is = is.keep_is;
  left = left;
}

runs_by : (h : HeardMessage) → Answer h → RunsAs h.old h.ask h.new
runs_by h (RepliesAlone reply is) = Replies _ h.old.tearing is.0 is.1
runs_by h (SettlesSetup film taken setup asks is) = SetsUp _ setup (settled_init taken) is.0 is.1
runs_by h (StartsPlay play planned asks planned_is) =
    let next = wanted_run h.old asks.stored play.setup play.paused planned_is.asked.span.from planned_is.asked.span.to
    planned_is.wanted planned_is.asked.is_wanted in
    AsksPlay (record {
      stored = asks.stored;
      setup = play.setup;
      paused = play.paused;
      prepared = prepared_of h.old asks.stored play.setup planned play.taken.request.sequence;
      text = _;
      ready = play.ready;
      at = planned_is.at;
      next = search arith;
      frames = refl;
    }) asks.command asks.state
runs_by h (HaltsPlay taken hand is) =
    let left : IsLeft hand.play.run is.asks.keep is.left = grind arith in
    Stops (halt_of hand is.asks refl left) is.asks.command is.asks.state
runs_by h (StopsPlay taken hand is) = Stops (halt_of hand is refl tt) is.command is.state
runs_by h (EndsSession taken is) = Replies _ true is.0 is.1
runs_by h (TakesLook taken look) = AsksLook taken.request.sequence look.command look.state
runs_by h (SeeksOffer offer planned is asks) =
    AsksOffer planned.plan asks.offers offer.taken.request.sequence asks.command asks.state

pub runs_as : {old new : SessionState} {message : List ℕ} {ask : Ask} → Hears old message ask new → RunsAs old ask new
runs_as hears = runs_by (heard_by hears) (answer_to (heard_by hears))
