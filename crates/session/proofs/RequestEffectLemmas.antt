-- What each request changes of a session.
use Rattle.std.proofs.Common.{arith, ℕ, List, codes, Result, Ok, Err, refl, subst, inl, inr}
use Rattle.session.proofs.SharedTerms.{Ask, AsksNoHalt, AsksOrLacks, AsksPlay, AsksPlayOr, AwaitsNoStop, CanBePlayed}
use Rattle.session.proofs.SharedTerms.{ChangesState, header_value, Hears, IsGoodPlay, IsJudged, IsPlanned, IsPlannedRun}
use Rattle.session.proofs.SharedTerms.{IsPlayAskedFor, IsReadAs, IsSameContext, Memory, Planned, play_call, Plays}
use Rattle.session.proofs.SharedTerms.{Refusal, Request, SessionState, State, Takes, Task}
use Rattle.session.specs.declared.refusals.Task.TheVariants.{Play as ToPlay}
use Rattle.session.proofs.InitialStateLemmas.{HeardMessage, heard_by}
use Rattle.session.proofs.ResumedPlayLemmas.{of_film}
use Rattle.session.proofs.RequestCaseAnalysis.{Answer, SetsUp, StartsPlay, HaltsPlay, StopsPlay, InReady, ReadyPlay}
use Rattle.session.proofs.RequestCaseAnalysis.{TakenTask, TakesLook, SeeksOffer, answer_to, asked_by, by_answer}
use Rattle.session.proofs.RequestCaseAnalysis.{made_by, settled_ranges}

play_asked : {planned : Planned} {h : HeardMessage} (play : ReadyPlay h)
    (asks : AsksPlay h.old play.taken.request.sequence play.asked.authority.now play.setup planned h.ask h.new)
    → IsPlanned h.old play.setup play.paused (header_value play.taken.request.head.now (codes "Range")) (Ok planned)
    → IsPlayAskedFor h.old h.ask h.new
play_asked {planned} {h} play asks is = record {
  play = record {
    setup = play.setup;
    paused = play.paused;
    range = _;
    stored = asks.stored;
    planned = planned;
    sequence = play.taken.request.sequence;
    authority = play.asked.authority.now;
    ready = play.ready;
    planned_is = of_film h.old.films play.setup.film is.0 (λ s. IsPlannedRun h.old s play.setup play.paused
        (header_value play.taken.request.head.now (codes "Range")) planned) is.1.at is.1 asks.stored asks.at;
    awaited = rw asks.state refl;
    text = rw asks.state refl;
  };
  command = asks.command;
}

answer_changes : {h : HeardMessage} (answer : Answer h) → ChangesState (asked_by answer) h.old (made_by answer)
answer_changes (SetsUp film taken setup asks is) = grind (arith, settled_ranges taken asks)
answer_changes (StartsPlay play planned asks planned_is) =
    (refl, rw (asks.command, asks.state) at (play_asked play asks (asks.stored, planned_is)))
answer_changes (HaltsPlay taken hand is) = grind arith
answer_changes (StopsPlay taken hand is) = grind arith
answer_changes (TakesLook taken look) = refl
answer_changes (SeeksOffer offer planned is asks) = refl
answer_changes _ = inl refl

pub hears_ground : (old new : SessionState) (message : List ℕ) (ask : Ask) → Hears old message ask new
    → IsSameContext old new
hears_ground old new message ask hears =
    let answer = answer_to (heard_by hears) in by_answer (λ a s. IsSameContext old s) answer (grind arith)

pub hears_state : (old new : SessionState) (message : List ℕ) (ask : Ask) → Hears old message ask new
    → ChangesState ask old new
hears_state old new message ask hears =
    let answer = answer_to (heard_by hears) in by_answer (λ a s. ChangesState a old s) answer (answer_changes answer)

pub hears_unstopped : (old new : SessionState) (message : List ℕ) (ask : Ask) → Hears old message ask new
    → AsksNoHalt ask → AwaitsNoStop old → AwaitsNoStop new
hears_unstopped old new message ask hears = grind (arith, answer_to (heard_by hears))

good_starts : (h : HeardMessage) (play : ReadyPlay h) → IsGoodPlay h.old play.setup play.paused play.taken.request
    → (planned : Result Planned Refusal)
    → IsPlanned h.old play.setup play.paused (header_value play.taken.request.head.now (codes "Range")) planned
    → AsksPlayOr h.old (play_call play.taken.request.sequence play.asked.authority.now play.setup) planned h.ask h.new
    → AsksOrLacks h.old h.ask h.new
good_starts h play good (Ok planned) is (inl asks) = inl (play_asked play asks is)
good_starts h play good (Ok planned) is (inr refused) = search arith
good_starts h play good (Err Memory) is refused = search arith
good_starts h play good (Err refusal) is refused = absurd (good.plan refusal (grind arith) is)

good_takes : (h : HeardMessage) (request : Request) (film : InReady h.old) (judgement : Result Task Refusal)
    → IsReadAs h.message request → IsGoodPlay h.old film.setup film.paused request
    → IsJudged h.old.films h.old.id h.old.state request judgement → Takes h.old request judgement h.ask h.new
    → AsksOrLacks h.old h.ask h.new
good_takes h request film (Ok (ToPlay asked)) read good judged takes =
    let is = subst (λ (s : State). Plays s h.old request asked.authority.now h.ask h.new) film.ready takes in
    let taken : TakenTask h (ToPlay asked) = record { request = request; is_request = read; judged = judged } in
    good_starts h (record { asked = asked; taken = taken; film = film }) good is.planned is.is_planned is.asks
good_takes h request film (Err refusal) read good judged takes = absurd (good.taken refusal judged)
good_takes h request film _ read good judged takes =
    absurd (let no : ⊥ = cc (judged.talk.spoken.named, good.method) in no)

pub hears_good : (old new : SessionState) (message : List ℕ) (ask : Ask) → Hears old message ask new
    → CanBePlayed old message → AsksOrLacks old ask new
hears_good old new message ask (inl fault) can = absurd (can.sound fault.fault fault.is_fault)
hears_good old new message ask (inr whole) can =
    good_takes (record { old = old; new = new; message = message; ask = ask; hears = inr whole }) whole.request
    (record { setup = can.setup; paused = can.paused; ready = can.ready }) whole.hears.judgement whole.is_request
    (can.good whole.request whole.is_request) whole.hears.judged whole.hears.takes
