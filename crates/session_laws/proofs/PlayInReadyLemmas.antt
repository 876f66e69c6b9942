-- A session asks the station for a play where it received a PLAY in Ready, and nowhere else.
use Rattle.std.proofs.Common.{arith, ◌≡◌, codes, ap}
use Rattle.session.proofs.SharedTerms.{AsksPlay, header_value, IsPlannedRun, prepared_of, SessionState}
use Rattle.session.specs.declared.plans.Planned.{Planned}
use Rattle.session.specs.declared.states.Prepared.{Prepared}
use Rattle.session.specs.declared.states.Awaited.TheVariants.{Nothing, Play}
use Rattle.session.proofs.InitialStateLemmas.{HeardMessage}
use Rattle.session.proofs.RequestCaseAnalysis.{Answer, StartsPlay, ReadyPlay, answer_to, by_answer, made_by}

-- the station is asked for a play
pub record PlayStarted (h : HeardMessage) : Type 0 where
  pub play : ReadyPlay h
  pub planned : Planned
  pub asks : AsksPlay h.old play.taken.request.sequence play.asked.authority.now play.setup planned h.ask h.new
  pub planned_is : IsPlannedRun h.old asks.stored play.setup play.paused
      (header_value play.taken.request.head.now (codes "Range")) planned

-- the answer awaits that of the station to a play, where nothing was awaited before
pub record AwaitsPlay (h : HeardMessage) (prepared : Prepared) : Type 0 where
  pub rest : h.old.awaited ≡ Nothing
  pub asks : h.new.awaited ≡ Play prepared

started_by : {h : HeardMessage} {prepared : Prepared} (answer : Answer h) → h.old.awaited ≡ Nothing
    → (made_by answer).awaited ≡ Play prepared → PlayStarted h
started_by (StartsPlay play planned asks planned_is) rest awaits = search arith
started_by _ rest awaits = absurd (let no : ⊥ = cc in no)

pub play_started : (h : HeardMessage) {prepared : Prepared} → AwaitsPlay h prepared → PlayStarted h
play_started h {prepared} waits =
    let answer = answer_to h in
    by_answer (λ a s. s.awaited ≡ Play prepared → PlayStarted h) answer (started_by answer waits.rest) waits.asks

-- what it is asked for, by the PLAY
pub record IsPlayHeard (h : HeardMessage) (prepared : Prepared) : Type 0 where
  pub started : PlayStarted h
  pub prepared_is : prepared ≡ prepared_of h.old started.asks.stored started.play.setup started.planned
      started.play.taken.request.sequence

pub play_heard : {prepared : Prepared} (h : HeardMessage) → AwaitsPlay h prepared → IsPlayHeard h prepared
play_heard {prepared} h waits =
    let started = play_started h waits in
    record {
      started = started;
      prepared_is = cc (waits.asks, ap (λ (s : SessionState). s.awaited) started.asks.state);
    }
