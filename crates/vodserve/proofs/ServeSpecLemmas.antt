-- The laws over a server's run.
use Rattle.std.proofs.Common.{◌≡◌, ◌≢◌, ◌⊎◌, ◌∙◌, ◌<◌, ℕ, List, length, Option, Some, None, Err, inl, inr, sym, subst}
use Rattle.std.proofs.Common.{refl, arith}
use Rattle.std.specs.Prelude.{All, IfSome, slice_index_or}
use Rattle.std.specs.List.{Contains}
use Rattle.vod_base.specs.IoState.{File, HasRisen}
use Rattle.vod_base.specs.Gates.{Content, Failed, NoMore, Part}
use Rattle.conn.specs.Parts.{IsServed, WorkerGate}
use Rattle.conn.specs.declared.reports.ConnReport.{ConnReport}
use Rattle.conn.specs.declared.reports.PartReport.{PartReport}
use Rattle.conn.specs.declared.reports.PartEnd.{PartEnd}
use Rattle.conn.specs.declared.reports.PartEnd.TheVariants.{AllTaken, GateFault as PartFault, NoMemory as PartNoMemory}
use Rattle.cli_args.specs.Invocations.{ServeArgs}
use Rattle.inputs.specs.LoadErrors.{IsServedFilmRefused}
use Rattle.cli_errors.specs.ExitStatuses.{status_of}
use Rattle.cli_errors.specs.declared.errors.InputError.{InputError}
use Rattle.cli_errors.specs.declared.errors.CliError.{CliError}
use Rattle.cli_errors.specs.declared.errors.CliError.TheVariants.{Usage, Refused, StoreFault, SinkFault, NoMemory}
use Rattle.cli_errors.specs.declared.errors.CliError.TheVariants.{GateFault, LinkFault}
use Rattle.vodserve.specs.Laws.{EachConnectionIsReturned, HasReturnedAll, HasNoFault, WorkersRan, IsServable}
use Rattle.vodserve.specs.Laws.{NoConnectionIsLeftOut, RefusedFilmsAreNotServed, AcceptedFilmsAreServed}
use Rattle.vodserve.specs.Run.{Ends, HasServed, ServeSpec}
use Rattle.vodserve.specs.IoStates.{IoState, World, streams_of}
use Rattle.vodserve.specs.ServerOutput.{IsPrinted, IsServeError}
use Rattle.vodserve.specs.declared.run_results.Ended.{Ended}
use Rattle.vodserve.specs.WorkerResults.{AreLeft, IsPartBack, HasTooFewParts, IsWorkerResult, IsOpenAs, IsOpenedOnce}
use Rattle.vodserve.specs.WorkerResults.{HasParts, MayBeServed, ServerRun, opening_of, server_run}
use Rattle.vodserve.proofs.GateLemmas.{risen_some}
use Rattle.vodserve.proofs.PrintLemmas.{WorldChange}
use Rattle.vodserve.proofs.FilmLoadLemmas.{WorkersRun, Keeps, ServingRun, loaded_accepted, worker_worked}

-- what keeps from serving, where nothing is refused and nothing failed, is that memory ran out
pub kept_by_memory : {w : WorldChange} {serving : ServeArgs} (error : CliError) →
    IsServable serving w.before.store.told → HasNoFault w.before w.after →
    IsServeError serving w.before.store w.after.store w.before.gate w.after.gate error → status_of error ≡ 6
kept_by_memory Usage may none is = absurd is
kept_by_memory (Refused name fault) may none is =
    absurd (may.accepted name.now fault is.0.0 (is.0.1 may.held may.told_is).refused)
kept_by_memory (StoreFault name) may none is = absurd (none.store is.0.1)
kept_by_memory SinkFault may none is = absurd is
kept_by_memory NoMemory may none is = refl
kept_by_memory GateFault may none is = absurd (none.gate is.0)
kept_by_memory LinkFault may none is = absurd is

-- and so is what goes wrong at the end
pub ended_by_memory : {before after : World} {end : PartEnd} (text : List ℕ) (error : CliError) →
    HasNoFault before after → (end ≡ PartFault → HasRisen before.gate.faults after.gate.faults) →
    IsPrinted before.out after.out text end (Err error) → status_of error ≡ 6
ended_by_memory {end} text Usage none fault is = absurd is
ended_by_memory {end} text (Refused name cause) none fault is = absurd is
ended_by_memory {end} text (StoreFault name) none fault is = absurd is
ended_by_memory {end} text SinkFault none fault is = absurd (none.out is.0)
ended_by_memory {end} text NoMemory none fault is = refl
ended_by_memory {end} text GateFault none fault is = absurd (none.gate (fault is.1))
ended_by_memory {end} text LinkFault none fault is = absurd is

pub serves_what_it_may : AcceptedFilmsAreServed
serves_what_it_may before after seed serving ended (inl kept) may none =
    inr (kept.1.3.status ∙ kept_by_memory kept.0 may none kept.1.0)
serves_what_it_may before after seed serving ended (inr served) may none = elim served.ends [
  | inl whole ↦ inl whole.1
  | inr wrong ↦ inr (wrong.1.1.status ∙ ended_by_memory _ wrong.0 none served.fault wrong.1.0)
]

pub not_none : (error : CliError) → status_of error ≡ 0 → ⊥
not_none Usage is = omega (arith, is)
not_none (Refused name fault) is = omega (arith, is)
not_none (StoreFault name) is = omega (arith, is)
not_none SinkFault is = omega (arith, is)
not_none NoMemory is = omega (arith, is)
not_none GateFault is = omega (arith, is)
not_none LinkFault is = omega (arith, is)

-- a server, with what was seen before and after
abbrev serving_run : World → World → ServeArgs → ServingRun
serving_run before after serving = record {
  serving = serving;
  store = before.store;
  store_after = after.store;
  gate = before.gate;
  gate_after = after.gate;
}

-- a film that is named, and whose input is refused
record RefusedFilm (serving : ServeArgs) (held : List File) : Type 0 where
  name : List ℕ
  fault : InputError
  named : Contains serving.films name
  refused : IsServedFilmRefused held name fault

-- of films that may be served none is refused
not_accepted : {serving : ServeArgs} {held : List File} → RefusedFilm serving held →
    All (MayBeServed held) serving.films → ⊥
not_accepted {held} film may = subst (MayBeServed held) named.2 (may named.0 name named.1) fault refused
  where
    open film use {name, fault, named, refused}

-- where a film is refused the gate is as it was
same_gate : {held : List File} (served : ServingRun) (error : CliError) → RefusedFilm served.serving held →
    Keeps served error → served.store.told ≡ Some held → served.gate_after ≡ served.gate
same_gate served Usage film is tells = absurd is
same_gate served (Refused other cause) film is tells = is.1
same_gate served (StoreFault other) film is tells = is.1
same_gate served SinkFault film is tells = absurd is
same_gate {held} served NoMemory film is tells = elim is [
  | inl same ↦ same
  | inr opened ↦ absurd (not_accepted film (opened.accepted held tells))
]
same_gate {held} served GateFault film is tells = absurd (not_accepted film (is.1.accepted held tells))
same_gate served LinkFault film is tells = absurd is

-- a film that is refused is never served
pub serves_no_refused : RefusedFilmsAreNotServed
serves_no_refused before after seed serving ended held name fault (inl kept) told named refused = (
  λ zero. not_none kept.0 (sym kept.1.3.status ∙ zero),
  kept.1.1,
  same_gate (serving_run before after serving) kept.0
      (record { name = name; fault = fault; named = named; refused = refused })
      kept.1.0 told,
  kept.1.2,
)
serves_no_refused before after seed serving ended held name fault (inr served) told named refused =
    absurd (not_accepted {serving = serving} (record { name = name; fault = fault; named = named; refused = refused })
    (loaded_accepted serving before.store.told served.films served.loaded held told))

-- ---- how a server's run ended

-- a worker that ran out of memory gives status 6
not_memory : (out out' : IoState (List ℕ)) (text : List ℕ) (error : CliError) →
    IsPrinted out out' text PartNoMemory (Err error) → status_of error ≢ 6 → ⊥
not_memory out out' text Usage printed status = printed
not_memory out out' text (Refused name fault) printed status = printed
not_memory out out' text (StoreFault name) printed status = printed
not_memory out out' text SinkFault printed status = printed.2 refl
not_memory out out' text NoMemory printed status = status refl
not_memory out out' text GateFault printed status = apart printed.1
  where
    apart : PartNoMemory ≡ PartFault → ⊥
    apart e = cc
not_memory out out' text LinkFault printed status = printed

pub ended_whole : {end : PartEnd} {ended : Ended} (w : WorldChange) (text : List ℕ)
    → Ends (streams_of w.before w.after) text end ended → ended.status ≢ 6 → end ≢ PartNoMemory
ended_whole {end} {ended} w text (inl whole) status memory = apart (sym memory ∙ whole.0.1)
  where
    apart : PartNoMemory ≡ AllTaken → ⊥
    apart e = cc
ended_whole {end} {ended} w text (inr wrong) status memory =
    not_memory w.before.out w.after.out text wrong.0
    (subst (λ (e : PartEnd). IsPrinted w.before.out w.after.out text e (Err wrong.0)) memory wrong.1.0)
    (λ six. status (wrong.1.1.status ∙ six))

-- a status with which the workers ran
abbrev IsOfRun : ℕ → Type 0 → Type 0
IsOfRun status AllParts = (status ≡ 0) ⊎ ((status ≡ 5) ⊎ ((status ≡ 7) × AllParts))

other_status : (status : ℕ) (AllParts : Type 0) → status ≢ 0 → status ≢ 5 → status ≢ 7 → IsOfRun status AllParts → ⊥
other_status status AllParts no_zero no_five no_seven of_run = elim of_run [
  | inl zero ↦ no_zero zero
  | inr more ↦ elim more [
    | inl five ↦ no_five five
    | inr seven ↦ no_seven seven.0
  ]
]

-- what kept a server from its work gives other statuses, or there are too few parts
not_kept : {content : Content} (served : ServingRun) (error : CliError) → Keeps served error →
    served.gate_after.told ≡ Some content →
    IsOfRun (status_of error) (length content.parts ≡ served.serving.listening.workers) → ⊥
not_kept served Usage is tells of_run = is
not_kept {content} served (Refused name fault) is tells of_run =
    other_status 3 (length content.parts ≡ served.serving.listening.workers) (λ e. omega (arith, e))
    (λ e. omega (arith, e))
    (λ e. omega (arith, e)) of_run
not_kept {content} served (StoreFault name) is tells of_run =
    other_status 4 (length content.parts ≡ served.serving.listening.workers) (λ e. omega (arith, e))
    (λ e. omega (arith, e))
    (λ e. omega (arith, e)) of_run
not_kept served SinkFault is tells of_run = is
not_kept {content} served NoMemory is tells of_run =
    other_status 6 (length content.parts ≡ served.serving.listening.workers) (λ e. omega (arith, e))
    (λ e. omega (arith, e))
    (λ e. omega (arith, e)) of_run
not_kept {content} served GateFault is tells of_run =
    let few : HasTooFewParts served.serving.listening.workers content =
    subst (λ (g : Option Content). IfSome g (HasTooFewParts served.serving.listening.workers)) tells is.1.few in
    elim of_run [
      | inl zero ↦ omega (arith, zero)
      | inr more ↦ elim more [
        | inl five ↦ omega (arith, five)
        | inr seven ↦ omega (arith, seven.1, few.fewer)
      ]
    ]
not_kept served LinkFault is tells of_run = is

-- what a server that served worked on
abbrev pub work_of : {before after : World} {seed : List ℕ} {serving : ServeArgs} {ended : Ended} →
    HasServed before after seed serving ended → ServerRun
work_of {seed} {serving} {ended} served = server_run served.films serving seed ended.journal.items

-- a server whose workers ran, and none of them lacked memory
pub record HasRunAll (before after : World) (seed : List ℕ) (serving : ServeArgs) (ended : Ended) : Type 0 where
  pub served : HasServed before after seed serving ended
  pub found : served.end ≢ PartNoMemory

pub run_all : {before after : World} {seed : List ℕ} {serving : ServeArgs} {ended : Ended} {gate : Content} →
    ServeSpec before after seed serving ended → after.gate.told ≡ Some gate →
    WorkersRan serving ended gate → HasRunAll before after seed serving ended
run_all {before} {after} {seed} {serving} {ended} {gate} (inl kept) told have_run =
    let AllParts = length gate.parts ≡ serving.listening.workers in
    absurd (not_kept (serving_run before after serving) kept.0 kept.1.0 told
    (subst (λ (n : ℕ). IsOfRun n AllParts) kept.1.3.status have_run))
run_all {before} {after} {seed} {serving} {ended} {gate} (inr served) told have_run =
    let AllParts = length gate.parts ≡ serving.listening.workers in
    record {
      served = served;
      found = ended_whole (record { before = before; after = after }) _ served.ends
          (λ six. other_status 6 AllParts (λ e. omega (arith, e)) (λ e. omega (arith, e))
          (λ e. omega (arith, e)) (subst (λ (n : ℕ). IsOfRun n AllParts) six have_run));
    }

-- ---- parts that came back

-- a part that was served got back what it gave, as many as there are reports
pub given_back : (old : Option Content) (new : Content) (told : Option Content) (count : ℕ) → IsServed old told count
    → told ≡ Some new → (length new.own.back ≡ new.own.given) × (length new.own.back ≡ count)
given_back None new None count served is = let bad : ⊥ = cc in absurd bad
given_back None new (Some c) count served is = let bad : ⊥ = cc in absurd bad
given_back (Some old) new None count served is = absurd served
given_back (Some old) new (Some c) count served is =
    let same : c ≡ new = cc in
    subst (λ (content : Content). (length content.own.back ≡ content.own.given)
    × (length content.own.back ≡ count)) same (served.back ∙ sym served.given, served.back)

-- what a worker came to, with the content that the gate exposes after it
pub record WorkerRun (gate after : WorkerGate) : Type 0 where
  pub work : ServerRun
  pub worker : ℕ
  pub report : PartReport
  pub worked : IsWorkerResult work gate after worker report
  pub content : Content
  pub tells : after.told ≡ Some content

abbrev pub worker_run : {work : ServerRun} {gate after : WorkerGate} {worker : ℕ} {report : PartReport}
    {content : Content} → IsWorkerResult work gate after worker report → after.told ≡ Some content →
    WorkerRun gate after
worker_run {work} {worker = worker} {report} {content} worked tells =
    record { work = work; worker = worker; report = report; worked = worked; content = content; tells = tells }

-- its part is back in the gate
pub back_of : {gate after : WorkerGate} (r : WorkerRun gate after) → IsPartBack r.worker r.worked.after.told r.content
back_of r = subst (λ (t : Option Content). IfSome t (IsPartBack r.worker r.worked.after.told)) r.tells r.worked.back

-- the last time that it was asked for a connection there was none, or the gate failed
part_back : {before after : World} (r : WorkerRun before.gate after.gate) → r.report.end ≢ PartNoMemory
    → (part : Part) × ((slice_index_or r.content.parts r.worker None ≡ Some part) × HasReturnedAll before after part)
part_back {before} {after} r found =
    let given = given_back worked.part back.0 worked.after.told (length report.reports.items) worked.served.served
    back.1.0 in
    (back.0.own, (back.1.1, record { back = given.0; last = by-end report.end refl }))
  where
    open r use {report, worked}

    back : IsPartBack r.worker worked.after.told r.content
    back = back_of r

    by-end : (end : PartEnd) → report.end ≡ end
        → (back.0.own.last ≡ NoMore) ⊎ ((back.0.own.last ≡ Failed) × HasRisen before.gate.faults after.gate.faults)
    by-end AllTaken is =
        inl (subst (λ (t : Option Content). IfSome t (λ c. c.own.last ≡ NoMore)) back.1.0 (worked.served.all is))
    by-end PartFault is = inr (
      subst (λ (t : Option Content). IfSome t (λ c. c.own.last ≡ Failed)) back.1.0 (worked.served.failed is),
      worked.counted (risen_some 0 worked.after.faults (worked.served.fault is)),
    )
    by-end PartNoMemory is = absurd (found is)

-- the workers of a server that served
abbrev pub workers_of : {before after : World} {seed : List ℕ} {serving : ServeArgs} {ended : Ended}
    → HasServed before after seed serving ended → WorkersRun
workers_of {before} {after} served = record {
  work = work_of served;
  gate = before.gate;
  after = after.gate;
  parts = served.worked.parts;
  each = served.worked.each;
}

-- each worker found memory
pub each_found : (parts : List PartReport) (end : PartEnd) (reports : List ConnReport) → AreLeft parts end reports
    → end ≢ PartNoMemory → All (λ (part : PartReport). part.end ≢ PartNoMemory) parts
each_found parts end reports left found = elim left.memory [
  | inl none ↦ absurd (found none)
  | inr each ↦ each
]

pub gives_each_back : EachConnectionIsReturned
gives_each_back before after seed serving ended gate serves told have_run =
    let run : HasRunAll before after seed serving ended = run_all serves told have_run in
    let worked = run.served.worked in
    let none : PartReport = record { end = AllTaken; reports = ended.reports } in
    record {
      once = subst (λ (g : Option Content). IfSome g (IsOpenedOnce before.gate.told)) told run.served.once;
      opening = subst (IsOpenAs (opening_of serving)) told worked.open_as;
      count = subst (HasParts serving.listening.workers) told worked.split;
      each = λ worker inside.
          let within : worker < length worked.parts = omega (arith, inside, worked.count) in
          part_back (worker_run (worker_worked (workers_of run.served) worker none within) told)
          (each_found worked.parts run.served.end ended.reports.items worked.left run.found worker none within);
    }

-- with status 0 each worker's part had no more connections
all_taken : {end : PartEnd} {ended : Ended} (w : WorldChange) (text : List ℕ)
    → Ends (streams_of w.before w.after) text end ended → ended.status ≡ 0 → end ≡ AllTaken
all_taken {end} {ended} w text (inl whole) status = whole.0.1
all_taken {end} {ended} w text (inr wrong) status = absurd (not_none wrong.0 (sym wrong.1.1.status ∙ status))

part_taken : {gate after : WorkerGate} (r : WorkerRun gate after) → r.report.end ≡ AllTaken
    → (part : Part) × ((slice_index_or r.content.parts r.worker None ≡ Some part) × (part.last ≡ NoMore))
part_taken r taken =
    let back = back_of r in (
      back.0.own,
      (
        back.1.1,
        subst (λ (t : Option Content). IfSome t (λ c. c.own.last ≡ NoMore)) back.1.0
            (r.worked.served.all taken),
      ),
    )

pub leaves_none_out : NoConnectionIsLeftOut
leaves_none_out before after seed serving ended gate (inl kept) status told =
    absurd (not_none kept.0 (sym kept.1.3.status ∙ status))
leaves_none_out before after seed serving ended gate (inr served) status told =
    let worked = served.worked in
    let none : PartReport = record { end = AllTaken; reports = ended.reports } in
    record {
      once = subst (λ (g : Option Content). IfSome g (IsOpenedOnce before.gate.told)) told served.once;
      opening = subst (IsOpenAs (opening_of serving)) told worked.open_as;
      count = subst (HasParts serving.listening.workers) told worked.split;
      each = λ worker inside.
          let within : worker < length worked.parts = omega (arith, inside, worked.count) in
          part_taken (worker_run (worker_worked (workers_of served) worker none within) told)
          (worked.left.taken (all_taken (record { before = before; after = after }) _ served.ends status)
          worker none within);
    }
