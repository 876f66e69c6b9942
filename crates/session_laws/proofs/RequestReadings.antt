-- A request is judged in one way; how a session reads and judges it, and what it does for one that it
-- processes.
use Rattle.std.proofs.lemmas.Grind.{common_steps}
use Rattle.std.proofs.Common.{zero, suc, ◌≡◌, ℕ, List, Some, Result, Ok, Err, subst, ◌∙◌, inl, inr, ◌+◌, ◌*◌, ◌<◌, ◌==◌}
use Rattle.std.proofs.Common.{◌⊎◌, if◌then◌else◌, get_or, length, None, codes, refl, sym, ap, arith}
use Rattle.rtsp_methods.specs.declared.methods.Method.TheVariants.{Options, Describe, Setup, Play, Pause, Teardown}
use Rattle.rtsp_methods.specs.declared.methods.Method.TheVariants.{GetParameter}
use Rattle.session.specs.declared.refusals.Task.TheVariants.{Options as ToOptions, Describe as ToDescribe}
use Rattle.session.specs.declared.refusals.Task.TheVariants.{Setup as ToSetup, Play as ToPlay}
use Rattle.session.specs.Methods.{GetsParameter, HearsRequest}
use Rattle.session.specs.RefusalOrder.{IsOnFilm, IsTaskOf, FitsState, HasFilm, IsOwnTalk}
use Rattle.session.proofs.InitialStateLemmas.{HeardMessage, TakenRequest}
use Rattle.std.specs.Prelude.{is_some}
use Rattle.std.proofs.lemmas.Bool.{cases_order}
use Rattle.session.proofs.SharedTerms.{Describes, FitsSession, has_session_in, header_value, IsJudged, IsReadAs}
use Rattle.session.proofs.SharedTerms.{IsRefused, IsReplied, IsTaken, IsTimely, Method, method_of, name_of, no_fault}
use Rattle.session.proofs.SharedTerms.{option_of, Pauses, Plays, public_text, Refusal, Request, request_once}
use Rattle.session.proofs.SharedTerms.{required_of, SessionState, SetsUp, Stored, Takes, TearsDown}
use Rattle.session.specs.declared.refusals.Task.{Task}
use Rattle.session.specs.declared.states.State.{State as StateKind}
use Rattle.rtsp_methods.specs.declared.refusals.Refusal.TheVariants.{Method as Unknown, Option as Required, Session}
use Rattle.rtsp_methods.specs.declared.refusals.Refusal.TheVariants.{Film, State}

-- a name is that of one method
abbrev key : List ℕ → ℕ
key name = get_or name 0 0 + 10 * length name

abbrev method_by : ℕ → Method
method_by n =
    if n == 149 then Options else if n == 148 then Describe else if n == 133 then Setup else if n == 120 then Play
    else if n == 130 then Pause else if n == 164 then Teardown else GetParameter

named : (m : Method) → method_by (key (name_of m)) ≡ m
named m = grind (arith, common_steps)

pub method_once : (name : List ℕ) (m other : Method) → name ≡ name_of m → name ≡ name_of other → m ≡ other
method_once name m other is its = sym (named m) ∙ ap (λ n. method_by (key n)) (sym is ∙ its) ∙ named other

-- which of the five judgements refuses
abbrev rank : Result Task Refusal → ℕ
rank (Err Unknown) = 0
rank (Err Required) = 1
rank (Err Session) = 2
rank (Err Film) = 3
rank (Err State) = 4
rank _ = 5

-- what a request is judged by: the session, and its own parts
record Judging : Type 0 where
  old : SessionState
  name : List ℕ
  url : List ℕ
  head : List ℕ

abbrev judging : SessionState → Request → Judging
judging old request = record { old = old; name = request.method.now; url = request.url.now; head = request.head.now }

abbrev PassesAt : Judging → ℕ → Type 0
PassesAt j zero = (m : Method) × (j.name ≡ name_of m)
PassesAt j (suc zero) = required_of j.head ≡ None
PassesAt j (suc (suc zero)) = (m : Method) × ((j.name ≡ name_of m)
    × FitsSession m (has_session_in j.old.state) j.old.id (header_value j.head (codes "Session")))
PassesAt j (suc (suc (suc zero))) = (m : Method)
    × ((j.name ≡ name_of m) × ((m ≡ Options) ⊎ HasFilm j.old.films j.old.state j.url m))
PassesAt j (suc (suc (suc (suc zero)))) = (m : Method) × ((j.name ≡ name_of m)
    × FitsState m j.old.state (is_some (header_value j.head (codes "Range"))))
PassesAt j _ = ⊥

-- the first judgement that a request doesn't pass
record StopsAt (j : Judging) (n : ℕ) : Type 0 where
  before : (k : ℕ) → k < n → PassesAt j k
  at : ¬ PassesAt j n

stops_once : {j : Judging} (n m : ℕ) → StopsAt j n → StopsAt j m → n ≡ m
stops_once n m is its = grind (arith, cases_order n m, is.before, its.before, is.at, its.at)

-- nothing that all methods share refuses a request of a method
pub record Passes (old : SessionState) (request : Request) (m : Method) : Type 0 where
  pub talk : IsOwnTalk old.id old.state request m
  pub film : (m ≡ Options) ⊎ HasFilm old.films old.state request.url.now m
  pub state : IsTimely old.state request m

stops_last : {m : Method} (old : SessionState) (request : Request) → Passes old request m
    → StopsAt (judging old request) 5
stops_last {m} old request passes = grind arith

film_of : (films : List Stored) (stage : StateKind) (url : List ℕ) (task : Task) → IsTaskOf films stage url task
    → (method_of task ≡ Options) ⊎ HasFilm films stage url (method_of task)
film_of films stage url ToOptions is = inl refl
film_of films stage url (ToDescribe asked) is = inr (asked.authority.now, (asked.film, is))
film_of films stage url (ToSetup film) is = inr (is.0, (film, is.1))
film_of films stage url (ToPlay asked) is = inr (asked.authority.now, (asked.film, is))
film_of films stage url _ is = inr is

pub passes_of : {request : Request} {task : Task} (old : SessionState)
    → IsTaken old.films old.id old.state request task → Passes old request (method_of task)
passes_of {request} {task} old is = search film_of

-- a judgement is by the first that isn't passed
stops : (old : SessionState) (request : Request) (judgement : Result Task Refusal)
    → IsJudged old.films old.id old.state request judgement → StopsAt (judging old request) (rank judgement)
stops old request (Ok task) is = stops_last old request (passes_of old is)
stops old request (Err Unknown) is = grind arith
stops old request (Err Required) is = grind arith
stops old request (Err Session) is = grind arith
stops old request (Err Film) is = record { before = grind arith; at = search arith }
stops old request (Err State) is = grind arith
stops old request (Err _) is = absurd is

ranked : (old : SessionState) (request : Request) (refusal : Refusal)
    → IsJudged old.films old.id old.state request (Err refusal) → rank (Err refusal) < 5
ranked old request refusal given = grind arith

-- a request with the parts of another: only the places in memory stay its own
abbrev pub as_read : Request → Request → Request
as_read place request = record {
  method = record place.method { now = request.method.now };
  url = record place.url { now = request.url.now };
  sequence = request.sequence;
  head = record place.head { now = request.head.now };
  body = record place.body { now = request.body.now };
}

-- what is true for one request that a message is, is true for the parts of another that it is
pub same_parts : {message : List ℕ} (request place : Request) → IsReadAs message request → IsReadAs message place
    → (P : Request → Type 0) → P place → P (as_read place request)
same_parts request place is its P known =
    let same = request_once its is in
    subst P (λ i. record {
      method = record place.method { now = same.method_is i };
      url = record place.url { now = same.url_is i };
      sequence = same.sequence_is i;
      head = record place.head { now = same.head_is i };
      body = record place.body { now = same.body_is i };
    }) known

-- a request with the parts of another that is refused is refused so
pub judged_refused : (old : SessionState) (request place : Request) (refusal : Refusal)
    → IsJudged old.films old.id old.state request (Err refusal) → (judgement : Result Task Refusal)
    → IsJudged old.films old.id old.state (as_read place request) judgement → judgement ≡ Err refusal
judged_refused old request place refusal is judgement its =
    let below = ranked old request refusal is in
    let same = stops_once (rank judgement) (rank (Err refusal))
    (stops old (as_read place request) judgement its) (stops old request (Err refusal) is) in
    grind arith

-- one with the parts of another that is processed isn't refused
never_refused : {m : Method} {request : Request} (old : SessionState) (refusal : Refusal) (place : Request)
    → Passes old request m → ¬ IsJudged old.films old.id old.state (as_read place request) (Err refusal)
never_refused {request} old refusal place passes = λ its.
    let same = stops_once (rank (Err refusal)) 5 (stops old (as_read place request) (Err refusal) its)
    (stops_last old request passes) in
    omega (arith, same, ranked old (as_read place request) refusal its)

-- ---- how a request is read, and what is done for it

-- a request that a message is, where the session read it, and what it did
reading_of : (h : HeardMessage) (request : Request) → IsReadAs h.message request
    → (place : Request) × HearsRequest h.old (as_read place request) h.ask h.new
reading_of h request is = elim h.hears [
  | inl fault ↦ absurd (no_fault fault.fault is fault.is_fault)
  | inr whole ↦ (
    whole.request,
    same_parts request whole.request is whole.is_request (λ r. HearsRequest h.old r h.ask h.new) whole.hears,
  )
]

-- one that is to be refused is refused
pub refused_in : (h : HeardMessage) (request : Request) (refusal : Refusal) → IsReadAs h.message request
    → IsJudged h.old.films h.old.id h.old.state request (Err refusal)
    → IsRefused h.old (Some request.sequence) refusal (option_of request.head.now) h.ask h.new
refused_in h request refusal read is =
    let r = reading_of h request read in
    rw (judged_refused h.old request r.0 refusal is r.1.judgement r.1.judged) at r.1.takes

-- what is done for a request of a method
abbrev pub Does : TakenRequest → Method → Type 0
Does t Options = IsReplied t.old (public_text t.request.sequence) t.ask t.new
Does t Describe = (authority : List ℕ) × ((film : ℕ)
    × (IsOnFilm t.old.films t.old.state t.request.url.now Describe authority film
    × Describes t.old t.request.sequence film authority t.ask t.new))
Does t Setup = (authority : List ℕ) × ((film : ℕ)
    × (IsOnFilm t.old.films t.old.state t.request.url.now Setup authority film
    × SetsUp t.old t.request film t.ask t.new))
Does t Play = (authority : List ℕ) × ((film : ℕ)
    × (IsOnFilm t.old.films t.old.state t.request.url.now Play authority film
    × Plays t.old.state t.old t.request authority t.ask t.new))
Does t Pause = Pauses t.old.state t.old t.request.sequence t.ask t.new
Does t Teardown = TearsDown t.old.state t.old t.request.sequence t.ask t.new
Does t GetParameter = GetsParameter t.old t.request t.ask t.new

pub does_task : (t : TakenRequest) (task : Task) → IsTaskOf t.old.films t.old.state t.request.url.now task
    → Takes t.old t.request (Ok task) t.ask t.new → Does t (method_of task)
does_task t task given given' = search arith

abbrev pub taken_as : HeardMessage → Request → TakenRequest
taken_as h request = record { old = h.old; new = h.new; request = request; ask = h.ask }

-- a request of a method, as the session read it, and what it did
pub record TakenUp (h : HeardMessage) (request : Request) (m : Method) : Type 0 where
  pub place : Request
  pub timely : IsTimely h.old.state request m
  pub does : Does (taken_as h (as_read place request)) m

-- a message of a method is refused as all methods are, or does what the method does
pub data HeardMethod (h : HeardMessage) (request : Request) (m : Method) : Type 0 where
  IsStopped : (refusal : Refusal) (place : Request) → IsJudged h.old.films h.old.id h.old.state (as_read place request)
      (Err refusal) → IsRefused h.old (Some request.sequence) refusal (option_of request.head.now) h.ask h.new
      → HeardMethod h request m
  IsTakenUp : TakenUp h request m → HeardMethod h request m

pub heard_method : (h : HeardMessage) (request : Request) (m : Method) → IsReadAs h.message request
    → request.method.now ≡ name_of m → HeardMethod h request m
heard_method h request m is method =
    let r = reading_of h request is in
    let read = as_read r.0 request in
    (elim r.1.judgement as (λ j. IsJudged h.old.films h.old.id h.old.state read j
    → Takes h.old read j h.ask h.new → HeardMethod h request m) [
      | Ok task ↦ λ judged takes.
          let same = method_once request.method.now (method_of task) m judged.talk.spoken.named method in
          IsTakenUp (record {
            place = r.0;
            timely = subst (IsTimely h.old.state request) same judged.state;
            does = subst (Does (taken_as h read)) same (does_task (taken_as h read) task judged.film takes);
          })
      | Err refusal ↦ λ judged takes. IsStopped refusal r.0 judged takes
    ]) r.1.judged r.1.takes

pub taken_up : (h : HeardMessage) (request : Request) (m : Method) → IsReadAs h.message request
    → Passes h.old request m → TakenUp h request m
taken_up h request m is passes =
    elim (heard_method h request m is passes.talk.spoken.named) [
      | IsStopped refusal place judged done ↦ absurd (never_refused h.old refusal place passes judged)
      | IsTakenUp up ↦ up
    ]
