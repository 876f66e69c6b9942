-- What a SETUP results in: it is refused, or the session is Ready with what it asks for.
use Rattle.std.proofs.Common.{◌≡◌, ℕ, List, None, Ok, codes, sym, inl, inr}
use Rattle.session.proofs.SharedTerms.{AsksForSetup, Hears, IsReadAs, IsReplied, IsSetUp, method_of, Names, no_fault}
use Rattle.session.proofs.SharedTerms.{Request, request_once, SessionState, Setup, with_reply}
use Rattle.session.specs.declared.commands.Ask.{Ask}
use Rattle.session.specs.declared.refusals.Task.{Task}
use Rattle.rtsp_text.specs.Requests.{IsRequest}
use Rattle.session.specs.declared.commands.Ask.TheVariants.{Reply}
use Rattle.session.specs.declared.states.State.TheVariants.{Ready}
use Rattle.session.proofs.InitialStateLemmas.{HeardMessage, heard_by}
use Rattle.session.proofs.RequestCaseAnalysis.{Answer, Replies, SetsUp, StartsPlay, HaltsPlay, StopsPlay, EndsSession}
use Rattle.session.proofs.RequestCaseAnalysis.{TakesLook, SeeksOffer, TakenTask, answer_to}
use Rattle.rtsp_methods.specs.declared.methods.Method.TheVariants.{Setup as SetupMethod}
use Rattle.session_laws.proofs.RequestReadings.{method_once}

-- a message is a SETUP of this URL and with this head
pub record IsSetupRequest (message url head : List ℕ) : Type 0 where
  pub sequence : ℕ
  pub body : List ℕ
  pub read : IsRequest message (codes "SETUP") url sequence head body

pub data SetupHeard (old : SessionState) (url head : List ℕ) (ask : Ask) (new : SessionState) : Type 0 where
  Refused : (text : List ℕ) → ask ≡ Reply → new ≡ with_reply old text → SetupHeard old url head ask new
  Settled : (setup : Setup) (text authority : List ℕ) → ask ≡ Reply
      → new ≡ record (with_reply old text) { state = Ready setup None }
      → AsksForSetup old.settings head setup.film setup → Names old.films url authority setup.film
      → SetupHeard old url head ask new

-- a received message that is a request of a method, of this URL, number and head
pub record HeardCall (method : List ℕ) : Type 0 where
  pub h : HeardMessage
  pub url : List ℕ
  pub sequence : ℕ
  pub head : List ℕ
  pub body : List ℕ
  pub read : IsRequest h.message method url sequence head body

pub call_read : {method : List ℕ} (c : HeardCall method) → (request : Request) × IsReadAs c.h.message request
call_read c = elim c.h.hears [
  | inl fault ↦ absurd (no_fault fault.fault c.read fault.is_fault)
  | inr whole ↦ (whole.request, whole.is_request)
]

-- one that is processed is of its task's method
called : {task : Task} (c : HeardCall (codes "SETUP")) (taken : TakenTask c.h task) → method_of task ≡ SetupMethod
called {task} c taken = method_once taken.request.method.now (method_of task) SetupMethod
    taken.judged.talk.spoken.named (request_once taken.is_request c.read).method_is

-- a SETUP is refused, or settled
pub data SetupDone (c : HeardCall (codes "SETUP")) : Type 0 where
  Refuses : (text : List ℕ) → IsReplied c.h.old text c.h.ask c.h.new → SetupDone c
  Settles : (setup : Setup) (authority : List ℕ) → AsksForSetup c.h.old.settings c.head setup.film setup
      → Names c.h.old.films c.url authority setup.film → IsSetUp c.h.old c.sequence (Ok setup) c.h.ask c.h.new
      → SetupDone c

setup_by : (c : HeardCall (codes "SETUP")) → Answer c.h → SetupDone c
setup_by c (Replies reply is) = Refuses _ is
setup_by c (SetsUp film taken setup asks is) =
    let r = request_once taken.is_request c.read in
    Settles setup taken.judged.film.0 (rw (sym asks.film_is, r.head_is) at asks)
    (rw (sym asks.film_is, r.url_is) at taken.judged.film.1.named) (rw r.sequence_is at is)
setup_by c (StartsPlay play planned asks planned_is) = absurd (let no : ⊥ = cc (called c play.taken) in no)
setup_by c (HaltsPlay taken hand is) = absurd (let no : ⊥ = cc (called c taken) in no)
setup_by c (StopsPlay taken hand is) = absurd (let no : ⊥ = cc (called c taken) in no)
setup_by c (EndsSession taken is) = absurd (let no : ⊥ = cc (called c taken) in no)
setup_by c (TakesLook taken look) = absurd (let no : ⊥ = cc (called c taken) in no)
setup_by c (SeeksOffer offer planned is asks) = absurd (let no : ⊥ = cc (called c offer.taken) in no)

pub setup_done : (c : HeardCall (codes "SETUP")) → SetupDone c
setup_done c = setup_by c (answer_to c.h)

pub setup_heard : (old : SessionState) (message url head : List ℕ) (ask : Ask) (new : SessionState)
    → IsSetupRequest message url head → Hears old message ask new → SetupHeard old url head ask new
setup_heard old message url head ask new is hears =
    let c : HeardCall (codes "SETUP") =
    record { h = heard_by hears; url = url; sequence = is.sequence; head = head; body = is.body; read = is.read } in
    elim (setup_done c) [
      | Refuses text done ↦ Refused text done.0 done.1
      | Settles setup authority asks names done ↦ Settled setup _ authority done.0 done.1 asks names
    ]
