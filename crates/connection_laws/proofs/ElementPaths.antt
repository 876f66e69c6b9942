-- The elements of a connection's input that are processed, one after another: each byte CR or LF,
-- each block, each request.
use Rattle.std.proofs.lemmas.Grind.{common_steps}
use Rattle.std.proofs.Common.{◌≡◌, ◌⊎◌, ℕ, zero, suc, ◌<◌, ◌≤◌, ◌++◌, true, false, List, [], ◌∷◌, Ok, Err, length, drop}
use Rattle.std.proofs.Common.{get_or, refl, ap, sym, ◌∙◌, subst, inl, inr, arith}
use Rattle.std.proofs.lemmas.List.{append_assoc, take-append-le, drop-append-le}
use Rattle.connection_laws.proofs.Terms.{is_line_end, StartsMessage, IsElementLength, WholeMessage, More, Hears}
use Rattle.connection_laws.proofs.Terms.{AreFilms, SessionState, IsStopped, takings_bytes, takings_outcomes, Answered}
use Rattle.connection_laws.proofs.Terms.{IsAskAnswered, IsReplied, Outcome, SentPart, Passed, Stage, ElementStep}
use Rattle.connection_laws.proofs.Terms.{TakesAll, after_reply, parts_bytes, reply_parts, stage, ConnEnd, TornDown}
use Rattle.connection_laws.proofs.Terms.{HeadTooLong, BodyTooLong, AllLackMemoryAlike, AreSameAnswers, HeardRequest}
use Rattle.connection_laws.proofs.Terms.{IsDrained, LackMemoryAlike, answer_in, answers_in, heard_requests_taken}
use Rattle.connection_laws.proofs.Terms.{IoEvent}
use Rattle.interleave.specs.Elements.{StartsBlock, block_length}
use Rattle.interleave.specs.declared.elements.DemuxFault.TheVariants.{HeadTooLong as LongHead, BodyTooLong as LongBody}
use Rattle.interleave.proofs.ElementStability.{whole_stays}
use Rattle.interleave.proofs.StreamElements.{tells_none}
use Rattle.interleave.proofs.ElementUniqueness.{total_once}
use Rattle.session.proofs.RequestEffectLemmas.{hears_ground}
use Rattle.conn.proofs.CourseSteps.{stage_is}
use Rattle.conn.specs.InputSteps.{IsNext, IsPassed}
use Rattle.connection_laws.specs.Requests.{AwaitsReply}
use Rattle.connection_laws.proofs.KeptParts.{answered_names, replied_names}
use Rattle.connection_laws.proofs.UniqueResults.{AnswersAlike, answers_same, hears_same}

-- a request that was processed, what was asked, and what came of it
pub record StationCall : Type 0 where
  pub heard : HeardRequest
  pub outcome : Outcome
  pub answered : SessionState

pub data Element : Type 0 where
  Over : ℕ → Element
  RequestElement : StationCall → Element

-- a byte CR or LF is first, or a block
pub data IsOver (input : List ℕ) (n : ℕ) : Type 0 where
  AnEnd : n ≡ 1 → 0 < length input → is_line_end (get_or input 0 0) ≡ true → IsOver input n
  ABlock : StartsBlock input → 4 ≤ length input → n ≡ block_length input → n ≤ length input → IsOver input n

over_no_request : (input : List ℕ) (n : ℕ) → IsOver input n → StartsMessage input → ⊥
over_no_request input n given given' = grind arith

pub record IsTaken (old : Stage) (turn : StationCall) (new : Stage) : Type 0 where
  pub session_is : turn.heard.session ≡ old.session
  pub next : IsNext old turn.heard.message
  pub hears : Hears old.session turn.heard.message turn.heard.ask turn.heard.asking
  pub answered : IsAskAnswered turn.heard.asking turn.heard.ask turn.outcome turn.answered
  pub new_is : new ≡ stage (after_reply turn.answered) (drop (length turn.heard.message) old.input)

pub record IsPassing (old : Stage) (n : ℕ) (new : Stage) : Type 0 where
  pub over : IsOver old.input n
  pub torn : old.session.torn ≡ false
  pub new_is : new ≡ stage old.session (drop n old.input)

abbrev pub Goes : Stage → Element → Stage → Type 0
Goes old (Over n) new = IsPassing old n new
Goes old (RequestElement turn) new = IsTaken old turn new

abbrev pub GoesAll : Stage → List Element → Stage → Type 0
GoesAll old [] new = new ≡ old
GoesAll old (element ∷ elements) new = (mid : Stage) × (Goes old element mid × GoesAll mid elements new)

-- what a connection received, what it sent, what the station answered, and the requests that were received
pub record Exchange : Type 0 where
  pub heard : List IoEvent
  pub bytes : List ℕ
  pub answers : List Outcome
  pub hearings : List HeardRequest

abbrev pub no_exchange : Exchange
no_exchange = record { heard = []; bytes = []; answers = []; hearings = [] }

-- one after another
abbrev pub joined : Exchange → Exchange → Exchange
joined a b = record {
  heard = a.heard ++ b.heard;
  bytes = a.bytes ++ b.bytes;
  answers = a.answers ++ b.answers;
  hearings = a.hearings ++ b.hearings;
}

-- what is sent as elements are processed, what the station answers, and the requests that are received
abbrev turn_exchange : StationCall → Exchange
turn_exchange turn = record {
  heard = [];
  bytes = parts_bytes (reply_parts turn.answered);
  answers = answer_in turn.outcome;
  hearings = turn.heard ∷ [];
}

abbrev pub exchange_of : List Element → Exchange
exchange_of [] = no_exchange
exchange_of (Over n ∷ elements) = exchange_of elements
exchange_of (RequestElement turn ∷ elements) = joined (turn_exchange turn) (exchange_of elements)

-- ---- joined, and with more input

-- elements that lead from one stage to another
pub record Way (old new : Stage) : Type 0 where
  pub elements : List Element
  pub goes : GoesAll old elements new

pub join_goes : {b c : Stage} (a : Stage) (later : Way b c) (xs : List Element) → GoesAll a xs b
    → GoesAll a (xs ++ later.elements) c
join_goes {c = c} a later [] goes = rw goes at later.goes
join_goes a later (x ∷ xs) goes = (goes.0, (goes.1.0, join_goes goes.0 later xs goes.1.1))

abbrev pub way_then : {a b c : Stage} → Way a b → Way b c → Way a c
way_then {a} one two = record { elements = one.elements ++ two.elements; goes = join_goes a two one.elements one.goes }

pub join_exchange : (xs ys : List Element) → exchange_of (xs ++ ys) ≡ joined (exchange_of xs) (exchange_of ys)
join_exchange [] ys = refl
join_exchange (Over n ∷ xs) ys = join_exchange xs ys
join_exchange (RequestElement turn ∷ xs) ys = rw (join_exchange xs ys) (simp append_assoc)

abbrev pub longer : Stage → List ℕ → Stage
longer old more = stage old.session (old.input ++ more)

element_grows : (old new : Stage) (element : Element) (more : List ℕ) → Goes old element new
    → Goes (longer old more) element (longer new more)
element_grows old new (Over n) more goes = grind (arith, common_steps)
element_grows old new (RequestElement turn) more goes = search
    (drop-append-le (length turn.heard.message) old.input more goes.next.first.2, whole_stays, take-append-le)

pub goes_grow : (old new : Stage) (elements : List Element) (more : List ℕ) → GoesAll old elements new
    → GoesAll (longer old more) elements (longer new more)
goes_grow old new [] more goes = ap (λ s. longer s more) goes
goes_grow old new (element ∷ elements) more goes =
    (longer goes.0 more, (element_grows old goes.0 element more goes.1.0, goes_grow goes.0 new elements more goes.1.1))

-- ---- what is processed

pub record Path (old new : Stage) (exchange : Exchange) : Type 0 where
  pub way : Way old new
  pub is : exchange_of way.elements ≡ exchange

over_first : {old mid new : Stage} {n : ℕ} {exchange : Exchange} → IsPassing old n mid → Path mid new exchange
    → Path old new exchange
over_first {mid = mid} {n = n} over path = record {
  way = record { elements = Over n ∷ path.way.elements; goes = (mid, (over, path.way.goes)) };
  is = path.is;
}

ends_over : {new : Stage} {exchange : Exchange} (session : SessionState) (input : List ℕ) (n : ℕ)
    → session.torn ≡ false → n ≤ length input → ((k : ℕ) → k < n → is_line_end (get_or input k 0) ≡ true)
    → Path (stage session (drop n input)) new exchange → Path (stage session input) new exchange
ends_over session input zero torn inside ends path = path
ends_over session [] (suc n) torn inside ends path = let bad : ⊥ = omega (arith, inside) in absurd bad
ends_over session (c ∷ cs) (suc n) torn inside ends path =
    over_first (record { over = AnEnd refl (omega arith) (ends 0 (omega arith)); torn = torn; new_is = refl })
    (ends_over session cs n torn (omega (arith, inside)) (λ k below. ends (suc k) (omega (arith, below))) path)

passed_over : {new : Stage} {exchange : Exchange} (session : SessionState) (input : List ℕ) (n : ℕ) → IsPassed input n
    → session.torn ≡ false → Path (stage session (drop n input)) new exchange → Path (stage session input) new exchange
passed_over session input n (inl skip) torn path = ends_over session input n torn skip.1.within skip.1.line_ends path
passed_over session input n (inr block) torn path =
    let over : IsPassing (stage session input) n (stage session (drop n input)) = grind arith in over_first over path

-- a request that was processed, as it was received
abbrev hearing : {old new : Stage} {message : List ℕ} {outcome : Outcome} {parts : List SentPart}
    → IsReplied old message outcome parts new → HeardRequest
hearing {old} {message = message} replied =
    record { session = old.session; message = message; ask = replied.heard.ask; asking = replied.heard.asking }

path_taken : {old mid new : Stage} {message : List ℕ} {outcome : Outcome} {parts : List SentPart} {later : Exchange}
    (replied : IsReplied old message outcome parts mid) → Path mid new later → Path old new (joined (record {
      heard = [];
      bytes = parts_bytes parts;
      answers = answer_in outcome;
      hearings = hearing replied ∷ [];
    }) later)
path_taken {old} {mid} {outcome = outcome} replied path =
    let turn : StationCall = record { heard = hearing replied; outcome = outcome; answered = replied.answered } in
    let taken : IsTaken old turn mid = assumption (replied, replied.heard) in
    record {
      way = record { elements = RequestElement turn ∷ path.way.elements; goes = (mid, (taken, path.way.goes)) };
      is = grind (arith, common_steps);
    }

abbrev pub takings_exchange : (old : Stage) (takings : List ElementStep) (new : Stage) → TakesAll old takings new
    → Exchange
takings_exchange old takings new takes = record {
  heard = [];
  bytes = takings_bytes takings;
  answers = answers_in (takings_outcomes takings);
  hearings = heard_requests_taken old takings new takes;
}

pub path_of : (old new : Stage) (takings : List ElementStep) (takes : TakesAll old takings new)
    → Path old new (takings_exchange old takings new takes)
path_of old new [] takes = rw takes (record { way = record { elements = []; goes = refl }; is = refl })
path_of old new (Passed n ∷ takings) takes =
    let exchange = takings_exchange takes.0 takings new takes.1.1 in
    passed_over old.session old.input n takes.1.0.0 takes.1.0.1
    (subst (λ s. Path s new exchange) takes.1.0.2 (path_of takes.0 new takings takes.1.1))
path_of old new (Answered message outcome parts ∷ takings) takes =
    path_taken takes.1.0 (path_of takes.0 new takings takes.1.1)

-- ---- where nothing more can be processed

first_element : (old new : Stage) (element : Element) → Goes old element new → (n : ℕ) × IsElementLength old.input n
first_element old new (Over n) goes = (n, (grind arith))
first_element old new (RequestElement turn) goes =
    (length turn.heard.message, WholeMessage goes.next.first.0 goes.next.first.1 goes.next.first.2)

goes_on : (old new : Stage) (element : Element) → Goes old element new → old.session.torn ≡ false
goes_on old new element given = grind arith

-- what isn't processed isn't complete, or waits for a reply, or comes after TEARDOWN
abbrev pub IsRest : Stage → Type 0
IsRest stage = ((n : ℕ) → IsElementLength stage.input n → ⊥) ⊎ (AwaitsReply stage ⊎ (stage.session.torn ≡ true))

stopped_rest : (stage : Stage) (end : ConnEnd) → IsStopped end stage → IsRest stage
stopped_rest stage TornDown stopped = inr (inr stopped)
stopped_rest stage HeadTooLong stopped = inl (tells_none stage.input (Err LongHead) stopped.1)
stopped_rest stage BodyTooLong stopped = inl (tells_none stage.input (Err LongBody) stopped.1)
stopped_rest stage _ stopped = absurd stopped

pub drained_rest : (stage : Stage) → IsDrained stage → IsRest stage
drained_rest stage (inl idle) = elim idle.waits [
  | inl more ↦ inl (tells_none stage.input (Ok More) more)
  | inr request ↦ inr (inl (record { length = request.0; first = request.1.0; waits = request.1.1 }))
]
drained_rest stage (inr stopped) = stopped_rest stage stopped.0 stopped.1

rest_goes : (old new : Stage) (element : Element) → IsRest old → Goes old element new → ⊥
rest_goes old new element (inl none) goes = let first = first_element old new element goes in none first.0 first.1
rest_goes old new (Over m) (inr (inl awaits)) goes = over_no_request old.input m goes.over awaits.first.0
rest_goes old new (RequestElement turn) (inr (inl awaits)) goes = cc (awaits.waits, goes.next.replied)
rest_goes old new element (inr (inr torn)) goes = cc (torn, goes_on old new element goes)

-- ---- two paths from one place

taken_films : (old new : Stage) (turn : StationCall) → IsTaken old turn new → new.session.films ≡ old.session.films
taken_films old new turn taken = search (
  arith,
  replied_names turn.answered,
  answered_names heard.asking heard.ask turn.outcome turn.answered taken.answered,
  hears_ground old.session heard.asking heard.message heard.ask taken.hears,
)
  where
    open turn use {heard}

pub goes_films : (old new : Stage) (elements : List Element) → GoesAll old elements new
    → new.session.films ≡ old.session.films
goes_films old new [] goes = ap (λ (s : Stage). s.session.films) goes
goes_films old new (Over n ∷ elements) goes = rw (goes_films goes.0 new elements goes.1.1, goes.1.0.new_is)
goes_films old new (RequestElement turn ∷ elements) goes =
    goes_films goes.0 new elements goes.1.1 ∙ taken_films old goes.0 turn goes.1.0

-- two requests were processed from one stage, and memory ran out for both or for neither
turns_same : {old one other : Stage} {turn again : StationCall} (given : AnswersAlike turn.outcome again.outcome)
    → AreFilms old.session.films → IsTaken old turn one → IsTaken old again other
    → LackMemoryAlike turn.heard again.heard → (other ≡ one)
    × (parts_bytes (reply_parts again.answered) ≡ parts_bytes (reply_parts turn.answered))
    × AreSameAnswers given.ones given.others
turns_same {old} {turn = turn} {again = again} given films taken also alike =
    let h = turn.heard in
    let g = again.heard in
    let message : g.message ≡ h.message =
    let is = taken.next in let again = also.next in
    cc (
      again.message_is,
      total_once old.input (length g.message) (length h.message) again.first.1 is.first.1,
      is.message_is,
    ) in
    let same = hears_same {one = h} {other = g} (search arith) in
    let answered : IsAskAnswered h.asking h.ask again.outcome again.answered = grind arith in
    let both = answers_same h.asking h.ask given (taken.answered, answered) in (
      also.new_is ∙ stage_is (ap after_reply both.0) (ap (λ (m : List ℕ). drop (length m) old.input) message)
          ∙ sym taken.new_is,
      ap (λ s. parts_bytes (reply_parts s)) both.0,
      both.1,
    )

-- these elements lead from a stage to one at which nothing more can be processed
pub record PathDone (old : Stage) (xs : List Element) : Type 0 where
  pub last : Stage
  pub goes : GoesAll old xs last
  pub done : IsDrained last

-- the path after its first element
abbrev path_rest : {old : Stage} {x : Element} {xs : List Element} (way : PathDone old (x ∷ xs))
    → PathDone way.goes.0 xs
path_rest way = record { last = way.last; goes = way.goes.1.1; done = way.done }

-- from the same stage
abbrev pub path_moved : {a b : Stage} {xs : List Element} → b ≡ a → PathDone b xs → PathDone a xs
path_moved {xs = xs} same way =
    record { last = way.last; goes = subst (λ s. GoesAll s xs way.last) same way.goes; done = way.done }

-- the station's answers are the same, and memory runs out alike
abbrev pub AreAlike : Exchange → Exchange → Type 0
AreAlike one other = AreSameAnswers one.answers other.answers × AllLackMemoryAlike one.hearings other.hearings

overs_same : {old one other : Stage} {n m : ℕ} → IsPassing old n one × IsPassing old m other → other ≡ one
overs_same {old} {n = n} {m = m} both = grind arith

-- two paths from one place end at one stage and send the same, and what comes after them is alike
pub ends_same : {old : Stage} {xs ys : List Element} (one other : Exchange) → AreFilms old.session.films
    → (way : PathDone old xs) (also : PathDone old ys)
    → AreAlike (joined (exchange_of xs) one) (joined (exchange_of ys) other)
    → (also.last ≡ way.last) × ((exchange_of ys).bytes ≡ (exchange_of xs).bytes) × AreAlike one other
ends_same {xs = []} {ys = []} one other films way also alike = grind arith
ends_same {old} {xs = []} {ys = y ∷ ys} one other films way also alike =
    absurd (rest_goes old also.goes.0 y (drained_rest old (subst IsDrained way.goes way.done)) also.goes.1.0)
ends_same {old} {xs = x ∷ xs} {ys = []} one other films way also alike =
    absurd (rest_goes old way.goes.0 x (drained_rest old (subst IsDrained also.goes also.done)) way.goes.1.0)
ends_same {xs = Over n ∷ xs} {ys = Over m ∷ ys} one other films way also alike =
    ends_same {xs = xs} {ys = ys} one other (rw way.goes.1.0.new_is films) (path_rest way)
    (path_moved (overs_same (way.goes.1.0, also.goes.1.0)) (path_rest also)) alike
ends_same {old} {xs = Over n ∷ xs} {ys = RequestElement turn ∷ ys} one other films way also alike =
    absurd (over_no_request old.input n way.goes.1.0.over also.goes.1.0.next.first.0)
ends_same {old} {xs = RequestElement turn ∷ xs} {ys = Over m ∷ ys} one other films way also alike =
    absurd (over_no_request old.input m also.goes.1.0.over way.goes.1.0.next.first.0)
ends_same {old} {xs = RequestElement turn ∷ xs} {ys = RequestElement again ∷ ys} one other films way also alike =
    let taken = way.goes.1.0 in
    let both = turns_same (search (
      arith,
      append_assoc (answer_in turn.outcome) (exchange_of xs).answers one.answers,
      append_assoc (answer_in again.outcome) (exchange_of ys).answers other.answers,
      append_assoc,
    )) films taken also.goes.1.0 alike.1.0 in
    let kept : AreFilms way.goes.0.session.films = subst AreFilms (sym (taken_films old way.goes.0 turn taken)) films in
    let rest = ends_same {xs = xs} {ys = ys} one other kept (path_rest way) (path_moved both.0 (path_rest also))
    (both.2, alike.1.1) in
    (rest.0, rw (both.1, rest.1), rest.2)
