-- However the same bytes between the same slots are split, a connection sends the same.
use Rattle.std.proofs.Common.{ap₂, arith, ◌≡◌, ℕ, ◌++◌, List, [], ◌∷◌, map, refl, ap, sym, ◌∙◌, inl}
use Rattle.std.proofs.lemmas.List.{append-nil, append_assoc, map-append}
use Rattle.connection_laws.proofs.Terms.{IoEvent, HeardBytes, HeardSlot, Stored, AreFilms, Comes, Round, Runs}
use Rattle.connection_laws.proofs.Terms.{IsStopped, rounds_outcomes, takings_bytes, takings_outcomes, HasStepped}
use Rattle.connection_laws.proofs.Terms.{Outcome, SentPart, Stage, parts_bytes, stage, ConnEnd, first_stage}
use Rattle.connection_laws.proofs.Terms.{rounds_bytes, AllLackMemoryAlike, AreSameAnswers, Beginning, InputSplit}
use Rattle.connection_laws.proofs.Terms.{HeardRequest, IsDrained, TakesUp, answer_in, answers_in, heard_requests_in}
use Rattle.conn.specs.EventSteps.{RunsAll}
use Rattle.connection_laws.specs.InputSplits.{HaveSameInput, HaveSameOutput, all_heard, heard_in}
use Rattle.connection_laws.proofs.KeptParts.{stepped_names}
use Rattle.connection_laws.proofs.UniqueResults.{steps_same}
use Rattle.connection_laws.proofs.ElementPaths.{GoesAll, Element, ends_same, goes_films, goes_grow, longer, path_of}
use Rattle.connection_laws.proofs.ElementPaths.{Exchange, no_exchange, joined, exchange_of, join_exchange, way_then}
use Rattle.connection_laws.proofs.ElementPaths.{Way, PathDone, path_moved, AreAlike}
use Rattle.connection_laws.proofs.Lists.{joins_parts}

-- bytes that came, the elements that were processed after them, and the end, where no more could be processed
record Stretch (base : Stage) : Type 0 where
  bytes : List ℕ
  elements : List Element
  way : PathDone (longer base bytes) elements

-- a slot, and the bytes that came after it
record Leg : Type 0 where
  slot : ℕ
  due : List SentPart
  halt : Outcome
  opened : Stage
  rest : Stretch opened

abbrev LegsAll : Stage → List Leg → Stage → Type 0
LegsAll old [] new = new ≡ old
LegsAll old (leg ∷ legs) new = HasStepped old.session leg.slot leg.due leg.halt leg.opened.session
    × (leg.opened.input ≡ old.input) × LegsAll leg.rest.way.last legs new

abbrev bytes_heard : List ℕ → List IoEvent
bytes_heard bytes = map (λ byte. HeardBytes (byte ∷ [])) bytes

-- bytes, and the elements that were processed after them
abbrev elements_exchange : List ℕ → List Element → Exchange
elements_exchange bytes elements = record (exchange_of elements) { heard = bytes_heard bytes }

abbrev stretch_exchange : {base : Stage} → Stretch base → Exchange
stretch_exchange rest = elements_exchange rest.bytes rest.elements

-- an event, before elements are processed
abbrev event_exchange : IoEvent → List SentPart → Outcome → Exchange
event_exchange event due halt = record {
  heard = heard_in event;
  bytes = parts_bytes due;
  answers = answer_in halt;
  hearings = [];
}

abbrev legs_exchange : List Leg → Exchange
legs_exchange [] = no_exchange
legs_exchange (leg ∷ legs) = joined (event_exchange (HeardSlot leg.slot) leg.due leg.halt)
    (joined (stretch_exchange leg.rest) (legs_exchange legs))

-- a course from a place on: the bytes that came before the next slot, and then slot after slot
record Split (base new : Stage) (all : Exchange) : Type 0 where
  first : Stretch base
  legs : List Leg
  legs_are : LegsAll first.way.last legs new
  all_is : all ≡ joined (stretch_exchange first) (legs_exchange legs)

-- bytes that come first, and the elements that lead with them from one stage to another
record FrontTaken (base cur : Stage) : Type 0 where
  bytes : List ℕ
  way : Way (longer base bytes) cur

abbrev front_exchange : {base cur : Stage} → FrontTaken base cur → Exchange
front_exchange front = elements_exchange front.bytes front.way.elements

-- where no more can be processed
abbrev front_done : {base cur : Stage} → FrontTaken base cur → IsDrained cur → Stretch base
front_done {cur = cur} front done = record {
  bytes = front.bytes;
  elements = front.way.elements;
  way = record { last = cur; goes = front.way.goes; done = done };
}

-- what comes after an event: the course from there, for each place that it begins at
abbrev Later : Stage → Stage → Exchange → Type 0
Later mid new all = (base : Stage) (front : FrontTaken base mid) → Split base new (joined (front_exchange front) all)

-- an event, and the elements that are processed after it
record EventTaken (cur mid : Stage) (event : IoEvent) : Type 0 where
  opened : Stage
  due : List SentPart
  halt : Outcome
  comes : Comes cur event due halt opened
  way : Way opened mid

-- an event, with what came before it and what comes after
event_split : {base cur mid new : Stage} {all : Exchange} {event : IoEvent} (front : FrontTaken base cur)
    → Later mid new all → (taken : EventTaken cur mid event) → IsDrained cur → Split base new
    (joined (front_exchange front) (joined (event_exchange event taken.due taken.halt)
    (joined (elements_exchange [] taken.way.elements) all)))
event_split {base} {cur} {event = HeardBytes bytes} front later taken done =
    let before : GoesAll (longer base (front.bytes ++ bytes)) front.way.elements taken.opened =
    rw (← (ap (λ input. stage base.session input) (append_assoc base.input front.bytes bytes)))
    (rw taken.comes.3 (goes_grow (longer base front.bytes) cur front.way.elements bytes front.way.goes)) in
    let split = simp (map-append, join_exchange, append_assoc) at (later base (record {
      bytes = front.bytes ++ bytes;
      way = way_then (record { elements = front.way.elements; goes = before }) taken.way;
    })) in
    rw taken.comes.0 (rw taken.comes.1 split)
event_split {mid = mid} {event = HeardSlot slot} front later taken done =
    let there : GoesAll (longer opened []) way.elements mid = rw (append-nil opened.input) way.goes in
    let rest = later opened (record { bytes = []; way = record { elements = way.elements; goes = there } }) in
    record {
      first = front_done front done;
      legs = record { slot = slot; due = due; halt = halt; opened = opened; rest = rest.first } ∷ rest.legs;
      legs_are = (comes.1, comes.0, rest.legs_are);
      all_is =
          ap (λ e. joined (front_exchange front) (joined (event_exchange (HeardSlot slot) due halt) e)) rest.all_is;
    }
  where
    open taken use {opened, due, halt, comes, way}
event_split front later taken done = absurd taken.comes

-- event after event
abbrev rounds_exchange : (cur : Stage) (rounds : List Round) (new : Stage) → TakesUp cur rounds new → Exchange
rounds_exchange cur rounds new takes = record {
  heard = all_heard rounds;
  bytes = rounds_bytes rounds;
  answers = answers_in (rounds_outcomes rounds);
  hearings = heard_requests_in cur rounds new takes;
}

rounds_split : (cur new : Stage) (rounds : List Round) (takes : TakesUp cur rounds new) → IsDrained cur
    → Later cur new (rounds_exchange cur rounds new takes)
rounds_split cur new [] takes done =
    λ base front. record { first = front_done front done; legs = []; legs_are = takes; all_is = refl }
rounds_split cur new (round ∷ rounds) takes done =
    let mid : Stage = takes.0 in
    let runs = takes.1.0 in
    let later = rounds_split mid new rounds takes.1.2 takes.1.1 in
    let path = path_of runs.opened mid round.takings runs.takes in
    let taken : EventTaken cur mid round.event = grind arith in
    λ base front. rw (
      path.is,
      ← (append_assoc (parts_bytes round.due) (takings_bytes round.takings) (rounds_bytes rounds)),
      ← (joins_parts answers_in (record { one = answer_in; none = refl; more = λ x xs. refl })
          (takings_outcomes round.takings) (rounds_outcomes rounds)),
    ) at (event_split front later taken done)

-- ---- what was received has one split

heard_split : (xs ys : List ℕ) (one other : List Leg)
    → bytes_heard xs ++ (legs_exchange one).heard ≡ bytes_heard ys ++ (legs_exchange other).heard
    → (xs ≡ ys) × ((legs_exchange one).heard ≡ (legs_exchange other).heard)
heard_split [] [] one other same = (refl, same)
heard_split [] (y ∷ ys) [] other same = cc
heard_split [] (y ∷ ys) (leg ∷ one) other same = cc
heard_split (x ∷ xs) [] one [] same = cc
heard_split (x ∷ xs) [] one (leg ∷ other) same = cc
heard_split (x ∷ xs) (y ∷ ys) one other same = grind (arith, heard_split xs ys one other (cc))

-- ---- leg by leg

-- what two connections received is the same, so are the answers, and memory ran out alike
abbrev ExchangesAlike : Exchange → Exchange → Type 0
ExchangesAlike a b = (a.heard ≡ b.heard) × AreAlike a b

-- from one stage on, these legs come to the same where what they exchange is alike
abbrev ComeToSame : List Leg → List Leg → Stage → Stage → Type 0
ComeToSame xs ys one other = (at : Stage) → AreFilms at.session.films → LegsAll at xs one → LegsAll at ys other
    → ExchangesAlike (legs_exchange xs) (legs_exchange ys)
    → (other ≡ one) × ((legs_exchange ys).bytes ≡ (legs_exchange xs).bytes)

splits_same : {base again one other : Stage} {a b : Exchange} → again ≡ base → AreFilms base.session.films
    → (x : Split base one a) (y : Split again other b) → ExchangesAlike a b → ComeToSame x.legs y.legs one other
    → (other ≡ one) × (b.bytes ≡ a.bytes)
splits_same {base} {other = other} {a} {b} same films x y given legs =
    let cut = heard_split x.first.bytes y.first.bytes x.legs y.legs
    (sym (ap (λ (e : Exchange). e.heard) x.all_is) ∙ given.0 ∙ ap (λ (e : Exchange). e.heard) y.all_is) in
    let way = x.first.way in
    let ends = ends_same (legs_exchange x.legs) (legs_exchange y.legs) films way
    (path_moved (ap₂ longer same (sym cut.0)) y.first.way) (rw (x.all_is, y.all_is) at given.1) in
    let there : AreFilms way.last.session.films =
    rw (goes_films (longer base x.first.bytes) way.last x.first.elements way.goes) films in
    let rest = legs way.last there x.legs_are (rw ends.0 at y.legs_are)
    (cut.1, ends.2) in
    (rest.0, rw (y.all_is, ends.1, rest.1, x.all_is))

-- the split after a leg's slot
abbrev split_after : {base new : Stage} (rest : Stretch base) (legs : List Leg) → LegsAll rest.way.last legs new
    → Split base new (joined (stretch_exchange rest) (legs_exchange legs))
split_after rest legs are = record { first = rest; legs = legs; legs_are = are; all_is = refl }

legs_same : {one other : Stage} (xs ys : List Leg) → ComeToSame xs ys one other
legs_same [] [] old films legs too given = (too ∙ sym legs, refl)
legs_same [] (y ∷ ys) old films legs too given = cc given.0
legs_same (x ∷ xs) [] old films legs too given = cc given.0
legs_same {one} {other} (x ∷ xs) (y ∷ ys) old films legs too given =
    let slots : y.slot ≡ x.slot = cc given.0 in
    let step = steps_same {old = old.session} {slot = x.slot} {one = x.halt} {other = y.halt}
    (record {
      ones = (exchange_of x.rest.elements).answers ++ (legs_exchange xs).answers;
      others = (exchange_of y.rest.elements).answers ++ (legs_exchange ys).answers;
      same = given.1.0;
    }) (record { due = x.due; new = x.opened.session; stepped = legs.0 })
    (record { due = y.due; new = y.opened.session; stepped = rw (← slots) too.0 }) in
    let opened : y.opened ≡ x.opened = ap₂ stage step.1 (too.1 ∙ sym legs.1) in
    let kept : AreFilms x.opened.session.films =
    rw (ap (λ (n : List Stored × List ℕ). n.0)
    (stepped_names old.session x.slot x.due x.halt x.opened.session legs.0)) films in
    let rest = splits_same opened kept (split_after x.rest xs legs.2) (split_after y.rest ys too.2)
    (cc given.0, (step.2, given.1.1))
    (legs_same xs ys) in
    (rest.0, cc (step.0, rest.1))

-- ---- from a connection's beginning on

abbrev first_of : Beginning → Stage
first_of beginning = first_stage beginning.films beginning.settings beginning.words

whole_split : (beginning : Beginning) (cutting : InputSplit beginning) → Split (first_of beginning) cutting.last
    (rounds_exchange (first_of beginning) cutting.rounds cutting.last cutting.takes)
whole_split beginning cutting =
    (rounds_split (first_of beginning) cutting.last cutting.rounds cutting.takes
    (inl (record { torn = refl; waits = inl (inl refl) }))) (first_of beginning)
    (record { bytes = []; way = record { elements = []; goes = refl } })

pub two_cuttings : (beginning : Beginning) (one other : InputSplit beginning) → AreFilms beginning.films
    → HaveSameInput beginning one other → HaveSameOutput beginning one other
two_cuttings beginning one other films cuts =
    let x = whole_split beginning one in
    let y = whole_split beginning other in
    let same = splits_same refl films x y
    (cuts.heard, (cuts.answers, cuts.memory))
    (legs_same x.legs y.legs) in
    record { bytes = sym same.1; last = sym same.0 }

-- ---- a connection's course is such a split, and so is each prefix of it

pub takes_all : (old new : Stage) (rounds : List Round) → RunsAll old rounds new → TakesUp old rounds new
takes_all old new [] runs = runs
takes_all old new (round ∷ rounds) runs = (runs.0, (runs.1.0, inl runs.1.1, takes_all runs.0 new rounds runs.1.2))

pub takes_last : {mid new : Stage} {round : Round} (old : Stage) (rounds : List Round) (end : ConnEnd) →
    RunsAll old rounds mid → Runs mid round new → IsStopped end new → TakesUp old (rounds ++ round ∷ []) new
takes_last {new} {round} old [] end runs last stopped = grind arith
takes_last {mid} {new} {round} old (first ∷ rounds) end runs last stopped =
    (runs.0, (runs.1.0, inl runs.1.1, takes_last runs.0 rounds end runs.1.2 last stopped))

pub takes_part : (old new : Stage) (first rest : List Round) → TakesUp old (first ++ rest) new
    → (mid : Stage) × (TakesUp old first mid × TakesUp mid rest new)
takes_part old new [] rest takes = (old, (refl, takes))
takes_part old new (round ∷ first) rest takes = grind (arith, takes_part takes.0 new first rest takes.1.2)

-- what is alike is alike in prefixes
pub same_fronts : (one more other further : List Outcome) → AreSameAnswers (one ++ more) (other ++ further)
    → AreSameAnswers one other
same_fronts (x ∷ one) more (y ∷ other) further same = (same.0, same_fronts one more other further same.1)
same_fronts _ more _ further same = tt

pub lack_fronts : (one more other further : List HeardRequest) → AllLackMemoryAlike (one ++ more) (other ++ further)
    → AllLackMemoryAlike one other
lack_fronts (x ∷ one) more (y ∷ other) further alike = (alike.0, lack_fronts one more other further alike.1)
lack_fronts _ more _ further alike = tt
