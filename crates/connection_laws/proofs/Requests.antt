-- The requests that were processed are those of the input, in order: where a client's requests came up to a place, the
-- first of them, each complete.
use Rattle.std.proofs.lemmas.Grind.{common_steps}
use Rattle.std.proofs.Common.{◌≡◌, ℕ, ◌<◌, ◌++◌, if◌then◌else◌, Bool, true, false, List, ◌∷◌, Ok, length, take, drop}
use Rattle.std.proofs.Common.{map, refl, ap, sym, ◌∙◌, inl, inr, arith, []}
use Rattle.std.proofs.lemmas.List.{append-nil, append_assoc, drop_at, take-append-drop, take_at, map-append}
use Rattle.std.specs.Prelude.{⊤}
use Rattle.connection_laws.proofs.Terms.{IsFirst, StartsMessage, AreInputElements, IsElementLength, WholeMessage}
use Rattle.connection_laws.proofs.Terms.{Request, Round, IsPrefixOf, Answered, Passed, Stage, ElementStep, TakesAll}
use Rattle.connection_laws.proofs.Terms.{stage, IsCourseBetween, first_stage, Course, Beginning, InputSplit, IsDrained}
use Rattle.connection_laws.proofs.Terms.{TakesUp, heard_requests_in, heard_requests_taken, bytes_in, rounds_input}
use Rattle.interleave.proofs.StreamElements.{CutsInTurn, cut_grows, cuts_agree, cuts_join}
use Rattle.connection_laws.specs.Requests.{AreTaken, is_no_request, message_of, requests_in}
use Rattle.connection_laws.proofs.ElementPaths.{GoesAll, IsOver, Over, Element, RequestElement, path_of, exchange_of}
use Rattle.connection_laws.proofs.ElementPaths.{drained_rest}
use Rattle.connection_laws.proofs.CourseInduction.{begin_of, takings_requests, rounds_requests}
use Rattle.connection_laws.proofs.AcceptedMoments.{none_more}

append_by : (other : Bool) (x : List ℕ) (xs ys : List (List ℕ))
    → (if other then xs ++ ys else x ∷ (xs ++ ys)) ≡ (if other then xs else x ∷ xs) ++ ys
append_by other x xs ys = grind arith

pub requests_append : (xs ys : List (List ℕ)) → requests_in (xs ++ ys) ≡ requests_in xs ++ requests_in ys
requests_append [] ys = refl
requests_append (x ∷ xs) ys =
    rw (requests_append xs ys, append_by (is_no_request x) x (requests_in xs) (requests_in ys))

-- a request begins with another byte than CR, LF and `$`
pub starts_request : (input : List ℕ) (n : ℕ) → StartsMessage input → 0 < n → is_no_request (take n input) ≡ false
starts_request input n starts some = grind (arith, common_steps)

over_other : (input : List ℕ) (n : ℕ) → IsOver input n → is_no_request (take n input) ≡ true
over_other input n given = grind arith

-- bytes are split into elements with these requests, and into what waits
pub record CutsAll (heard : List ℕ) (new : Stage) (messages : List (List ℕ)) : Type 0 where
  pub elements : List (List ℕ)
  pub cut : AreInputElements heard elements new.input
  pub requests : requests_in elements ≡ messages

-- one element first
first_cut : {input : List ℕ} {new : Stage} {messages : List (List ℕ)} (n : ℕ) → IsElementLength input n
    → CutsAll (drop n input) new messages
    → CutsAll input new (if is_no_request (take n input) then messages else take n input ∷ messages)
first_cut {input} n element rest = record {
  elements = take n input ∷ rest.elements;
  cut = (n, (element, refl, rest.cut));
  requests = cc rest.requests;
}

-- elements that are processed are those of the input
goes_cut : (old new : Stage) (elements : List Element) → GoesAll old elements new
    → CutsAll old.input new (map message_of (exchange_of elements).hearings)
goes_cut old new [] goes = record { elements = []; cut = ap (λ (s : Stage). s.input) (sym goes); requests = refl }
goes_cut old new (Over n ∷ elements) goes =
    let over = goes.1.0.over in
    rw (over_other old.input n over) at
    (first_cut n (grind arith) (rw goes.1.0.new_is at (goes_cut goes.0 new elements goes.1.1)))
goes_cut old new (RequestElement turn ∷ elements) goes =
    let next = goes.1.0.next in
    let n : ℕ = length turn.heard.message in
    let some : 0 < n = omega (arith, next.first.1.total_is, next.first.1.is_head.some) in
    let rest = rw goes.1.0.new_is at (goes_cut goes.0 new elements goes.1.1) in
    rw next.message_is (rw (starts_request old.input n next.first.0 some) at
    (first_cut n (WholeMessage next.first.0 next.first.1 next.first.2) rest))

-- the requests that are received are those that are processed
takings_heard : (old new : Stage) (takings : List ElementStep) (takes : TakesAll old takings new)
    → map message_of (heard_requests_taken old takings new takes) ≡ takings_requests takings
takings_heard old new [] takes = refl
takings_heard old new (Passed n ∷ takings) takes = takings_heard takes.0 new takings takes.1.1
takings_heard old new (Answered message outcome parts ∷ takings) takes = rw
    (takings_heard takes.0 new takings takes.1.1)

-- a course, by what was received up to its end
rounds_taken : (old new : Stage) (rounds : List Round) (takes : TakesUp old rounds new) → IsDrained old
    → IsCourseBetween old rounds new × IsDrained new
    × (map message_of (heard_requests_in old rounds new takes) ≡ rounds_requests rounds)
rounds_taken old new [] takes done = (takes, rw takes done, refl)
rounds_taken old new (round ∷ rounds) takes done =
    let rest = rounds_taken takes.0 new rounds takes.1.2 takes.1.1 in
    ((takes.0, (takes.1.0, rest.0)), rest.1, rw (map-append, takings_heard, rest.2))

-- what was received by a stage
pub follows_cut : {new : Stage} {heard : List ℕ} {messages : List (List ℕ)} (old : Stage) (rounds : List Round)
    → IsCourseBetween old rounds new → CutsAll heard old messages
    → CutsAll (heard ++ rounds_input rounds) new (messages ++ rounds_requests rounds)
follows_cut {messages = messages} old [] follows cuts = grind (arith, common_steps)
follows_cut {new} {heard} {messages} old (round ∷ rounds) follows cuts =
    let mid : Stage = follows.0 in
    let runs = follows.1.0 in
    let bytes : List ℕ = bytes_in round.event in
    let path = path_of runs.opened mid round.takings runs.takes in
    let more : List (List ℕ) = takings_requests round.takings in
    let next = goes_cut runs.opened mid path.way.elements path.way.goes in
    let opened : runs.opened.input ≡ old.input ++ bytes = grind (arith, common_steps) in
    let both : CutsInTurn heard bytes cuts.elements next.elements old.input mid.input = search arith in
    rw (← (append_assoc heard bytes (rounds_input rounds)), ← (append_assoc messages more (rounds_requests rounds)))
    (follows_cut {new = new} {heard = heard ++ bytes} {messages = messages ++ more} mid rounds follows.1.1 (record {
      elements = cuts.elements ++ next.elements;
      cut = cuts_join both;
      requests = search (arith, requests_append, takings_heard, cuts.requests, next.requests);
    }))

none_cut : {stage : Stage} → stage.input ≡ [] → CutsAll [] stage []
none_cut none = record { elements = []; cut = sym none; requests = refl }

pub requests_taken : (beginning : Beginning) (cutting : InputSplit beginning) → AreTaken beginning cutting
requests_taken beginning cutting =
    let first : Stage = first_stage beginning.films beginning.settings beginning.words in
    let taken = rounds_taken first cutting.last cutting.rounds cutting.takes
    (inl (record { torn = refl; waits = inl (inl refl) })) in
    let cuts = follows_cut first cutting.rounds taken.0 (none_cut refl) in
    record {
      elements = cuts.elements;
      cut = cuts.cut;
      requests = cuts.requests ∙ sym taken.2;
      rest = drained_rest cutting.last taken.1;
    }

-- texts that are found complete, each before whatever comes after it
abbrev pub AreFound : List (List ℕ) → Type 0
AreFound [] = ⊤
AreFound (text ∷ texts) = ((later : List ℕ) → IsFirst (text ++ later) (Ok (Request (length text)))) × AreFound texts

-- what they make together
abbrev pub joined : List (List ℕ) → List ℕ
joined [] = []
joined (text ∷ texts) = text ++ joined texts

texts_cut : (texts : List (List ℕ)) → AreFound texts → AreInputElements (joined texts) texts []
texts_cut [] found = refl
texts_cut (text ∷ texts) found = search (
  arith,
  drop_at text (joined texts) (length text),
  take_at text (joined texts) (length text),
  texts_cut texts found.1,
)

text_request : (text : List ℕ) → IsFirst (text ++ []) (Ok (Request (length text))) → is_no_request text ≡ false
text_request text first = grind (arith, common_steps)

texts_requests : (texts : List (List ℕ)) → AreFound texts → requests_in texts ≡ texts
texts_requests [] found = refl
texts_requests (text ∷ texts) found = rw (text_request text (found.0 []), texts_requests texts found.1)

pub requests_front : (course : Course) (texts : List (List ℕ)) → AreFound texts
    → IsPrefixOf (rounds_input course.rounds) (joined texts)
    → (more : List (List ℕ)) × (texts ≡ rounds_requests course.rounds ++ more)
requests_front course texts found front =
    let all = joined texts in
    let cuts = follows_cut (begin_of course) course.rounds course.follows (none_cut refl) in
    let later = drop front.0 all in
    let input = rounds_input course.rounds in
    let whole : input ++ later ≡ all = ap (λ l. l ++ later) front.1.1 ∙ take-append-drop front.0 all in
    let grown = rw whole at (cut_grows input later cuts.elements course.last.input cuts.cut) in
    let its : (more : List (List ℕ)) × (texts ≡ cuts.elements ++ more) =
    elim (cuts_agree (record { one = grown; other = texts_cut texts found })) [
      | inl goes ↦ (goes.0, goes.1.0)
      | inr (more, (is, after)) ↦ search (arith, append-nil texts, none_more)
    ] in (
      requests_in its.0,
      sym (texts_requests texts found) ∙ ap requests_in its.1 ∙ requests_append cuts.elements its.0
          ∙ ap (λ l. l ++ requests_in its.0) cuts.requests,
    )
