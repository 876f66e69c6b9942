-- The plays of a course are those that its entries record, and what was sent of its one play by the step of a slot.
use Rattle.std.proofs.Common.{◌≡◌, ℕ, ◌++◌, List, ◌∷◌, map, refl, ap, ◌∙◌, ◌<◌, ◌≤◌, ◌⊎◌, append_assoc, arith, inl, inr}
use Rattle.std.proofs.Common.{[]}
use Rattle.std.proofs.lemmas.List.{map-append}
use Rattle.connection_laws.proofs.Terms.{total_bytes, PlacedEntry, Admitted, Awaited, Play, SessionState, AwaitedAnswer}
use Rattle.connection_laws.proofs.Terms.{Round, entries_in, rounds_outcomes, takings_outcomes, Outcome, Stage}
use Rattle.connection_laws.proofs.Terms.{ElementStep, Passed, Answered, TakesAll, entry_in, Entered, IsCourseBetween}
use Rattle.connection_laws.proofs.Terms.{asked_by, askings_of, takings_askings, Course, course_plays, IsCourseSplit}
use Rattle.connection_laws.proofs.Terms.{StationRequest, Asks, plays_admitted, plays_begun, kept_among, kept_in}
use Rattle.connection_laws.proofs.Terms.{kept_with, play_by, plays_of, FilmPlay, kept_by, IsPlan, Answer, Command}
use Rattle.connection_laws.proofs.Terms.{Prepared}
use Rattle.connection_laws.specs.Plays.{booked_plays, booking_of}
use Rattle.connection_laws.proofs.RequestEffects.{TurnsAs, told_by}
use Rattle.connection_laws.proofs.CourseInduction.{parts_of, comes_heard, begin_of, course_kept}
use Rattle.connection_laws.proofs.CourseSteps.{IsKeptStanding, Stands, request_turns, all_kept, kept_from_standing}
use Rattle.admission.specs.declared.entries.Command.TheVariants.{Halt as HaltCommand}
use Rattle.connection_laws.proofs.KeptParts.{LastingPart, taken_keeps}
use Rattle.conn.proofs.StationAnswers.{FinishesAs, ComesAs}
use Rattle.connection_laws.proofs.Lists.{Each, each_append, each_weaker}

-- the play that begins is the one that the entry records, if any
abbrev IsTold : StationRequest → Type 0
IsTold (Asks asked outcome) = (askings : List StationRequest) (made : List PlacedEntry)
    → ((all : ℕ) → kept_in askings all ≡ kept_among made all)
    → map booking_of (plays_begun asked outcome askings) ≡ told_by outcome made

abbrev pub AreTold : List StationRequest → Type 0
AreTold = Each IsTold

-- the entries of askings
abbrev pub outcomes_in : List StationRequest → List Outcome
outcomes_in [] = []
outcomes_in (Asks asked outcome ∷ askings) = outcome ∷ outcomes_in askings

pub kept_more : (outcome : Outcome) (made : List PlacedEntry) (all : ℕ)
    → kept_with outcome (kept_among made all) ≡ kept_among (entry_in outcome ++ made) all
kept_more outcome made all = grind arith

told_more : (outcome : Outcome) (made : List PlacedEntry)
    → told_by outcome made ++ booked_plays made ≡ booked_plays (entry_in outcome ++ made)
told_more outcome made = grind arith

kept_same : (askings : List StationRequest) (all : ℕ) → kept_in askings all ≡ kept_among (entries_in (outcomes_in
    askings)) all
kept_same [] all = refl
kept_same (Asks asked outcome ∷ askings) all =
    ap (kept_with outcome) (kept_same askings all) ∙ kept_more outcome (entries_in (outcomes_in askings)) all

plays_told : (askings : List StationRequest) → AreTold askings
    → map booking_of (plays_of askings) ≡ booked_plays (entries_in (outcomes_in askings))
plays_told [] told = refl
plays_told (Asks asked outcome ∷ askings) told =
    let made : List PlacedEntry = entries_in (outcomes_in askings) in
    rw (map-append booking_of (plays_begun asked outcome askings) (plays_of askings))
    (rw (told.0 askings made (kept_same askings), plays_told askings told.1, told_more outcome made))

outcomes_append : (xs ys : List StationRequest) → outcomes_in (xs ++ ys) ≡ outcomes_in xs ++ outcomes_in ys
outcomes_append [] ys = refl
outcomes_append (Asks asked outcome ∷ xs) ys = ap (λ os. outcome ∷ os) (outcomes_append xs ys)

takes_outcomes : (old new : Stage) (takings : List ElementStep) (takes : TakesAll old takings new)
    → outcomes_in (takings_askings old takings new takes) ≡ takings_outcomes takings
takes_outcomes old new [] takes = refl
takes_outcomes old new (Passed n ∷ takings) takes = takes_outcomes takes.0 new takings takes.1.1
takes_outcomes old new (Answered message outcome parts ∷ takings) takes = rw
    (takes_outcomes takes.0 new takings takes.1.1)

halt_none : {s new : SessionState} {asks : AwaitedAnswer} {halt : Outcome} (asked : Awaited)
    → FinishesAs s asks halt new → (askings : List StationRequest) → plays_begun asked halt askings ≡ []
halt_none asked given askings = grind arith

pub comes_none : {old opened : Stage} {round : Round} → ComesAs old round opened → (askings : List StationRequest)
    → plays_begun (asked_by old.session round.event) round.halt askings ≡ []
comes_none given askings = grind (arith, halt_none)

-- and records none
finish_untold : {s new : SessionState} {asks : AwaitedAnswer} {halt : Outcome} → FinishesAs s asks halt new
    → (made : List PlacedEntry) → told_by halt made ≡ []
finish_untold given made = grind arith

comes_told : {old opened : Stage} {round : Round} → ComesAs old round opened
    → IsTold (Asks (asked_by old.session round.event) round.halt)
comes_told given = grind (arith, halt_none, finish_untold)

pub course_outcomes : (old new : Stage) (rounds : List Round) (follows : IsCourseBetween old rounds new)
    → outcomes_in (askings_of old rounds new follows) ≡ rounds_outcomes rounds
course_outcomes old new [] follows = refl
course_outcomes old new (round ∷ rounds) follows =
    search (course_outcomes follows.0 new rounds follows.1.1, outcomes_append, takes_outcomes)

-- ---- askings in two parts

pub askings_parts : (old new : Stage) (first rest : List Round) (follows : IsCourseBetween old (first ++ rest) new)
    → let parts : IsCourseSplit old first rest new = parts_of old new first rest follows in
    askings_of old (first ++ rest) new follows ≡ askings_of old first parts.0 parts.1.0
    ++ askings_of parts.0 rest new parts.1.1
askings_parts old new [] rest follows = refl
askings_parts old new (round ∷ first) rest follows = search
    (askings_parts follows.0 new first rest follows.1.1, append_assoc)

-- ---- what is kept, and which plays begin

kept_append : (a b : List StationRequest) (all : ℕ) → kept_in (a ++ b) all ≡ kept_in a (kept_in b all)
kept_append [] b all = refl
kept_append (Asks asked outcome ∷ a) b all = ap (kept_with outcome) (kept_append a b all)

-- what is kept is what is kept later, or a number
abbrev IsKeptSome : (ℕ → ℕ) → Type 0
IsKeptSome keep = ((later : ℕ) → keep later ≡ later) ⊎ ((n : ℕ) × ((later : ℕ) → keep later ≡ n))

kept_command : (command : Command) → IsKeptSome (kept_by command)
kept_command (HaltCommand number keep) = inr (keep, λ later. refl)
kept_command _ = inl (λ later. refl)

kept_outcome : (outcome : Outcome) → IsKeptSome (kept_with outcome)
kept_outcome (Entered placed) = kept_command placed.entry.command
kept_outcome _ = inl (λ later. refl)

kept_both : (one two : ℕ → ℕ) → IsKeptSome one → IsKeptSome two → IsKeptSome (λ later. one (two later))
kept_both one two given given' = grind arith

kept_some : (a : List StationRequest) → IsKeptSome (kept_in a)
kept_some [] = inl (λ later. refl)
kept_some (Asks asked outcome ∷ a) = kept_both (kept_with outcome) (kept_in a) (kept_outcome outcome) (kept_some a)

-- an asking begins no play, or one
data Beginning (asked : Awaited) (outcome : Outcome) : Type 0 where
  BeginsNone : ((askings : List StationRequest) → plays_begun asked outcome askings ≡ []) → Beginning asked outcome
  BeginsOne : (prepared : Prepared) (start : ℕ)
      → ((askings : List StationRequest) → plays_begun asked outcome askings ≡ play_by prepared start askings ∷ [])
      → Beginning asked outcome

entered_either : (asked : Awaited) (placed : PlacedEntry) (answer : Answer) → placed.entry.answer ≡ answer
    → Beginning asked (Entered placed)
entered_either (Play prepared) placed (Admitted start) is =
    BeginsOne prepared start (λ askings. ap (λ a. plays_admitted (Play prepared) a askings) is)
entered_either (Play prepared) placed _ is = grind arith
entered_either _ placed answer is = BeginsNone (λ askings. refl)

either : (asked : Awaited) (outcome : Outcome) → Beginning asked outcome
either asked (Entered placed) = entered_either asked placed placed.entry.answer refl
either asked _ = BeginsNone (λ askings. refl)

-- none at all, none so far
none_before : (a b : List StationRequest) → plays_of (a ++ b) ≡ [] → plays_of a ≡ []
none_before [] b none = refl
none_before (Asks asked outcome ∷ a) b none = elim (either asked outcome) [
  | BeginsNone is ↦ rw (is a) (none_before a b (cc (is (a ++ b), none)))
  | BeginsOne prepared start is ↦ cc (is (a ++ b), none)
]

-- one play that is kept entirely: it began already, and is the same, or it begins later
pub one_so_far : (a b : List StationRequest) (play : FilmPlay) → plays_of (a ++ b) ≡ play ∷ []
    → play.keep ≡ total_bytes play.plan → (plays_of a ≡ play ∷ []) ⊎ ((plays_of a ≡ []) × (plays_of b ≡ play ∷ []))
one_so_far [] b play one whole = inr (refl, one)
one_so_far (Asks asked outcome ∷ a) b play one whole = elim (either asked outcome) [
  | BeginsNone is ↦ rw (is a) (one_so_far a b play (cc (is (a ++ b), one)) whole)
  | BeginsOne prepared start is ↦
      let same : play_by prepared start (a ++ b) ≡ play = cc (is (a ++ b), one) in
      let none : plays_of (a ++ b) ≡ [] = cc (is (a ++ b), one) in
      let kept : kept_in a (total_bytes prepared.plan) ≡ kept_in (a ++ b) (total_bytes prepared.plan) =
      grind (arith, kept_some a, kept_append a b (total_bytes prepared.plan)) in
      inl (rw (is a, none_before a b none, kept) (ap (λ p. p ∷ []) same))
]

-- ---- a play begins after the slot that was received, with a plan of segments

pub record IsLatePlay (heard : ℕ) (play : FilmPlay) : Type 0 where
  pub late : heard < play.start
  pub plan : IsPlan play.plan

abbrev IsLate : ℕ → StationRequest → Type 0
IsLate heard (Asks asked outcome) = (askings : List StationRequest) (play : FilmPlay) (rest : List FilmPlay)
    → plays_begun asked outcome askings ≡ play ∷ rest → IsLatePlay heard play

abbrev pub AreLate : ℕ → List StationRequest → Type 0
AreLate heard = Each (IsLate heard)

pub late_play : (heard : ℕ) (a : List StationRequest) (play : FilmPlay) (rest : List FilmPlay) → AreLate heard a
    → plays_of a ≡ play ∷ rest → IsLatePlay heard play
late_play heard [] play rest are is = cc
late_play heard (Asks asked outcome ∷ a) play rest are is = elim (either asked outcome) [
  | BeginsNone none ↦ late_play heard a play rest are.1 (cc (none a, is))
  | BeginsOne prepared start one ↦ grind arith
]

-- by what was asked
turn_booked : {old new : SessionState} {asked : Awaited} {outcome : Outcome} → TurnsAs old asked outcome new
    → IsTold (Asks asked outcome) × IsLate old.heard (Asks asked outcome)
turn_booked given = (grind arith, grind arith)

-- the slot that was received last stays or rises, and plays begin after it, as the entries record
record AreBooked (old : SessionState) (made : List StationRequest) (new : SessionState) : Type 0 where
  later : old.heard ≤ new.heard
  late : AreLate old.heard made
  told : AreTold made

booked_kept : IsKeptStanding (λ old piece new. AreBooked old piece.askings new)
booked_kept = record {
  none = λ s. record { later = omega arith; late = tt; told = tt };
  joins = grind (arith, each_append, each_weaker);
  request = λ old new request stands.
      let booked = turn_booked (request_turns request) in
      let same = ap (λ (part : LastingPart). part.heard) (taken_keeps request.replied) in
      record { later = omega (arith, same); late = (booked.1, tt); told = (booked.0, tt) };
  event = search (arith, comes_heard, comes_none, comes_told);
}

pub course_late : (old new : Stage) (rounds : List Round) (follows : IsCourseBetween old rounds new)
    → Stands old.session → AreLate old.session.heard (askings_of old rounds new follows)
course_late old new rounds follows stands = (course_kept
    (kept_from_standing booked_kept) old new rounds follows stands).1.late

-- the plays of a course are those that its entries record
pub plays_booked : (course : Course)
    → map booking_of (course_plays course) ≡ booked_plays (entries_in (rounds_outcomes course.rounds))
plays_booked course =
    let first : Stage = begin_of course in cc (
      plays_told (askings_of first course.rounds course.last course.follows) (all_kept booked_kept course).told,
      course_outcomes first course.last course.rounds course.follows,
    )
