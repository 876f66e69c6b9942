-- What was sent where a send failed is a prefix of what a longer course sends.
use Rattle.std.proofs.lemmas.Grind.{common_steps}
use Rattle.std.proofs.Common.{◌≡◌, ℕ, ◌+◌, ◌++◌, List, ◌∷◌, length, drop, arith, refl, sym, ap, ◌∙◌, [], inl, inr}
use Rattle.std.proofs.lemmas.List.{append_assoc, append-nil, length-append, take_at}
use Rattle.std.proofs.Math.Seq.{take-append-add}
use Rattle.connection_laws.proofs.Terms.{HeardSlot, Halted, PlacedEntry, after_halt, SessionState, awaited_answer}
use Rattle.connection_laws.proofs.Terms.{IsPrefixOf, Round, Runs, round_bytes, takings_bytes, Answered, Entered}
use Rattle.connection_laws.proofs.Terms.{Outcome, Stage, ElementStep, TakesAll, Unasked, after_reply, parts_bytes}
use Rattle.connection_laws.proofs.Terms.{reply_parts, slot_parts, stage, Course, rounds_bytes}
use Rattle.conn.proofs.CourseSteps.{takings_bytes-append}
use Rattle.admission.specs.declared.entries.Command.TheVariants.{Halt as HaltCommand}
use Rattle.session.specs.SlotSteps.{due_bytes}
use Rattle.conn.specs.InputSteps.{IsFinished}
use Rattle.connection_laws.specs.Failures.{IsCutShort}
use Rattle.connection_laws.proofs.CourseSteps.{Stands, course_stands, first_stands, AsksDone, slot_asks}
use Rattle.connection_laws.proofs.CourseInduction.{follows_more, begin_of}
use Rattle.connection_laws.proofs.StationAnswers.{slot_to}
use Rattle.connection_laws.proofs.Lists.{joins_parts}
use Rattle.connection_laws.proofs.laws.law_failed_send_leaves_prefix.Goals as goal

-- ---- prefixes
front_of : (xs ys : List ℕ) → IsPrefixOf xs (xs ++ ys)
front_of xs ys = (length xs, (omega (arith, length-append xs ys), sym (take_at xs ys (length xs) refl)))

front_after : (xs front ys : List ℕ) → IsPrefixOf front ys → IsPrefixOf (xs ++ front) (xs ++ ys)
front_after xs front ys is = grind (arith, length-append xs ys, take-append-add xs ys is.0)

-- ---- one event more
cut_short : (course : Course) (round : Round) (new : Stage) (sent : List ℕ) → Runs course.last round new
    → IsPrefixOf sent (round_bytes round)
    → IsCutShort course round.event round.takings (rounds_bytes course.rounds ++ sent)
cut_short course round new sent runs front =
    let longer : Course = record course {
      rounds = course.rounds ++ round ∷ [];
      last = new;
      follows = follows_more (begin_of course) course.rounds course.follows runs;
    } in
    let all : rounds_bytes longer.rounds ≡ rounds_bytes course.rounds ++ round_bytes round =
    joins_parts rounds_bytes (record { one = round_bytes; none = refl; more = λ x xs. refl }) course.rounds (round ∷ [])
    ∙ ap (λ bs. rounds_bytes course.rounds ++ bs) (append-nil (round_bytes round)) in
    record {
      longer = longer;
      films = refl;
      settings = refl;
      words = refl;
      round = round;
      event_is = refl;
      takings_are = refl;
      rounds = refl;
      begun = front_of (rounds_bytes course.rounds) sent;
      front = rw all (front_after (rounds_bytes course.rounds) sent (round_bytes round) front);
    }

-- ---- a slot
-- a play that is done can be halted
record CanFinish (s : SessionState) : Type 0 where
  halt : Outcome
  new : SessionState
  finished : IsFinished (awaited_answer s) s halt new

can_finish : {s : SessionState} → AsksDone s → CanFinish s
can_finish {s} (inl rest) = record { halt = Unasked; new = s; finished = rw rest refl }
can_finish {s} (inr done) =
    let placed : PlacedEntry =
    record { place = 0; entry = record { maker = 0; command = HaltCommand 0 done.keep; answer = Halted } } in
    record {
      halt = Entered placed;
      new = after_halt s 0;
      finished = rw done.asks (record { number = 0; command = refl; answer = refl; halts = refl });
    }

takes_more : {new : Stage} (old mid : Stage) (takings : List ElementStep) (taking : ElementStep)
    → TakesAll old takings mid → TakesAll mid (taking ∷ []) new → TakesAll old (takings ++ taking ∷ []) new
takes_more {new} old mid [] taking takes more = rw (← takes) more
takes_more {new} old mid (first ∷ takings) taking takes more =
    (takes.0, (takes.1.0, takes_more {new = new} takes.0 mid takings taking takes.1.1 more))

pub returns : goal.returns
returns c = record {
  slot = λ course slot front new failed.
      let old = course.last in
      let stands : Stands old.session =
      course_stands (begin_of course) old course.rounds course.follows
      (first_stands course.films course.settings course.words) in
      let can = can_finish (slot_asks (slot_to old.session slot) stands.rest) in
      let round : Round = record {
        event = HeardSlot slot;
        due = slot_parts old.session slot;
        halt = can.halt;
        takings = [];
      } in
      let opened : Stage = stage can.new old.input in
      let runs : Runs old round opened = grind arith in
      let bytes : round_bytes round ≡ due_bytes old.session.waits old.session.state old.session.text slot =
      search (arith, append-nil) in
      cut_short course round opened front runs (rw bytes failed.front_is);
  reply = λ course round message outcome front new ends.
      let failed = ends.fails in
      let answered = failed.answered in
      let parts = reply_parts answered in
      let last : Stage = stage (after_reply answered) (drop (length message) ends.mid.input) in
      let taking = Answered message outcome parts in
      let more : TakesAll ends.mid (taking ∷ []) last = grind arith in
      let longer : Round = record round { takings = round.takings ++ taking ∷ [] } in
      let runs : Runs course.last longer last = search takes_more in
      let text : takings_bytes (taking ∷ []) ≡ answered.text = grind (arith, common_steps) in
      let bytes : round_bytes longer ≡ round_bytes round ++ answered.text =
      search (
        takings_bytes-append round.takings (taking ∷ []),
        append_assoc (parts_bytes round.due) (takings_bytes round.takings) answered.text,
      ) in
      cut_short course longer last (round_bytes round ++ front) runs
      (rw bytes (front_after (round_bytes round) front answered.text failed.front_is));
}
