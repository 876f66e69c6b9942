-- Lemmas on the course of a connection, one doing after another.
use Rattle.std.proofs.lemmas.Grind.{common_steps}
use Rattle.std.proofs.Common.{◌≡◌, ℕ, ◌+◌, ◌<◌, ◌^◌, ◌&&◌, Bool, true, false, if◌then◌else◌, List, [], ◌∷◌, ◌++◌}
use Rattle.std.proofs.Common.{length, take, drop, Option, Some, None, Err, refl, ap, sym, ◌∙◌, subst, inl, inr, arith}
use Rattle.std.proofs.lemmas.List.{append-nil, append_assoc, map-append, length-append, length-take-le}
use Rattle.interleave.specs.declared.demux.TheConstants.{MAX_WAITING_BYTES}
use Rattle.interleave.specs.Elements.{IsFirst}
use Rattle.interleave.specs.declared.elements.DemuxFault.{DemuxFault}
use Rattle.vod_base.specs.Links.{IoEvent, IsSentPrefix, Sent, HeardBytes, HeardSlot, sends, told_more}
use Rattle.vod_base.proofs.HistoryLemmas.{told_more-append, told_more-nil}
use Rattle.vod_base.specs.declared.links.Heard.{Heard}
use Rattle.vod_base.specs.declared.links.Heard.TheVariants.{Bytes, Slot, End}
use Rattle.station.specs.Seats.{SeatState}
use Rattle.station.proofs.SameSeats.{seat_none, seat_on}
use Rattle.conn.specs.declared.reports.ConnEnd.{ConnEnd}
use Rattle.conn.specs.declared.reports.ConnEnd.TheVariants.{LinkFault, TooMuchInput}
use Rattle.session.specs.SlotSteps.{IsTold, can_reply, due_bytes, is_sending, is_taken}
use Rattle.session.specs.SessionStates.{SessionState}
use Rattle.conn.specs.declared.connections.Connection.{Connection}
use Rattle.conn.specs.Events.{HasTakenEvent, IsEndOf, IsProcessed, IsWaiting}
use Rattle.conn.specs.Journals.{AgreeWith, terms_of}
use Rattle.conn.proofs.Journals.{agree_longer, agree_then, same_journal, terms_same}
use Rattle.conn.specs.InputSteps.{Outcome, Unasked, SentPart, Film, Text, Stage, ElementStep, Passed, Answered, IsNext}
use Rattle.conn.specs.InputSteps.{IsPassed, Takes, TakesAll, after_reply, entry_in, parts_bytes, reply_parts}
use Rattle.conn.specs.InputSteps.{slot_parts, stage}
use Rattle.conn.specs.EventSteps.{Comes, Overfull, AtElement, InSlot, InReply, IsStopped, Round, Runs, RunsAll}
use Rattle.conn.specs.EventSteps.{ending_events, entries_in, round_bytes, round_outcomes, rounds_doings}
use Rattle.conn.specs.EventSteps.{rounds_outcomes, taking_bytes, taking_outcomes, takings_bytes, takings_outcomes}
use Rattle.conn.specs.Observations.{AreNoted, HasAsked, HasFailedSend, HasHandledEvent, HasCourse, HasEnded}
use Rattle.conn.specs.Observations.{HasLostReply, HasRound, HasRun, HasTaken, HasProcessedInput, IsSent, Observed}
use Rattle.conn.specs.Observations.{observed}
use Rattle.conn.proofs.EventPremises.{RequestInFront}
use Rattle.conn.proofs.JoinedLists.{joined-append}

-- what the link exposes
pub sent_none : (told : Option (List IoEvent)) → IsSent told [] told
sent_none told = sym (told_more-nil told)

pub sent_on : (a : Option (List IoEvent)) (xs ys : List ℕ)
    → told_more (told_more a (sends xs)) (sends ys) ≡ told_more a (sends (xs ++ ys))
sent_on a xs ys = told_more-append a (sends xs) (sends ys) ∙ ap (told_more a) (sym (map-append Sent xs ys))

-- what the seat made
pub entries_in-append : (xs ys : List Outcome) → entries_in (xs ++ ys) ≡ entries_in xs ++ entries_in ys
entries_in-append = joined-append entry_in entries_in refl (λ x xs. refl)

pub noted_none : (seat : SeatState) → AreNoted seat seat []
noted_none seat = record { mine = sym (append-nil seat.mine); seat = seat_none seat; agree = omega arith }

pub noted_unasked : (seat : SeatState) → AreNoted seat seat (Unasked ∷ [])
noted_unasked seat = record { mine = sym (append-nil seat.mine); seat = seat_none seat; agree = omega arith }

pub noted_on : {a b c : SeatState} {xs ys : List Outcome} → AreNoted a b xs → AreNoted b c ys → AreNoted a c (xs ++ ys)
noted_on {a} {b} {c} {xs} {ys} first second = record {
  mine = grind (arith, append_assoc a.mine (entries_in xs) (entries_in ys), entries_in-append xs ys);
  seat = seat_on a b c first.seat second.seat;
  agree = agree_then
      (record (same_journal (terms_of a) b.seen (length a.seen) (length a.seen) (omega arith)) {
        longer = c.seen;
        prefix = second.seat.longer;
      }) xs ys first.agree
      (subst (λ terms. AgreeWith terms c.seen (length b.seen) ys) (terms_same a b first.seat) second.agree);
}

-- what is noted of a connection agrees with its seat's journal from the beginning
pub seen_agrees : {old new : SeatState} {outcomes : List Outcome} → AreNoted old new outcomes
    → AgreeWith (terms_of new) new.seen 0 outcomes
seen_agrees {old} {new} {outcomes} noted = search (
  terms_same old new noted.seat,
  same_journal (terms_of old) new.seen 0 (length old.seen) (omega arith),
  agree_longer,
)

-- elements
takes_on : (a b c : Stage) (xs ys : List ElementStep) → TakesAll a xs b → TakesAll b ys c → TakesAll a (xs ++ ys) c
takes_on a b c [] ys first second = rw first at second
takes_on a b c (x ∷ xs) ys first second = (first.0, (first.1.0, takes_on first.0 b c xs ys first.1.1 second))

pub takings_bytes-append : (xs ys : List ElementStep) → takings_bytes (xs ++ ys) ≡ takings_bytes xs ++ takings_bytes ys
takings_bytes-append = joined-append taking_bytes takings_bytes refl (λ x xs. refl)

takings_outcomes-append : (xs ys : List ElementStep)
    → takings_outcomes (xs ++ ys) ≡ takings_outcomes xs ++ takings_outcomes ys
takings_outcomes-append = joined-append taking_outcomes takings_outcomes refl (λ x xs. refl)

pub taken_none : (a : Observed) → HasTaken a a
taken_none a = record { takings = []; takes = refl; sent = sent_none a.told; noted = noted_none a.seat }

pub taken_one : (a b : Observed) (taking : ElementStep) → Takes a.stage taking b.stage
    → IsSent a.told (taking_bytes taking) b.told → AreNoted a.seat b.seat (taking_outcomes taking) → HasTaken a b
taken_one a b taking takes sent noted = record {
  takings = taking ∷ [];
  takes = (b.stage, (takes, refl));
  sent = rw append-nil sent;
  noted = rw append-nil noted;
}

pub taken_on : {a b c : Observed} → HasTaken a b → HasTaken b c → HasTaken a c
taken_on {a} {b} {c} first second = record {
  takings = first.takings ++ second.takings;
  takes = takes_on a.stage b.stage c.stage first.takings second.takings first.takes second.takes;
  sent = search (
    takings_bytes-append first.takings second.takings,
    sent_on a.told (takings_bytes first.takings) (takings_bytes second.takings),
  );
  noted = search (takings_outcomes-append, noted_on);
}

pub up_on : (result : Option ConnEnd) (a b c : Observed) → HasTaken a b → HasProcessedInput result b c →
    HasProcessedInput result a c
up_on None a b c first up = (taken_on first up.0, up.1)
up_on (Some end) a b c first up =
    elim up [
      | inl lost ↦ inl (lost.0, record { mid = lost.1.mid; taken = taken_on first lost.1.taken; lost = lost.1.lost })
      | inr stopped ↦ inr (taken_on first stopped.0, stopped.1)
    ]

-- an event came: what was sent in its slot, and what was then answered is noted
pub record EventSeen (event : IoEvent) (a : Observed) : Type 0 where
  pub opened : Observed
  pub due : List SentPart
  pub halt : Outcome
  pub comes : Comes a.stage event due halt opened.stage
  pub sent : IsSent a.told (parts_bytes due) opened.told
  pub noted : AreNoted a.seat opened.seat (halt ∷ [])

-- with what was processed after it
record RoundSeen (event : IoEvent) (a c : Observed) : Type 0 where
  round : Round
  event_is : round.event ≡ event
  runs : Runs a.stage round c.stage
  sent : IsSent a.told (round_bytes round) c.told
  noted : AreNoted a.seat c.seat (round_outcomes round)

round_seen : {event : IoEvent} {a c : Observed} (seen : EventSeen event a) → HasTaken seen.opened c
    → RoundSeen event a c
round_seen {event} {a} seen taken = record {
  round = record { event = event; due = seen.due; halt = seen.halt; takings = taken.takings };
  event_is = refl;
  runs = record { opened = seen.opened.stage; comes = seen.comes; takes = taken.takes };
  sent = grind (arith, common_steps);
  noted = noted_on seen.noted taken.noted;
}

pub event_up : {event : IoEvent} {a : Observed} (seen : EventSeen event a) (result : Option ConnEnd) (c : Observed)
    → HasProcessedInput result seen.opened c → HasHandledEvent result event a c
event_up seen None c up =
    let its = round_seen seen up.0 in search (its, up.1)
event_up {a = a} seen (Some end) c up =
    λ count.
    elim up [
      | inl lost ↦
          let fails = lost.1 in
          let its = round_seen seen fails.taken in
          record {
            ending = InReply its.round fails.message fails.outcome fails.front;
            event_is = ap (λ e. e ∷ []) its.event_is;
            ends = (lost.0, record { mid = fails.mid.stage; runs = its.runs; fails = fails.fails });
            sent = search (arith, sent_on);
            noted = noted_on its.noted fails.noted;
          }
      | inr stopped ↦
          let its = round_seen seen stopped.0 in
          record {
            ending = AtElement its.round;
            event_is = ap (λ e. e ∷ []) its.event_is;
            ends = (its.runs, stopped.1);
            sent = its.sent;
            noted = its.noted;
          }
    ]

pub slot_broken : (slot : ℕ) (a c : Observed) → HasFailedSend a c slot → HasHandledEvent (Some LinkFault) (HeardSlot
    slot) a c
slot_broken slot a c broken =
    λ count. record {
      ending = InSlot slot broken.front;
      event_is = refl;
      ends = (refl, broken.fails);
      sent = broken.sent;
      noted = subst (λ s. AreNoted a.seat s []) (sym broken.noted) (noted_none a.seat);
    }

pub overfull : (bytes : List ℕ) (a c : Observed) → MAX_WAITING_BYTES < length a.stage.input + length bytes
    → a.stage.session.waits ≡ true → c ≡ a → HasHandledEvent (Some TooMuchInput) (HeardBytes bytes) a c
overfull bytes a c many waits is =
    rw is (λ count. record {
      ending = Overfull bytes;
      event_is = refl;
      ends = (refl, many, waits, refl);
      sent = sent_none a.told;
      noted = noted_none a.seat;
    })

-- the connection goes on
pub goes_on : (heard : Heard) (waiting : ℕ) (c : Connection) → HasTakenEvent heard waiting None c →
    (c.session.torn ≡ false) × (c.session.lost ≡ false) × IsWaiting c
goes_on End waiting c has = cc
goes_on (Slot slot) waiting c has = (has.0, has.1, has.2)
goes_on (Bytes n) waiting c has =
    elim has [
      | inl full ↦ cc
      | inr up ↦ (up.1.0, up.1.1, up.1.2)
    ]

-- events, one after another
rounds_doings-append : (xs ys : List Round) → rounds_doings (xs ++ ys) ≡ rounds_doings xs ++ rounds_doings ys
rounds_doings-append = joined-append (λ x. x.event ∷ sends (round_bytes x)) rounds_doings refl (λ x xs. refl)

rounds_outcomes-append : (xs ys : List Round) → rounds_outcomes (xs ++ ys) ≡ rounds_outcomes xs ++ rounds_outcomes ys
rounds_outcomes-append = joined-append round_outcomes rounds_outcomes refl (λ x xs. refl)

pub run_none : (a : Observed) → HasRun 0 a a
run_none a = grind (arith, common_steps)

-- after events another one was received: the link exposes it, and nothing else was done
pub record EventReceived (a : Observed) : Type 0 where
  pub count : ℕ
  pub before : Observed
  pub run : HasRun count a before
  pub event : IoEvent
  pub heard : Observed
  pub stage_is : heard.stage ≡ before.stage
  pub seat_is : heard.seat ≡ before.seat
  pub told_is : heard.told ≡ told_more before.told (event ∷ [])

pub run_on : {a c : Observed} (r : EventReceived a) → HasRound r.event r.heard c → HasRun (r.count + 1) a c
run_on {a} {c} r next =
    let run = r.run in
    let round = next.round in
    let doings : List IoEvent = round.event ∷ sends (round_bytes round) in
    let last : rounds_doings (round ∷ []) ≡ doings = append-nil doings in
    let outcomes : rounds_outcomes (round ∷ []) ≡ round_outcomes round = append-nil (round_outcomes round) in record {
      rounds = run.rounds ++ round ∷ [];
      count_is = length-append run.rounds (round ∷ []) ∙ ap (λ n. n + 1) run.count_is;
      runs = runs_on a.stage run.rounds run.runs;
      told = grind (arith, told_more-append, rounds_doings-append);
      noted = rw (rounds_outcomes-append, outcomes) (noted_on run.noted (rw r.seat_is at next.noted));
    }
  where
    runs_on : (old : Stage) (rounds : List Round) → RunsAll old rounds r.before.stage
        → RunsAll old (rounds ++ next.round ∷ []) c.stage
    runs_on old [] runs = search arith
    runs_on old (first ∷ rounds) runs = (runs.0, (runs.1.0, runs.1.1, runs_on runs.0 rounds runs.1.2))

-- and it was the last
pub run_end : {end : ConnEnd} {a c : Observed} (r : EventReceived a) → r.count < 2 ^ 40
    → HasEnded (r.event ∷ []) end r.count r.heard c → HasCourse end a c
run_end {end} {a} {c} r more last =
    let b = r.before in
    let run = r.run in
    let ending = last.ending in
    let one : length (ending_events ending) ≡ 1 = ap (λ (es : List IoEvent). length es) last.event_is in record {
      rounds = run.rounds;
      mid = b.stage;
      runs = run.runs;
      ending = ending;
      few = omega (arith, run.count_is, one, more);
      ends = grind arith;
      told = grind (arith, common_steps);
      noted = noted_on run.noted (rw r.seat_is at last.noted);
    }

-- a first element that is too long: what was processed before it stands, and the connection ends
pub taken_fault : {a : Observed} (fault : DemuxFault) (end : ConnEnd) → a.stage.session.torn ≡ false
    → IsFirst a.stage.input (Err fault) → IsEndOf fault end → HasTaken a a × IsStopped end a.stage
taken_fault fault end given given' given'' = grind (arith, common_steps)

-- what a slot brings is what is sent in it
due_is : (waits between : Bool) (one plain after text : List ℕ) →
    parts_bytes (if waits then Film one ∷ (if between then Text text ∷ Film after ∷ [] else []) else Film plain ∷ [])
    ≡ (if waits then one ++ (if between then text ++ after else []) else plain)
due_is waits between one plain after text = grind (arith, common_steps)

told_if : {new : Option (List IoEvent)} (sends_it : Bool) (parts : List SentPart) (old : Option (List IoEvent))
    → IsTold sends_it old (parts_bytes parts) new → IsSent old (parts_bytes (if sends_it then parts else [])) new
told_if sends_it parts old given = grind (arith, common_steps)

pub slot_sent : (session : SessionState) (slot : ℕ) (old new : Option (List IoEvent)) →
    IsTold (is_taken session slot && is_sending session.state) old
    (due_bytes session.waits session.state session.text slot) new →
    IsSent old (parts_bytes (slot_parts session slot)) new
slot_sent session slot old new told = search (told_if, due_is)

pub reply_sent : (session : SessionState) (old new : Option (List IoEvent))
    → IsTold (can_reply session) old session.text new → IsSent old (parts_bytes (reply_parts session)) new
reply_sent session old new told = grind (arith, common_steps)

-- a connection's input alone changes
pub input_is : {old new : List ℕ} (connection : Connection) (told : Option (List IoEvent)) (seat : SeatState) → old
    ≡ new
    → observed (record connection { input = old }) told seat ≡ observed (record connection { input = new }) told seat
input_is connection told seat same = ap (λ (i : List ℕ). observed (record connection { input = i }) told seat) same

-- the first element was passed over
pub taken_passed : {a b : Observed} (n : ℕ) → IsPassed a.stage.input n → a.stage.session.torn ≡ false →
    b ≡ record a { stage = stage a.stage.session (drop n a.stage.input) } → HasTaken a b
taken_passed {a} n passed torn is = rw is
    (taken_one a (record a { stage = stage a.stage.session (drop n a.stage.input) }) (Passed n)
    (passed, torn, refl) (sent_none a.told) (noted_none a.seat))

-- the first request, of so many bytes
next_is : (a : Stage) (n : ℕ) → RequestInFront a n → IsNext a (take n a.input)
next_is a n in_front = grind (arith, common_steps)

-- the first request was answered, and its reply is next
pub record RequestAnswered (a b : Observed) : Type 0 where
  pub asked : SessionState
  pub n : ℕ
  pub in_front : RequestInFront a.stage n
  pub heard : HasAsked a.stage.session (take n a.stage.input) asked a.seat b.seat

pub taken_reply : {a b : Observed} (x : RequestAnswered a b) → b.stage ≡ stage (after_reply x.asked)
    (drop x.n a.stage.input) → IsTold (can_reply x.asked) a.told x.asked.text b.told → HasTaken a b
taken_reply {a} {b} x is told =
    let message : List ℕ = take n a.stage.input in
    let long : length message ≡ n = length-take-le n a.stage.input in_front.first.2 in
    taken_one a b (Answered message heard.outcome (reply_parts asked))
    (search (arith, next_is a.stage n in_front, next_is)) (reply_sent asked a.told b.told told) heard.noted
  where
    open x use {asked, n, in_front, heard}

pub lost_reply : {a b : Observed} (x : RequestAnswered a b) → can_reply x.asked ≡ true
    → b.stage ≡ stage (record x.asked { lost = true }) (drop x.n a.stage.input)
    → IsSentPrefix a.told b.told x.asked.text → HasLostReply a b
lost_reply {a} x can is told = search (arith, length-take-le n a.stage.input in_front.first.2, taken_none a)
  where
    open x use {asked, n, in_front, heard}

-- where a connection stands, by its session and what waits
pub stage_is : {session is : SessionState} {input waits : List ℕ} → session ≡ is → input ≡ waits
    → stage session input ≡ stage is waits
stage_is {is} {input} session_is input_is = ap (λ s. stage s input) session_is ∙ ap (stage is) input_is

-- an element that is too long ends a connection
pub fault_ends : (fault : DemuxFault) (end : ConnEnd) (c : Connection) → IsEndOf fault end
    → IsFirst c.input (Err fault) → IsProcessed (Some end) c
fault_ends fault end c given given' = grind arith
