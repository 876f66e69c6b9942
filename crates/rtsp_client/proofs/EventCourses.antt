-- Events, one after another, up to the answer.
use Rattle.std.proofs.Common.{◌≡◌, ℕ, ◌+◌, ◌^◌, ◌<◌, ◌⊎◌, List, [], ◌∷◌, ◌++◌, take, Option, Some, None, Ok, IfSome}
use Rattle.std.specs.Prelude.{if◌then◌else◌, is_some, option_map, unwrap_or}
use Rattle.std.proofs.Common.{refl, sym, ap, subst, ◌∙◌, append_assoc, inl, inr}
use Rattle.std.proofs.lemmas.List.{append-nil, length-append}
use Rattle.std.proofs.lemmas.List.Concat.{flat_map-append}
use Rattle.vod_base.specs.Links.{IoEvent, HeardBytes, HeardEnd, HeardSlot, sends, told_more}
use Rattle.vod_base.proofs.HistoryLemmas.{told_more-append, told_more-nil}
use Rattle.interleave.specs.Elements.{IsFirst}
use Rattle.interleave.specs.declared.elements.Step.TheVariants.{More}
use Rattle.rtsp_client.specs.declared.clients.Client.{Client}
use Rattle.rtsp_client.specs.declared.frames.RtpSource.{RtpSource}
use Rattle.rtsp_client.specs.declared.watch_request.Wish.{Wish}
use Rattle.rtsp_client.specs.declared.watch_request.Watched.{Watched}
use Rattle.rtsp_client.specs.declared.watch_request.WatchEnd.{WatchEnd}
use Rattle.rtsp_client.specs.declared.watch_request.WatchEnd.TheVariants.{Fault, LinkFault, NoMemory}
use Rattle.rtsp_client.specs.declared.watch_request.WatchFault.TheVariants.{EndedEarly, TurnsSpent}
use Rattle.rtsp_client.specs.Requests.{setup_text}
use Rattle.rtsp_client.specs.ClientHistory.{History, Slot}
use Rattle.rtsp_client.specs.Answers.{history_after, cut_bytes, events_of_elements, payload_of, payloads_of}
use Rattle.rtsp_client.specs.Answers.{requests_after}
use Rattle.rtsp_client.specs.WatchCourses.{Ends, HasWatched, Round, Runs, RunsAll, WatchStage}
use Rattle.rtsp_client.specs.WatchCourses.{events_of_rounds, rounds_doings, stage}
use Rattle.rtsp_client.specs.HistoryInvariant.{HistoryInvariant, StateInvariant}
use Rattle.rtsp_client.specs.States.{State, after_slot, new_state}
use Rattle.rtsp_client.specs.ClientSteps.{HasEnded, HasRound, HasRun, HasStopped, HasTaken, IsUnsent}
use Rattle.rtsp_client.specs.ClientSteps.{Observed, observed, observed_more}
use Rattle.rtsp_client.proofs.HistorySteps.{keeps-new, replies-same, slot-play}
use Rattle.rtsp_client.proofs.MeterReadings.{keeps-slot}
use Rattle.rtsp_client.proofs.ObservedSteps.{ObservedChange, Watcher, observed-none}
use Rattle.rtsp_client.proofs.ElementSteps.{after-on}

-- ---- one event

pub round-bytes : {w : Watcher} {rest bytes : List ℕ} {e : ObservedChange}
    → HasTaken w.wish w.history (rest ++ bytes) w.client e.before e.after → IsFirst w.client.input (Ok More)
    → HasRound w.wish w.history rest (HeardBytes bytes) w.client e.before e.after
round-bytes taken idle = record {
  moments = events_of_elements taken.elements;
  runs = record { brings = (taken.elements, (taken.cut, refl)); good = taken.passed.good; history_is = refl };
  keeps = taken.passed.keeps;
  idle = idle;
  sight_is = taken.passed.sight_is;
}

timed-from : (o : Option RtpSource) → IfSome o (λ (s : RtpSource). 0 < s.picture_time) → (s : RtpSource) → o ≡ Some s
    → 0 < s.picture_time
timed-from o timed s is =
    let P : Option RtpSource → Type 0 = λ x. IfSome x (λ (s : RtpSource). 0 < s.picture_time) in
    let Q : IfSome (Some s) (λ (s : RtpSource). 0 < s.picture_time) = subst P is timed in Q

-- a client that waits, with so many bytes cut
pub record IsWaiting (w : Watcher) : Type 0 where
  pub cut : ℕ
  pub keeps : HistoryInvariant w.wish w.history w.client
  pub slot_lasts : 0 < w.wish.slot_units
  pub picture_lasts : IfSome w.client.watching.source (λ (source : RtpSource). 0 < source.picture_time)
  pub cut_is : cut ≡ cut_bytes w.client.input
  pub idle : IsFirst w.client.input (Ok More)

pub round-slot : {w : Watcher} {slot : ℕ} {state : State} {s : Observed} (waits : IsWaiting w)
    → state ≡ after_slot w.wish w.client.watching slot waits.cut
    → HasRound w.wish w.history w.client.input (HeardSlot slot) (record w.client { watching = state }) s s
round-slot {w} {slot} {state} {s} waits state_is =
    let c = w.client in
    let cut = waits.cut in
    record {
      moments = Slot slot (cut_bytes c.input) ∷ [];
      runs = record { brings = (refl, refl); good = (tt, tt); history_is = refl };
      keeps = record {
        replies_are = replies-same c state (ap (λ (s : State). s.play) state_is ∙ slot-play w.wish c.watching slot cut)
            ∙ waits.keeps.replies_are;
        session_is = waits.keeps.session_is;
        state = subst (StateInvariant w.wish (Slot slot (cut_bytes c.input) ∷ w.history))
            (sym (state_is ∙ ap (after_slot w.wish c.watching slot) waits.cut_is))
            (keeps-slot slot (cut_bytes c.input) waits.keeps.state (record {
              slot_lasts = waits.slot_lasts;
              picture_lasts = timed-from c.watching.source waits.picture_lasts;
            }));
      };
      idle = waits.idle;
      sight_is = observed-none s;
    }

pub ended-bytes : {wish : Wish} {old : WatchStage} {bytes : List ℕ} {end : WatchEnd} {e : ObservedChange}
    → HasStopped wish old.history (old.rest ++ bytes) end e.before e.after
    → HasEnded wish old.history old.rest (HeardBytes bytes) end e.before e.after
ended-bytes {bytes = bytes} stopped = record {
  sent = stopped.sent;
  out = stopped.out;
  ends = λ count few. inr (inr (bytes, (stopped.sent, (stopped.stops, refl, few))));
  sight_is = stopped.sight_is;
}

pub ended-peer : {w : Watcher} {s : Observed} → HistoryInvariant w.wish w.history w.client
    → HasEnded w.wish w.history w.client.input HeardEnd (Fault (EndedEarly w.client.watching.watched.units)) s s
ended-peer {s = s} k = record {
  sent = [];
  out = [];
  ends = λ count few. inr (inl
      (ap (λ (w : Watched). Fault (EndedEarly w.units)) k.state.watched_is, few, refl, refl));
  sight_is = observed-none s;
}

-- ---- all events

-- a round that was processed last, and no complete element waits
record LastRound (mid : WatchStage) : Type 0 where
  round : Round
  new : WatchStage
  runs : Runs mid round new
  idle : IsFirst new.rest (Ok More)

runs-on : {mid : WatchStage} (old : WatchStage) (rounds : List Round) → RunsAll old rounds mid → (last : LastRound mid)
    → RunsAll old (rounds ++ last.round ∷ []) last.new
runs-on old [] all last =
    let R : WatchStage → Type 0 = λ s. Runs s last.round last.new in
    (last.new, (subst R all last.runs, last.idle, refl))
runs-on old (first ∷ rounds) all last = (all.0, (all.1.0, all.1.1, runs-on all.0 rounds all.1.2 last))

pub history-later : (old mid : WatchStage) (rounds : List Round) → RunsAll old rounds mid
    → mid.history ≡ history_after old.history (events_of_rounds rounds)
history-later old mid [] all = ap (λ (s : WatchStage). s.history) all
history-later old mid (round ∷ rounds) all =
    history-later all.0 mid rounds all.1.2
    ∙ (ap (λ h. history_after h (events_of_rounds rounds)) all.1.0.history_is
    ∙ sym (after-on old.history round.moments (events_of_rounds rounds)))

doings-on : (wish : Wish) (h : History) (rounds : List Round) (round : Round)
    → rounds_doings wish h (rounds ++ round ∷ [])
    ≡ rounds_doings wish h rounds
    ++ (round.event ∷ sends (requests_after wish (history_after h (events_of_rounds rounds)) round.moments))
doings-on wish h [] round = append-nil (round.event ∷ sends (requests_after wish h round.moments))
doings-on wish h (first ∷ rounds) round =
    let front = first.event ∷ sends (requests_after wish h first.moments) in
    ap (λ d. front ++ d) (doings-on wish (history_after h first.moments) rounds round)
    ∙ (ap (λ g. front
    ++ (rounds_doings wish (history_after h first.moments) rounds
    ++ (round.event ∷ sends (requests_after wish g round.moments))))
    (sym (after-on h first.moments (events_of_rounds rounds)))
    ∙ sym (append_assoc front (rounds_doings wish (history_after h first.moments) rounds)
    (round.event ∷ sends (requests_after wish (history_after h (events_of_rounds (first ∷ rounds))) round.moments))))

moments-of-on : (rounds : List Round) (round : Round)
    → events_of_rounds (rounds ++ round ∷ []) ≡ events_of_rounds rounds ++ round.moments
moments-of-on [] round = append-nil round.moments
moments-of-on (first ∷ rounds) round =
    ap (λ m. first.moments ++ m) (moments-of-on rounds round)
    ∙ sym (append_assoc first.moments (events_of_rounds rounds) round.moments)

pub run-none : {wish : Wish} {client : Client} {s : Observed} → client.session ≡ None
    → client.watching ≡ new_state → client.input ≡ [] → HasRun wish 0 client s s
run-none {wish} {client} {s} empty new_ input = record {
  rounds = [];
  count_is = refl;
  history = [];
  runs = ap (λ i. stage [] i) input;
  keeps = record {
    replies_are = ap (λ (s : State). if is_some s.play then 2 else (if is_some client.session then 1 else 0)) new_
        ∙ ap (λ id. if is_some id then 1 else 0) empty;
    session_is = ap (λ id. unwrap_or (option_map (λ id. id.items) id) []) empty;
    state = subst (λ w. StateInvariant wish [] w) (sym new_) (keeps-new wish);
  };
  sight_is = observed-none s;
}

-- a run from SETUP's end on, and what link and output exposed before it and after it
pub record Running : Type 0 where
  pub wish : Wish
  pub count : ℕ
  pub client : Client
  pub change : ObservedChange
  pub run : HasRun wish count client change.before change.after

abbrev pub running : {wish : Wish} {count : ℕ} {client : Client} {change : ObservedChange}
    → HasRun wish count client change.before change.after → Running
running {wish} {count} {client} {change} run =
    record { wish = wish; count = count; client = client; change = change; run = run }

-- what link and output exposed when another event had been received
abbrev heard_after : Running → IoEvent → Observed
heard_after r event = observed (told_more r.change.after.told (event ∷ [])) r.change.after.out

-- one more event
pub run-on : {event : IoEvent} {new : Client} {d : ObservedChange} (r : Running) → d.before ≡ heard_after r event
    → ((h : History) → HistoryInvariant r.wish h r.client → HasRound r.wish h r.client.input event new d.before d.after)
    → HasRun r.wish (r.count + 1) new r.change.before d.after
run-on {event} {new} x heard next =
    let wish = x.wish in
    let e = x.change in
    let run = x.run in
    let round = next run.history run.keeps in
    let r : Round = record { event = event; moments = round.moments } in
    let h : run.history ≡ history_after [] (events_of_rounds run.rounds) =
    history-later (stage [] []) (stage run.history x.client.input) run.rounds run.runs in
    let told : told_more (told_more (told_more e.before.told (rounds_doings wish [] run.rounds)) (event ∷ []))
    (sends (requests_after wish run.history round.moments))
    ≡ told_more e.before.told (rounds_doings wish [] (run.rounds ++ r ∷ [])) =
    told_more-append (told_more e.before.told (rounds_doings wish [] run.rounds)) (event ∷ [])
    (sends (requests_after wish run.history round.moments))
    ∙ (told_more-append e.before.told (rounds_doings wish [] run.rounds)
    (event ∷ sends (requests_after wish run.history round.moments))
    ∙ ap (told_more e.before.told) (ap
    (λ g. rounds_doings wish [] run.rounds ++ (event ∷ sends (requests_after wish g round.moments))) h
    ∙ sym (doings-on wish [] run.rounds r))) in
    let out : told_more (told_more e.before.out (payloads_of (events_of_rounds run.rounds))) (payloads_of round.moments)
    ≡ told_more e.before.out (payloads_of (events_of_rounds (run.rounds ++ r ∷ []))) =
    told_more-append e.before.out (payloads_of (events_of_rounds run.rounds)) (payloads_of round.moments)
    ∙ ap (told_more e.before.out)
    (sym (flat_map-append payload_of (events_of_rounds run.rounds) round.moments)
    ∙ ap payloads_of (sym (moments-of-on run.rounds r))) in
    record {
      rounds = run.rounds ++ r ∷ [];
      count_is = length-append run.rounds (r ∷ []) ∙ ap (λ n. n + 1) run.count_is;
      history = history_after run.history round.moments;
      runs = runs-on (stage [] []) run.rounds run.runs (record {
        round = r;
        new = _;
        runs = round.runs;
        idle = round.idle;
      });
      keeps = round.keeps;
      sight_is = round.sight_is
          ∙ (ap (λ x. observed_more x (requests_after wish run.history round.moments) (payloads_of round.moments))
          (heard ∙ ap (λ (y : Observed). observed (told_more y.told (event ∷ [])) y.out) run.sight_is)
          ∙ (ap (λ x. observed x
          (told_more (told_more e.before.out (payloads_of (events_of_rounds run.rounds)))
          (payloads_of round.moments))) told
          ∙ ap (λ o. observed (told_more e.before.told (rounds_doings wish [] (run.rounds ++ r ∷ []))) o) out));
    }

-- a run that SETUP began, before which link and output had exposed `old`
pub record StartedRun : Type 0 where
  pub old : Observed
  pub all : Running
  pub begun : all.change.before ≡ observed (told_more old.told (sends (setup_text all.wish))) old.out

-- what ends it: the answer, and what link and output expose last
pub record LastEvent (r : Running) (end : WatchEnd) (new : Observed) : Type 0 where
  pub doings : List IoEvent
  pub out : List ℕ
  pub ends : Ends r.wish (stage r.run.history r.client.input) r.count end doings out
  pub told_is : new.told ≡ told_more r.change.after.told doings
  pub out_is : new.out ≡ told_more r.change.after.out out

course-of : {end : WatchEnd} {new : Observed} (x : StartedRun) → LastEvent x.all end new
    → HasWatched x.all.wish end x.old.told new.told x.old.out new.out
course-of {end} x last =
    let r = x.all in
    let run = r.run in
    let d = rounds_doings r.wish [] run.rounds in
    let setup = sends (setup_text r.wish) in
    let payloads = payloads_of (events_of_rounds run.rounds) in
    inl (record {
      rounds = run.rounds;
      mid = stage run.history r.client.input;
      runs = run.runs;
      last_doings = last.doings;
      last_out = last.out;
      ends = subst (λ n. Ends r.wish (stage run.history r.client.input) n end last.doings last.out) (sym run.count_is)
          last.ends;
      told = last.told_is
          ∙ (ap (λ (x : Observed). told_more x.told last.doings) run.sight_is
          ∙ (ap (λ (x : Observed). told_more (told_more x.told d) last.doings) x.begun
          ∙ (told_more-append (told_more x.old.told setup) d last.doings
          ∙ told_more-append x.old.told setup (d ++ last.doings))));
      out = last.out_is
          ∙ (ap (λ (x : Observed). told_more x.out last.out) run.sight_is
          ∙ (ap (λ (x : Observed). told_more (told_more x.out payloads) last.out) x.begun
          ∙ told_more-append x.old.out payloads last.out));
    })

-- a further event was received
pub record HeardNext (r : Running) (event : IoEvent) (before : Observed) : Type 0 where
  pub few : r.count < 2 ^ 40
  pub heard : before ≡ heard_after r event

-- an event gave the answer
pub watched-end : {event : IoEvent} {end : WatchEnd} {d : ObservedChange} (x : StartedRun)
    → HeardNext x.all event d.before
    → ((h : History) → HistoryInvariant x.all.wish h x.all.client
    → HasEnded x.all.wish h x.all.client.input event end d.before d.after)
    → HasWatched x.all.wish end x.old.told d.after.told x.old.out d.after.out
watched-end {event} {d = d} x next ends =
    let r = x.all in
    let ended = ends r.run.history r.run.keeps in
    course-of {new = d.after} x (record {
      doings = event ∷ sends ended.sent;
      out = ended.out;
      ends = ended.ends r.count next.few;
      told_is = ap (λ (x : Observed). x.told) ended.sight_is
          ∙ (ap (λ (x : Observed). told_more x.told (sends ended.sent)) next.heard
          ∙ told_more-append r.change.after.told (event ∷ []) (sends ended.sent));
      out_is = ap (λ (x : Observed). x.out) ended.sight_is
          ∙ ap (λ (x : Observed). told_more x.out ended.out) next.heard;
    })

-- no further event was received
watched-unheard : {end : WatchEnd} {new : Observed} (x : StartedRun) → new ≡ x.all.change.after
    → ((end ≡ LinkFault) × (x.all.count < 2 ^ 40)) ⊎ ((end ≡ Fault TurnsSpent) × (x.all.count ≡ 2 ^ 40))
    → HasWatched x.all.wish end x.old.told new.told x.old.out new.out
watched-unheard {new = new} x same cause =
    let after = x.all.change.after in
    course-of {new = new} x (record {
      doings = [];
      out = [];
      ends = inl (cause, refl, refl);
      told_is = ap (λ (x : Observed). x.told) same ∙ sym (told_more-nil after.told);
      out_is = ap (λ (x : Observed). x.out) same ∙ sym (told_more-nil after.out);
    })

pub watched-lost : {new_told : Option (List IoEvent)} (x : StartedRun) → x.all.count < 1099511627776
    → new_told ≡ x.all.change.after.told
    → HasWatched x.all.wish LinkFault x.old.told new_told x.old.out x.all.change.after.out
watched-lost x few same = watched-unheard x (ap (λ t. observed t x.all.change.after.out) same) (inl (refl, few))

pub watched-spent : (x : StartedRun) → x.all.count ≡ 1099511627776 → HasWatched x.all.wish (Fault TurnsSpent) x.old.told
    x.all.change.after.told x.old.out x.all.change.after.out
watched-spent x all = watched-unheard {new = x.all.change.after} x refl (inr (refl, all))

-- it didn't begin
pub watched-not : (wish : Wish) (told : Option (List IoEvent)) (out : Option (List ℕ))
    → HasWatched wish NoMemory told told out out
watched-not wish told out =
    inr (record { front = []; cause = inl (refl, refl); told = sym (told_more-nil told); out = refl })

pub watched-unsent : (wish : Wish) (end : WatchEnd) (told new_told : Option (List IoEvent))
    (out : Option (List ℕ)) → IsUnsent end wish told new_told → HasWatched wish end told new_told out out
watched-unsent wish end told new_told out (inl none) =
    inr (record { front = []; cause = inl (none.0, refl); told = none.1 ∙ sym (told_more-nil told); out = refl })
watched-unsent wish end told new_told out (inr cut) =
    inr (record {
      front = take cut.1.0 (setup_text wish);
      cause = inr (cut.0, (cut.1.0, (cut.1.1.0, refl)));
      told = cut.1.1.1;
      out = refl;
    })
