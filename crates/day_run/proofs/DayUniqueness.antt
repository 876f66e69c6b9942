-- What is true of the clients after each line; and a script has one text and one journal, a number one large day.
use Rattle.std.proofs.lemmas.Grind.{common_steps}
use Rattle.std.proofs.Common.{replicate, nat_lt, length, get_or, Option, false, arith, subst, true, Bool, cond, List, ℕ}
use Rattle.std.proofs.Common.{refl, Some, None, ◌≡◌, ◌<◌, ◌≤◌, ◌+◌, ◌-◌, ◌∷◌, All, map, set, sym, ◌∙◌, inl, inr, [], ap}
use Rattle.std.proofs.Common.{IfSome}
use Rattle.std.proofs.lemmas.Bool.{cases_lt, ltb-false, ltb-true}
use Rattle.std.proofs.lemmas.List.{get_or-map, get_or-replicate, length-take, take_all}
use Rattle.std.proofs.lemmas.List.Elements.{All-from_get_or}
use Rattle.plan_cert.specs.declared.Segment.{Segment}
use Rattle.plan_cert.specs.PlanSlots.{sum_through, total_bytes}
use Rattle.plan_cert.proofs.SlotSums.{length-plan_slots, sum-plan_slots}
use Rattle.wire_curve.specs.declared.film.Timing.{Timing}
use Rattle.film_frames.specs.Tracks.{IsBoundary}
use Rattle.film_run.specs.Pauses.{IsHalt}
use Rattle.film_run.specs.Plans.{IsPlanOf, IsTautFor, rest_sizes, timing_of}
use Rattle.film_run.proofs.SumLemmas.{bytes-none}
use Rattle.film_run.proofs.RemainingRunLemmas.{halted-plays}
use Rattle.admission.specs.declared.entries.Answer.{Answer}
use Rattle.admission.specs.declared.entries.Answer.TheVariants.{Admitted}
use Rattle.admission.specs.declared.entries.Command.TheVariants as commands
use Rattle.admission.specs.Histories.{IsAnswered, state_after}
use Rattle.day_script.specs.declared.scripts.Line.{Line}
use Rattle.day_script.specs.declared.scripts.Line.TheVariants as lines
use Rattle.day_run.specs.BookingBalance.{IsReady}
use Rattle.day_run.specs.DayLaws.{IsLink, IsSoundPlay, IsSoundRest, IsSoundClient, IsSoundMedia}
use Rattle.day_run.specs.Days.{AskedPlay, IsLine, SharedLink, DayState, at_slot, entry_by, first_moment, rest_at}
use Rattle.day_run.specs.Days.{AreLineSteps, IsAsked, IsDay, IsHaltedPlay, IsLookLine, IsOfferLine, IsPauseLine}
use Rattle.day_run.specs.Days.{IsResumeLine, IsTold, last_journal, state_at}
use Rattle.day_script.specs.Scripts.{IsWish, AreClients, AreLines}
use Rattle.day_run.specs.ClientStates.{Idle, Playing, IsPause, ClientPlay, Rest, ClientState, after_play, after_sending}
use Rattle.day_run.specs.ClientStates.{booking_of, sent_by, IfBusy, Pausing, Paused, MediaContent, trace_content}
use Rattle.day_run.proofs.SentBookedLemmas.{its-held}
use Rattle.day_run.proofs.LineOutcomes.{LineCase, after_answer, halted_client, morning-ready, kept-most, PlayHalted}
use Rattle.day_run.proofs.LineOutcomes.{line-outcome, outcome-left, rest_run, slot-left, IsInOrder, LineOutcome}
use Rattle.day_run.proofs.LineOutcomes.{PlaysBy, line-order, maker-inside, Kept, Asked, Stopped, Looks, Reached}
use Rattle.day_run.proofs.JournalStepLemmas.{set-at}
use Rattle.day_run.proofs.ScriptLines.{LineRun, LineStep, StandingLine, first-standing, head_step, run_of}
use Rattle.film_run.proofs.PlanLemmas.{sending-one}
use Rattle.early_start.proofs.RefusedStarts.{same_tried}
use Rattle.admission.specs.declared.entries.Entry.{Entry}
use Rattle.day_script.specs.LineTexts.{state_text}
use Rattle.std.specs.List.{range_with_len}
use Rattle.std.proofs.lemmas.List.FromFn.{length-map-range_with_len, length-range_with_len}
use Rattle.film_make.specs.Generator.{words_after}
use Rattle.film_run.specs.Units.{AreUnitSizes}
use Rattle.slot_calendar.specs.declared.profiles.CapStep.{CapStep}
use Rattle.day_run.specs.declared.fairs.TheConstants.{SLOT_UNITS}
use Rattle.day_run.specs.FairDays.{AreTurns, IsDone, IsTurn, FairTurn, after_traces, after_turn, client_of, fair_link}
use Rattle.day_run.specs.FairDays.{line_drawn, line_in, trace_drawn, traces_drawn}
use Rattle.day_run.proofs.FairLines.{drawn-trace, TakenTurn, TurnRun, first_turn, rest_turns, turn-mid, turn_step}

-- ---- what is true of the clients
pub record IsSound (m : DayState) : Type 0 where
  pub ready : IsReady m
  pub each : (c : ℕ) → c < 256 → IsSoundClient m.heard (get_or m.states c Idle)

abbrev HasSoundClients : DayState → Type 0
HasSoundClients m = (c : ℕ) → c < 256 → IsSoundClient m.heard (get_or m.states c Idle)

abbrev AreStates : ℕ → List ClientState → Type 0
AreStates heard states = (c : ℕ) → c < 256 → IsSoundClient heard (get_or states c Idle)

-- the states but one stay
set-sound : (m : DayState) (c : ℕ) (state : ClientState) → IsSound m → c < 256 → IsSoundClient m.heard state
    → AreStates m.heard (set m.states c state)
set-sound m c state is client sound d inside =
    set-at (λ (n : ℕ) (s : ClientState). IsSoundClient m.heard s) m.states c d state Idle
    (λ same. omega (arith, client, is.ready.count)) sound (λ other. is.each d inside)

-- a client asks for what can be sent, by its plan
record SoundAsking (ask : AskedPlay) : Type 0 where
  client_is : ask.client < 256
  rest_is : IsSoundRest ask.rest
  plan_is : IsPlanOf ask.rest.sizes ask.rest.playback ask.rest.run ask.plan

-- ---- a play that begins
answered-states : (step : LineStep) (ask : AskedPlay) → SoundAsking ask → IsSound step.old → (answer : Answer)
    → IsAnswered step.link.steps (state_after step.old.entries)
    (entry_by ask.client (commands.Play step.old.heard ask.plan) answer)
    → AreStates step.old.heard (after_answer step.old ask answer).states
answered-states step ask own sound (Admitted start) answer =
    let old = step.old in
    let play : ClientPlay =
    record { number = length old.entries; rest = ask.rest; plan = ask.plan; start = start } in
    let begun : IsSoundPlay old.heard play = grind (arith, common_steps) in
    set-sound old ask.client (Playing play) sound own.client_is begun
answered-states step ask own sound _ answer = sound.each

-- what is to be sent is sound, if there is a picture
abbrev pub IsSoundIfAny : Rest → Type 0
IsSoundIfAny rest = 0 < length (rest_sizes rest.sizes rest.run) → IsSoundRest rest

abbrev AreSoundPlays : (Rest → Type 0) → Type 0
AreSoundPlays Plays = (rest : Rest) → Plays rest → IsSoundIfAny rest

-- ---- a play that is halted
none-sent : (play : ClientPlay) (heard : ℕ) → heard < play.start → sent_by (booking_of play) heard ≡ 0
none-sent play heard early = grind arith

no-empty : (plan : List Segment) (sizes : List ℕ) (timing : Timing) → IsTautFor sizes timing plan
    → All (λ (s : Segment). 1 ≤ s.slots) plan
no-empty plan sizes timing is =
    All-from_get_or (λ (s : Segment). 1 ≤ s.slots) plan (record { slots = 0; bytes = 0 })
    (λ i inside. elim (cases_lt 0 (get_or plan i (record { slots = 0; bytes = 0 })).slots) [
      | inl some ↦ omega (arith, some)
      | inr none ↦ absurd (is.taut.no_empty i (inside, omega (arith, none)))
    ])

sent-through : (play : ClientPlay) (heard : ℕ) → play.start ≤ heard → sum_through play.plan (heard - play.start)
    < total_bytes play.plan → sent_by (booking_of play) heard ≡ sum_through play.plan (heard - play.start)
sent-through play heard begun below = grind arith

-- a sound play that is paused
record SoundHalt (heard : ℕ) (play : ClientPlay) : Type 0 where
  keep : ℕ
  state : ClientState
  sound : IsSoundPlay heard play
  pause : IsPause play heard keep state
  most : keep ≤ total_bytes play.plan

halt-if : {heard : ℕ} {play : ClientPlay} (b : Bool) (halt : SoundHalt heard play) → nat_lt heard play.start ≡ b
    → IsHalt play.plan (cond b None (Some (heard - play.start))) halt.keep
halt-if {heard} {play} true halt early =
    let before : heard < play.start = ltb-true heard play.start early in
    let le : play.rest.run.sent + halt.keep ≤ play.rest.run.sent =
    halt.pause.boundary.least play.rest.run.sent halt.sound.rest.boundary
    (omega (arith, none-sent play heard before)) in
    omega (arith, le)
halt-if {heard} {play} false halt late =
    let some = no-empty play.plan (rest_sizes play.rest.sizes play.rest.run)
    (timing_of play.rest.playback play.rest.run) halt.sound.plan in
    grind (
      arith,
      ltb-false heard play.start late,
      sent-through,
      cases_lt,
      length-plan_slots play.plan,
      take_all,
      sum-plan_slots play.plan some,
    )

left-sound : {heard : ℕ} {play : ClientPlay} (halt : SoundHalt heard play)
    → IsSoundRest (record play.rest { run = halt.pause.left })
left-sound {heard} {play} halt =
    let left = halt.pause.left_is in
    record {
      can = search (halted-plays, halt-if);
      boundary = subst (IsBoundary play.rest.pieces) (sym left.sent_is) halt.pause.boundary.boundary;
    }

halted-states : {maker : Option ℕ} {slot : ℕ} (step : LineStep) (own : PlayHalted step maker)
    → IsInOrder step maker slot → IsSound step.old → HasSoundClients step.new
halted-states step own order sound =
    let old = step.old in
    let inside = maker-inside client order by in
    let rest = left-sound (record {
      keep = is.keep;
      state = is.state;
      sound = subst (IsSoundClient old.heard) at (sound.each client inside);
      pause = is.pause;
      most = kept-most old.entries (its-held (halted_client own order sound.ready)) is.keep is.noted.answered;
    }) in
    let state : IsSoundClient old.heard is.state = grind arith in
    subst HasSoundClients (sym is.noted.new_is)
    (set-sound old client is.state sound inside state)
  where
    open own use {client, by, play, at, is}

-- ---- a slot comes
state-slot : (heard slot : ℕ) (state : ClientState) → IsSoundClient heard state
    → IsSoundClient slot (after_play slot (after_sending slot state))
state-slot heard slot state given = search arith

slot-states : (old : DayState) (slot : ℕ) → IsSound old → AreStates slot (at_slot old slot).states
slot-states old slot sound c client =
    let inside : c < length old.states = omega (arith, client, sound.ready.count) in
    let within : c < length (map (after_sending slot) old.states) = grind (arith, common_steps) in
    let S : ClientState → Type 0 = λ s. IsSoundClient slot s in
    subst S (sym (get_or-map (after_play slot) (map (after_sending slot) old.states) c Idle Idle within
    ∙ ap (after_play slot) (get_or-map (after_sending slot) old.states c Idle Idle inside)))
    (state-slot old.heard slot (get_or old.states c Idle) (sound.each c client))

pub slot-sound : (old : DayState) (slot : ℕ) → old.heard ≤ slot → IsSound old → IsSound (at_slot old slot)
slot-sound old slot later sound = record {
  ready = (slot-left {limit = 0} {n = 0} old (at_slot old slot) slot later refl sound.ready).ready;
  each = slot-states old slot sound;
}

-- ---- all of a reel
pub whole-sound : {link : SharedLink} {source buffer delay : ℕ} → IsLink link
    → IsWish (length link.media) source buffer delay → IsSoundIfAny (rest_at link source buffer delay)
whole-sound {link} {source} {buffer} {delay} link-is wish some = grind (arith, length-take, bytes-none)

-- ---- lines leave the clients sound
-- what a line plays is sound
plays-sound : (step : LineStep) (line : Line) → IsLink step.link
    → StandingLine step.old.heard (length step.link.media) line → IsSound step.old → AreSoundPlays (PlaysBy step line)
plays-sound step line given given' given'' = search arith

outcome-states : {case : LineCase} (step : LineStep) → LineOutcome step case → IsInOrder step case.maker case.slot
    → AreSoundPlays case.Plays → IsSound step.old → HasSoundClients step.new
outcome-states step (Kept own at) order plays sound = subst HasSoundClients (sym own.kept) sound.each
outcome-states step (Asked own at) order plays sound = search (arith, answered-states)
outcome-states step (Stopped own at) order plays sound = halted-states step own order sound
outcome-states step (Looks own at) order plays sound = subst HasSoundClients (sym own.made.noted.new_is) sound.each
outcome-states {case} step (Reached own) order plays sound = grind (arith, slot-states step.old case.slot sound)

pub line-sound : (step : LineStep) (line : Line) → IsLink step.link
    → StandingLine step.old.heard (length step.link.media) line → IsSound step.old
    → IsLine step.link line step.old step.new step.text → IsSound step.new
line-sound step line link-is standing sound is =
    let outcome = line-outcome step line is in
    let order = line-order step line standing in
    record {
      ready = (outcome-left step outcome order sound.ready).ready;
      each = outcome-states step outcome order (plays-sound step line link-is standing sound) sound;
    }

pub idle-sound : AreStates 0 (replicate 256 Idle)
idle-sound c client = subst (IsSoundClient 0) (sym (get_or-replicate 256 c Idle Idle client)) tt

pub morning-sound : IsSound first_moment
morning-sound = record { ready = morning-ready; each = idle-sound }

pub run-sound : {link : SharedLink} (lines : List Line) (texts : List (List ℕ))
    (taken : LineRun link (length link.media) lines texts) → IsLink link → IsSound taken.old → IsSound taken.new
run-sound [] [] taken link-is sound = subst IsSound (sym taken.run) sound
run-sound (l ∷ ls) (t ∷ ts) taken link-is sound =
    run-sound ls ts (rest_run taken) link-is
    (line-sound (head_step taken) l link-is (first-standing taken.standing) sound taken.run.1.0)
run-sound _ _ taken link-is sound = absurd taken.run

-- ---- a line has one outcome
-- a day after a line, and what the line prints
pub record Outcome : Type 0 where
  pub new : DayState
  pub text : List ℕ

-- two outcomes of a moment on a link
pub record OutcomePair : Type 0 where
  pub link : SharedLink
  pub old : DayState
  pub one : Outcome
  pub other : Outcome

-- they are the same
pub record IsOne (pair : OutcomePair) : Type 0 where
  pub new_is : pair.one.new ≡ pair.other.new
  pub text_is : pair.one.text ≡ pair.other.text

-- both are such outcomes
pub record AreBoth (pair : OutcomePair) (Is : DayState → DayState → List ℕ → Type 0) : Type 0 where
  pub a : Is pair.old pair.one.new pair.one.text
  pub b : Is pair.old pair.other.new pair.other.text

pub one-told : {told : List ℕ} (pair : OutcomePair) → IsTold told pair.old pair.one.new pair.one.text
    → IsTold told pair.old pair.other.new pair.other.text → IsOne pair
one-told pair a b = record { new_is = a.kept ∙ sym b.kept; text_is = a.text_is ∙ sym b.text_is }

one-plan : {one other : List Segment} (rest : Rest) → IsSoundIfAny rest
    → IsPlanOf rest.sizes rest.playback rest.run one → IsPlanOf rest.sizes rest.playback rest.run other → one ≡ other
one-plan {one} {other} rest own a b = grind (arith, sending-one)

one-asked : {c : ℕ} {rest : Rest} (pair : OutcomePair) → IsSoundIfAny rest
    → IsAsked pair.link c rest pair.old pair.one.new pair.one.text
    → IsAsked pair.link c rest pair.old pair.other.new pair.other.text → IsOne pair
one-asked pair given given' given'' = search (arith, one-plan)

one-play : (pair : OutcomePair) (c : ℕ) (rest : Rest) (state : ClientState) → IsSoundIfAny rest
    → AreBoth pair (λ old new text. IfBusy state (IsTold state_text old new text)
    (IsAsked pair.link c rest old new text)) → IsOne pair
one-play pair c rest (Playing play) own both = one-told pair both.a both.b
one-play pair c rest (Pausing stop left) own both = one-told pair both.a both.b
one-play pair c rest _ own both = one-asked pair own both.a both.b

one-resume : (pair : OutcomePair) (c : ℕ) (state : ClientState) → IsSoundClient pair.old.heard state
    → AreBoth pair (IsResumeLine pair.link c state) → IsOne pair
one-resume pair c (Paused rest) own both = one-asked pair (λ some. own) both.a both.b
one-resume pair c _ own both = one-told pair both.a both.b

one-halted : {c : ℕ} {play : ClientPlay} (pair : OutcomePair)
    → IsHaltedPlay pair.link c play pair.old pair.one.new pair.one.text
    → IsHaltedPlay pair.link c play pair.old pair.other.new pair.other.text → IsOne pair
one-halted {c} {play} pair a b = search arith

one-pause : (pair : OutcomePair) (c : ℕ) (state : ClientState) → AreBoth pair (IsPauseLine pair.link c state)
    → IsOne pair
one-pause pair c state given = grind (arith, one-halted, one-told)

one-look : {slot : ℕ} (pair : OutcomePair) → IsLookLine pair.link slot pair.old pair.one.new pair.one.text
    → IsLookLine pair.link slot pair.old pair.other.new pair.other.text → IsOne pair
one-look pair given given' = search arith

one-offer : {rest : Rest} {wait : ℕ} (pair : OutcomePair) → IsSoundIfAny rest
    → IsOfferLine pair.link rest wait pair.old pair.one.new pair.one.text
    → IsOfferLine pair.link rest wait pair.old pair.other.new pair.other.text → IsOne pair
one-offer pair given given' given'' = search (arith, one-plan, same_tried)

pub one-line : (pair : OutcomePair) (line : Line) → IsLink pair.link
    → StandingLine pair.old.heard (length pair.link.media) line → IsSound pair.old
    → AreBoth pair (IsLine pair.link line) → IsOne pair
one-line pair (lines.Play c source buffer delay) link-is standing sound both = search
    (arith, whole-sound link-is standing.stands, one-play)
one-line pair (lines.Pause c) link-is standing sound both = search (arith, one-pause)
one-line pair (lines.Resume c) link-is standing sound both = search (arith, one-resume)
one-line pair (lines.Look slot) link-is standing sound both = one-look pair both.a both.b
one-line pair (lines.Slot slot) link-is standing sound both = grind arith
one-line pair (lines.Offer c source buffer delay wait) link-is standing sound both = search (one-offer, whole-sound)

-- ---- a run of lines has one outcome
pub record IsOneRun (new new' : DayState) (texts texts' : List (List ℕ)) : Type 0 where
  pub new_is : new ≡ new'
  pub texts_are : texts ≡ texts'

-- two runs of the same lines from a sound day
pub record RunPair (link : SharedLink) (lines : List Line) (texts others : List (List ℕ)) : Type 0 where
  pub one : LineRun link (length link.media) lines texts
  pub new : DayState
  pub other : AreLineSteps link lines others one.old new
  pub link_is : IsLink link
  pub sound : IsSound one.old

pub one-run : {link : SharedLink} (ls : List Line) (ts us : List (List ℕ)) (pair : RunPair link ls ts us)
    → IsOneRun pair.one.new pair.new ts us
one-run [] [] [] pair = record { new_is = pair.one.run ∙ sym pair.other; texts_are = refl }
one-run {link} (l ∷ ls) (t ∷ ts) (u ∷ us) pair =
    let a = pair.one in
    let b = pair.other in
    let first = first-standing a.standing in
    let one = one-line (record {
      link = link;
      old = a.old;
      one = record { new = a.run.0; text = t };
      other = record { new = b.0; text = u };
    }) l pair.link_is first pair.sound (record { a = a.run.1.0; b = b.1.0 }) in
    let rest = one-run ls ts us (record {
      one = rest_run a;
      new = pair.new;
      other = subst (λ (m : DayState). AreLineSteps link ls us m pair.new) (sym one.new_is) b.1.1;
      link_is = pair.link_is;
      sound = line-sound (head_step a) l pair.link_is first pair.sound a.run.1.0;
    }) in
    record { new_is = rest.new_is; texts_are = ap (λ x. x ∷ ts) one.text_is ∙ ap (λ xs. u ∷ xs) rest.texts_are }
one-run [] [] (u ∷ us) pair = absurd pair.other
one-run (l ∷ ls) (t ∷ ts) [] pair = absurd pair.other
one-run _ _ _ pair = absurd pair.one.run

pub one-day : {link : SharedLink} {ls : List Line} {text text' : List ℕ} {journal journal' : List Entry} → IsLink link
    → AreClients ls → AreLines (length link.media) ls → IsDay link ls text journal → IsDay link ls text' journal'
    → (text ≡ text') × (journal ≡ journal')
one-day {link} {ls} link-is clients are a b =
    let one = one-run ls a.texts b.texts (record {
      one = run_of link (length link.media) ls a.texts a.evening clients are a.run;
      new = b.evening;
      other = b.run;
      link_is = link-is;
      sound = morning-sound;
    }) in
    (cc (a.text_is, b.text_is, one.texts_are, one.new_is), a.journal_is ∙ ap last_journal one.new_is ∙ sym b.journal_is)

-- ---- the 16 traces can be played
pub record IsFairLink (link : SharedLink) : Type 0 where
  pub link_is : IsLink link
  pub count : length link.media ≡ 16

trace-medium : (sizes : List ℕ) → AreUnitSizes sizes → IsSoundMedia (trace_content SLOT_UNITS sizes)
trace-medium sizes own = record { sizes = own; some_picture_units = omega arith; picture_units_fit = omega arith }

medium-drawn : (words : ℕ → ℕ) (i : ℕ) (none : MediaContent) → i < 16
    → IsSoundMedia (get_or (map (trace_content SLOT_UNITS) (traces_drawn 16 words)) i none)
medium-drawn words i none inside =
    let drawn = λ (k : ℕ). trace_drawn (after_traces k words) in
    let within : i < length (traces_drawn 16 words) = omega (arith, inside, length-map-range_with_len drawn 0 16) in
    let among : i < length (range_with_len 0 16) = omega (arith, inside, length-range_with_len 0 16) in
    let at : get_or (map (trace_content SLOT_UNITS) (traces_drawn 16 words)) i none
    ≡ trace_content SLOT_UNITS (drawn (get_or (range_with_len 0 16) i 0)) =
    get_or-map (trace_content SLOT_UNITS) (traces_drawn 16 words) i [] none within
    ∙ ap (trace_content SLOT_UNITS) (get_or-map drawn (range_with_len 0 16) i 0 [] among) in
    let R : MediaContent → Type 0 = λ r. IsSoundMedia r in
    subst R (sym at) (trace-medium _ (search (arith, drawn-trace)))

pub fair-link : (steps : List CapStep) (words : ℕ → ℕ) → IsFairLink (fair_link steps words)
fair-link steps words = search (arith, medium-drawn)

-- ---- what a client does has one outcome
-- a moment of a large day from which turns come
pub record IsBegun (link : SharedLink) (old : DayState) : Type 0 where
  pub fair : IsFairLink link
  pub sound : IsSound old

-- a line that may stand at a moment, or none
abbrev MayStand : SharedLink → DayState → Option Line → Type 0
MayStand link old line = IfSome line (StandingLine old.heard (length link.media))

line-stands : (taken : TakenTurn) → IsFairLink taken.link
    → MayStand taken.link taken.turn.mid (line_in taken.words taken.turn)
line-stands taken fair = search arith

one-done : (pair : OutcomePair) (line : Option Line) → IsBegun pair.link pair.old → MayStand pair.link pair.old line
    → AreBoth pair (IsDone pair.link line) → IsOne pair
one-done pair line given given' given'' = grind (arith, one-line)

done-sound : (step : LineStep) (line : Option Line) → IsBegun step.link step.old → MayStand step.link step.old line
    → IsDone step.link line step.old step.new step.text → IsSound step.new
done-sound step line given given' given'' = grind (arith, line-sound)

-- ---- a turn has one outcome
mid-begun : (taken : TakenTurn) → IsBegun taken.link taken.turn.old → IsBegun taken.link taken.turn.mid
mid-begun taken begun = record {
  fair = begun.fair;
  sound = turn-mid taken IsSound begun.sound (slot-sound taken.turn.old _ (omega arith) begun.sound);
}

next-begun : (taken : TakenTurn) → IsBegun taken.link taken.turn.old → IsBegun taken.link taken.turn.new
next-begun taken begun = record {
  fair = begun.fair;
  sound = done-sound (turn_step taken) (line_in taken.words taken.turn) (mid-begun taken begun)
      (line-stands taken begun.fair) taken.is.done;
}

one-turn : (taken : TakenTurn) (other : FairTurn) → IsBegun taken.link taken.turn.old → taken.turn.old ≡ other.old
    → IsTurn taken.link taken.words other → taken.turn ≡ other
one-turn taken other begun old b =
    let mid : turn.mid ≡ other.mid = search arith in
    let line : DayState → Option Line =
    λ m. line_drawn (words_after 2 words) (client_of words) (state_at m (client_of words)) in
    let one =
    one-done (record {
      link = link;
      old = turn.mid;
      one = record { new = turn.new; text = turn.text };
      other = record { new = other.new; text = other.text };
    }) (line_in words turn) (mid-begun taken begun) (line-stands taken begun.fair) (record {
      a = is.done;
      b = subst (λ (m : DayState). IsDone link (line m) m other.new other.text) (sym mid) b.done;
    }) in
    ap (λ m. record { old = m; mid = turn.mid; new = turn.new; text = turn.text }) old
    ∙ ap (λ m. record { old = other.old; mid = m; new = turn.new; text = turn.text }) mid
    ∙ ap (λ m. record { old = other.old; mid = other.mid; new = m; text = turn.text }) one.new_is
    ∙ ap (λ t. record { old = other.old; mid = other.mid; new = other.new; text = t }) one.text_is
  where
    open taken use {link, words, turn, is}

-- ---- turns have one outcome
pub record AreOne (turns others : List FairTurn) (new new' : DayState) : Type 0 where
  pub turns_are : turns ≡ others
  pub new_is : new ≡ new'

-- turns beside others
pub record OtherTurns (turns others : List FairTurn) : Type 0 where
  pub come : TurnRun turns
  pub new : DayState
  pub count : length turns ≡ length others
  pub run : AreTurns come.link come.words others come.old new

pub one-turns : (turns others : List FairTurn) (pair : OtherTurns turns others) → IsBegun pair.come.link pair.come.old
    → AreOne turns others pair.come.new pair.new
one-turns [] [] pair begun = record { turns_are = refl; new_is = pair.come.run ∙ sym pair.run }
one-turns (turn ∷ turns) (other ∷ others) pair begun =
    let taken = first_turn pair.come in
    let link = taken.link in
    let words = taken.words in
    let a = pair.come.run in
    let b = pair.run in
    let here : IsBegun link turn.old = subst (IsBegun link) (sym a.0) begun in
    let one : turn ≡ other = one-turn taken other here (a.0 ∙ sym b.0) b.1.0 in
    let rest =
    one-turns turns others (record {
      come = rest_turns pair.come;
      new = pair.new;
      count = omega (arith, pair.count);
      run = subst (λ (t : FairTurn). AreTurns link (after_turn words t) others t.new pair.new) (sym one) b.1.1;
    }) (next-begun taken here) in
    record { turns_are = ap (λ t. t ∷ turns) one ∙ ap (λ ts. other ∷ ts) rest.turns_are; new_is = rest.new_is }
one-turns _ _ pair begun = absurd (omega (arith, pair.count))
