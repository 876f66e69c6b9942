-- What a line of a script, or a turn's client, does to a day, in five cases, and that it keeps the balance.
use Rattle.std.proofs.lemmas.Grind.{common_steps}
use Rattle.std.proofs.Common.{◌≡◌, ◌<◌, ◌≤◌, ◌%◌, ◌+◌, ◌++◌, ℕ, List, [], ◌∷◌, get_or, subst, refl, sym, ap, ◌∙◌, inl}
use Rattle.std.proofs.Common.{map, ◌*◌, inr, arith, length, replicate, Option, Some, None, false}
use Rattle.std.proofs.lemmas.List.{append-nil, get_or-replicate, length-append, length-set}
use Rattle.admission.specs.declared.entries.Entry.{Entry}
use Rattle.day_script.specs.declared.scripts.Line.{Line}
use Rattle.day_script.specs.declared.scripts.Line.TheVariants as lines
use Rattle.day_script.specs.Scripts.{AreClients, AreLines, slot_after}
use Rattle.plan_cert.specs.declared.Segment.{Segment}
use Rattle.plan_cert.specs.PlanSlots.{total_bytes}
use Rattle.day_run.specs.declared.fairs.TheConstants.{BUFFER_SIZES, LEAST_BUFFER}
use Rattle.day_run.specs.ClientStates.{ClientPlay, ClientState, Idle, Playing, Pausing, Paused, Rest, booking_of}
use Rattle.day_run.specs.ClientStates.{sent_by}
use Rattle.day_run.specs.Days.{first_moment, DayState, IsAnsweredLook, IsAnsweredPlay, IsAsked, IsHaltedPlay, IsLine}
use Rattle.day_run.specs.Days.{IsOfferLine, IsPauseLine, IsResumeLine, SharedLink, at_slot, rest_at, AskedPlay}
use Rattle.day_run.specs.Days.{booked_up_to, entry_by, sent_up_to, with_play, IsFull, IsTold, slot_lines, halts_at}
use Rattle.day_run.specs.Days.{AreLineSteps, halt_by}
use Rattle.day_run.specs.FairDays.{IsDone, line_drawn, is_full_line}
use Rattle.day_run.proofs.ScriptLines.{IsPlayTaken, LineRun, LineStep, StandingLine, first-standing, head_step}
use Rattle.day_run.proofs.ScriptLines.{rest-standing, run_of, pausing-cases}
use Rattle.day_run.proofs.SentBookedLemmas.{BalancedClient, IsFree, idle-free, paused-free, IsShut, HeldClient}
use Rattle.day_run.proofs.SentBookedLemmas.{balanced-play, balanced-same, balanced-sent, its-held}
use Rattle.std.specs.Prelude.{◌⊎◌}
use Rattle.slot_calendar.specs.Plays.{booked_by, truncated_play}
use Rattle.admission.specs.declared.entries.Answer.{Answer}
use Rattle.admission.specs.declared.entries.Answer.TheVariants.{Admitted}
use Rattle.admission.specs.declared.entries.Command.TheVariants as commands
use Rattle.admission.specs.Books.{places_taken}
use Rattle.admission.specs.Histories.{IsAnswered, booked_after, state_after}
use Rattle.admission.specs.Machine.{AdmittedPlay, CanHalt, State, live, next_state}
use Rattle.admission.proofs.HistoryPrefixes.{state-push}
use Rattle.day_run.specs.BookingBalance.{AreHeldOf, IsReady, share_of}
use Rattle.day_run.proofs.SlotBalance.{IsHaltedAt, halted-step, pausing-share, slot-halted}
use Rattle.day_run.specs.JournalLaws.{places_needed}
use Rattle.early_start.specs.declared.Tried.{Tried}
use Rattle.wire_curve.specs.declared.film.CurveFault.{CurveFault}
use Rattle.film_run.specs.Plans.{IsPlanOf}
use Rattle.day_script.specs.LineTexts.{fault_text, offer_text}

-- ---- what a line of a script, or a turn's client, does to a day, in five cases
-- the text says something else than that the journal is full, or it is full
abbrev pub OtherOrFull : LineStep → ℕ → Type 0
OtherOrFull step places = (is_full_line step.text ≡ false) ⊎ IsFull step.link places step.old step.new step.text

-- the day stays as it was
pub record DayKept (step : LineStep) (places : ℕ) : Type 0 where
  pub kept : step.new ≡ step.old
  pub says : OtherOrFull step places

-- a client that played nothing was answered a play of such a rest
pub record PlayAnswered (step : LineStep) (Plays : Rest → Type 0) (maker : Option ℕ) : Type 0 where
  pub ask : AskedPlay
  pub by : maker ≡ Some ask.client
  pub free : IsFree (get_or step.old.states ask.client Idle)
  pub plays : Plays ask.rest
  pub plan_is : IsPlanOf ask.rest.sizes ask.rest.playback ask.rest.run ask.plan
  pub made : IsAnsweredPlay step.link ask step.old step.new step.text

-- a client's play was halted
pub record PlayHalted (step : LineStep) (maker : Option ℕ) : Type 0 where
  pub client : ℕ
  pub by : maker ≡ Some client
  pub play : ClientPlay
  pub at : get_or step.old.states client Idle ≡ Playing play
  pub is : IsHaltedPlay step.link client play step.old step.new step.text

-- a look was answered
pub record LookAnswered (step : LineStep) (maker : Option ℕ) : Type 0 where
  pub by : maker ≡ Some 0
  pub slot : ℕ
  pub made : IsAnsweredLook step.link slot step.old step.new step.text

-- the link came to a slot
pub record SlotReached (step : LineStep) (maker : Option ℕ) (slot : ℕ) : Type 0 where
  pub by : maker ≡ None
  pub is : step.new ≡ at_slot step.old slot
  pub text_is : step.text ≡ slot_lines step.old slot

-- what a play that was asked for may send, who may have made an entry, how many places a line needs, and the last slot
-- after it
pub record LineCase : Type 1 where
  pub Plays : Rest → Type 0
  pub maker : Option ℕ
  pub places : ℕ
  pub slot : ℕ

-- what became of a day
pub data LineOutcome (step : LineStep) (case : LineCase) : Type 0 where
  Kept : DayKept step case.places → case.slot ≡ step.old.heard → LineOutcome step case
  Asked : PlayAnswered step case.Plays case.maker → case.slot ≡ step.old.heard → LineOutcome step case
  Stopped : PlayHalted step case.maker → case.slot ≡ step.old.heard → LineOutcome step case
  Looks : LookAnswered step case.maker → case.slot ≡ step.old.heard → LineOutcome step case
  Reached : SlotReached step case.maker case.slot → LineOutcome step case

-- the last slot is then this one
pub outcome-heard : {case : LineCase} (step : LineStep) → LineOutcome step case → step.new.heard ≡ case.slot
outcome-heard step given = grind arith

-- ---- the lines
fault-other : (fault : CurveFault) → is_full_line (fault_text fault) ≡ false
fault-other fault = grind arith

offer-other : (tried : List Tried) (start : Option ℕ) (wait : ℕ)
    → is_full_line (offer_text (record { wait = wait; start = start; tried = tried })) ≡ false
offer-other [] None wait = refl
offer-other _ _ wait = refl

told-kept : {case : LineCase} {told : List ℕ} (step : LineStep) → IsTold told step.old step.new step.text
    → is_full_line told ≡ false → case.slot ≡ step.old.heard → LineOutcome step case
told-kept step is other at = Kept (record { kept = is.kept; says = inl (ap is_full_line is.text_is ∙ other) }) at

full-kept : {case : LineCase} (step : LineStep) → IsFull step.link case.places step.old step.new step.text
    → case.slot ≡ step.old.heard → LineOutcome step case
full-kept step full at = Kept (record { kept = full.told.kept; says = inr full }) at

-- a client's line, which needs two places
abbrev pub client_case : LineStep → (Rest → Type 0) → ℕ → LineCase
client_case step Plays c = record { Plays = Plays; maker = Some c; places = 2; slot = step.old.heard }

-- a client asks for a play of such a rest
asked-outcome : {Plays : Rest → Type 0} {c : ℕ} {rest : Rest} (step : LineStep) → Plays rest
    → IsFree (get_or step.old.states c Idle) → IsAsked step.link c rest step.old step.new step.text
    → LineOutcome step (client_case step Plays c)
asked-outcome step given given' given'' = search (arith, fault-other)

play-outcome : {Plays : Rest → Type 0} {c : ℕ} {state : ClientState} (step : LineStep) (rest : Rest) → Plays rest
    → get_or step.old.states c Idle ≡ state → IsPlayTaken step c rest state
    → LineOutcome step (client_case step Plays c)
play-outcome {state = Idle} step rest plays at is = asked-outcome step plays (idle-free at) is
play-outcome {state = Paused left} step rest plays at is = asked-outcome step plays (paused-free at) is
play-outcome {state = _} step rest plays at is = told-kept step is refl refl

resume-outcome : {c : ℕ} {state : ClientState} (step : LineStep) → get_or step.old.states c Idle ≡ state
    → IsResumeLine step.link c state step.old step.new step.text
    → LineOutcome step (client_case step (λ (rest : Rest). get_or step.old.states c Idle ≡ Paused rest) c)
resume-outcome {state = Paused rest} step at is = asked-outcome step at (paused-free at) is
resume-outcome {state = _} step at is = told-kept step is refl refl

pause-outcome : {Plays : Rest → Type 0} {c : ℕ} {state : ClientState} (step : LineStep)
    → get_or step.old.states c Idle ≡ state → IsPauseLine step.link c state step.old step.new step.text
    → LineOutcome step (client_case step Plays c)
pause-outcome step given given' = search arith

pub offer-kept : {rest : Rest} {wait : ℕ} (step : LineStep)
    → IsOfferLine step.link rest wait step.old step.new step.text → step.new ≡ step.old
offer-kept step given = grind arith

-- what a line plays: all of the reel that it names, or what is left for its client
abbrev pub PlaysBy : LineStep → Line → Rest → Type 0
PlaysBy step (lines.Play c source buffer delay) rest = rest ≡ rest_at step.link source buffer delay
PlaysBy step (lines.Resume c) rest = get_or step.old.states c Idle ≡ Paused rest
PlaysBy step _ rest = ⊥

-- who makes the entry of a line; nobody makes those of a slot
abbrev pub maker_of : Line → Option ℕ
maker_of (lines.Play c source buffer delay) = Some c
maker_of (lines.Pause c) = Some c
maker_of (lines.Resume c) = Some c
maker_of (lines.Slot slot) = None
maker_of _ = Some 0

abbrev pub case_of : LineStep → Line → LineCase
case_of step line = record {
  Plays = PlaysBy step line;
  maker = maker_of line;
  places = places_needed line;
  slot = slot_after step.old.heard line;
}

pub line-outcome : (step : LineStep) (line : Line) → IsLine step.link line step.old step.new step.text
    → LineOutcome step (case_of step line)
line-outcome step (lines.Play c source buffer delay) is =
    play-outcome step (rest_at step.link source buffer delay) refl refl is
line-outcome step (lines.Pause c) is = pause-outcome step refl is
line-outcome step (lines.Resume c) is = resume-outcome step refl is
line-outcome step (lines.Look slot) (inl full) = full-kept step full refl
line-outcome step (lines.Look slot) (inr made) = grind arith
line-outcome step (lines.Slot slot) is = Reached (record { by = refl; is = is.0; text_is = is.1 })
line-outcome step (lines.Offer c source buffer delay wait) (inl faulty) = search (told-kept, fault-other)
line-outcome step (lines.Offer c source buffer delay wait) (inr offered) = search (told-kept, offer-other)

-- an outcome of one of the 256 clients, or of none, at a slot that isn't earlier
abbrev IsInside : Option ℕ → Type 0
IsInside (Some client) = client < 256
IsInside None = Unit {0}

pub record IsInOrder (step : LineStep) (maker : Option ℕ) (slot : ℕ) : Type 0 where
  pub inside : IsInside maker
  pub later : step.old.heard ≤ slot

pub maker-inside : {maker : Option ℕ} {slot : ℕ} {step : LineStep} (client : ℕ) → IsInOrder step maker slot
    → maker ≡ Some client → client < 256
maker-inside client order by = subst IsInside by order.inside

pub line-order : {n : ℕ} (step : LineStep) (line : Line) → StandingLine step.old.heard n line
    → IsInOrder step (maker_of line) (slot_after step.old.heard line)
line-order step line given = grind arith

-- the lines after the first of those that are taken
abbrev pub rest_run : {link : SharedLink} {n : ℕ} {line : Line} {lines : List Line} {text : List ℕ}
    {texts : List (List ℕ)} → LineRun link n (line ∷ lines) (text ∷ texts) → LineRun link n lines texts
rest_run {line} taken = record {
  old = taken.run.0;
  new = taken.new;
  standing = rest-standing taken.standing
      (outcome-heard (head_step taken) (line-outcome (head_step taken) line taken.run.1.0));
  run = taken.run.1.1;
}

-- ---- the turns of a large day
pub record ClientOutcome (step : LineStep) (client : ℕ) : Type 1 where
  pub Plays : Rest → Type 0
  pub is : LineOutcome step (client_case step Plays client)

pub done-outcome : {c : ℕ} (step : LineStep) (words : ℕ → ℕ) (state : ClientState)
    → IsDone step.link (line_drawn words c state) step.old step.new step.text → ClientOutcome step c
done-outcome {c} step words Idle is =
    let line = lines.Play c (words 0 % 16) (LEAST_BUFFER + words 1 % BUFFER_SIZES) (words 2 % 26) in
    record { Plays = PlaysBy step line; is = line-outcome step line is }
done-outcome {c} step words (Playing play) is = record { Plays = λ rest. ⊥; is = line-outcome step (lines.Pause c) is }
done-outcome {c} step words (Paused rest) is =
    record { Plays = PlaysBy step (lines.Resume c); is = line-outcome step (lines.Resume c) is }
done-outcome step words (Pausing stop rest) is = record { Plays = λ rest. ⊥; is = told-kept step is refl refl }

pub client-order : {client : ℕ} (step : LineStep) → client < 256 → IsInOrder step (Some client) step.old.heard
client-order step inside = record { inside = inside; later = omega arith }

-- ---- what a line leaves
pub record HasGrown (old new : List Entry) : Type 0 where
  pub made : List Entry
  pub new_is : new ≡ old ++ made

-- what is booked in the slots that were received stays
abbrev Past : DayState → DayState → Type 0
Past old new = (t : ℕ) → t ≤ old.heard → booked_after new.entries t ≡ booked_after old.entries t

-- what so many lines leave at most: the balance between what is sent and what is booked, a journal that only grows, and
-- places of it for the halts of its open plays
pub record IsLeft (limit n : ℕ) (old new : DayState) : Type 0 where
  pub ready : IsReady new
  pub grown : HasGrown old.entries new.entries
  pub later : old.heard ≤ new.heard
  pub past : Past old new
  pub few : places_taken new.entries ≤ places_taken old.entries + 2 * n
  pub within : places_taken old.entries ≤ limit → places_taken new.entries ≤ limit

pub left-kept : {limit n : ℕ} (old new : DayState) → new ≡ old → IsReady old → IsLeft limit n old new
left-kept {limit} {n} old new kept ready =
    subst (IsLeft limit n old) (sym kept) (record {
      ready = ready;
      grown = record { made = []; new_is = sym (append-nil old.entries) };
      later = omega arith;
      past = λ t past. refl;
      few = omega arith;
      within = λ fits. fits;
    })

pub left-on : {limit n m k : ℕ} {a b c : DayState} → n + m ≤ k → IsLeft limit n a b → IsLeft limit m b c
    → IsLeft limit k a c
left-on {a} most one two = record {
  ready = two.ready;
  grown = record { made = one.grown.made ++ two.grown.made; new_is = grind (arith, common_steps) };
  later = omega (arith, one.later, two.later);
  past = λ t past. two.past t (omega (arith, past, one.later)) ∙ one.past t past;
  few = omega (arith, one.few, two.few, most);
  within = λ fits. two.within (one.within fits);
}

left-halted : {limit n : ℕ} (old new : DayState) → length new.states ≡ 256 → HasGrown old.entries new.entries
    → old.heard ≤ new.heard → IsHaltedAt new.heard old.entries new.entries new.states → IsLeft limit n old new
left-halted old new count grown later halted = record {
  ready = record { count = count; balanced = halted.balanced };
  grown = grown;
  later = later;
  past = λ t past. halted.stays t (omega (arith, past, later));
  few = omega (arith, halted.places);
  within = λ fits. omega (arith, halted.places, fits);
}

-- a client of a day that plays nothing
record IsFreeOf (old : DayState) (client : ℕ) : Type 0 where
  inside : client < 256
  free : IsFree (get_or old.states client Idle)

-- the day after the answer of a play
abbrev pub after_answer : DayState → AskedPlay → Answer → DayState
after_answer old ask answer = record {
  entries = old.entries ++ entry_by ask.client (commands.Play old.heard ask.plan) answer ∷ [];
  states = with_play ask.client ask.rest ask.plan (length old.entries) answer old.states;
  heard = old.heard;
}

answered : (old : DayState) (answer : Answer) (ask : AskedPlay) → IsFreeOf old ask.client → IsReady old
    → IsReady (after_answer old ask answer)
answered old (Admitted start) ask free ready =
    let play : ClientPlay = record { number = length old.entries; rest = ask.rest; plan = ask.plan; start = start } in
    let e = entry_by ask.client (commands.Play old.heard ask.plan) (Admitted start) in
    record {
      count = length-set old.states ask.client (Playing play) ∙ ready.count;
      balanced = balanced-play (record {
        play = play;
        e = e;
        number = refl;
        maker = refl;
        no_halt = refl;
        is = ap (λ (s : State). s.held) (state-push old.entries e);
      }) (omega (arith, free.inside, ready.count)) free.free ready.balanced;
    }
answered old answer ask free ready = search (balanced-same, state-push)

-- its client, whose play the machine holds
abbrev pub halted_client : {step : LineStep} {maker : Option ℕ} {slot : ℕ} (own : PlayHalted step maker)
    → IsInOrder step maker slot → IsReady step.old → BalancedClient step.old (Playing own.play)
halted_client own order ready = record {
  c = own.client;
  inside = subst (λ n. own.client < n) (sym ready.count) (maker-inside own.client order own.by);
  at = own.at;
  balanced = ready.balanced;
}

-- the bytes that are kept are those of the plan at most
pub kept-most : (entries : List Entry) (its : HeldClient entries) (keep : ℕ)
    → CanHalt (state_after entries) its.play.number keep → keep ≤ total_bytes its.play.plan
kept-most entries its keep can = grind arith

left-stopped : {maker : Option ℕ} {slot : ℕ} (step : LineStep) (own : PlayHalted step maker)
    → IsInOrder step maker slot → IsReady step.old → IsLeft step.link.limit 1 step.old step.new
left-stopped step own order ready =
    let old = step.old in
    let stop = truncated_play play.start play.plan is.keep in
    let rest = record play.rest { run = is.pause.left } in
    let at = halted_client own order ready in
    let sent : sent_by (booking_of play) old.heard ≤ is.keep = grind arith in
    subst (IsLeft step.link.limit 1 old) (sym is.noted.new_is) (left-halted old _
    (length-set old.states client is.state ∙ ready.count)
    (record { made = halt_by client play.number is.keep; new_is = refl }) (omega arith)
    (halted-step at (record {
      keep = is.keep;
      next = is.state;
      shut = subst IsShut (sym is.pause.state_is) (pausing-cases IsShut old.heard stop rest tt tt);
      shares = λ t later. ap (share_of t) is.pause.state_is ∙ pausing-share t old.heard stop rest later;
    }) (record { sent = sent; most = kept-most old.entries (its-held at) is.keep is.noted.answered })))
  where
    open own use {client, play, is}

left-looked : {maker : Option ℕ} (step : LineStep) → LookAnswered step maker → IsReady step.old
    → IsLeft step.link.limit 1 step.old step.new
left-looked step own ready =
    let old = step.old in
    let e = entry_by 0 (commands.Look own.slot) own.made.answer in
    let held = ap (λ (s : State). s.held) (state-push old.entries e) in
    let most : places_taken (old.entries ++ e ∷ []) ≤ places_taken old.entries + 1 = grind
    (arith, state-push, length-append) in
    subst (IsLeft step.link.limit 1 old) (sym own.made.noted.new_is) (record {
      ready = record { count = ready.count; balanced = balanced-same old e held refl ready.balanced };
      grown = record { made = e ∷ []; new_is = refl };
      later = omega arith;
      past = λ t past. ap (λ hs. booked_by (map (λ (h : AdmittedPlay). h.play) hs) t) held;
      few = omega (arith, most);
      within = λ fits. omega (arith, most, own.made.room);
    })

next-open : (state : State) (place slot : ℕ) (segments : List Segment) (answer : Answer)
    → live (next_state state place (commands.Play slot segments) answer) ≤ live state + 1
next-open state place slot segments answer = grind (arith, common_steps)

answered-past : (answer : Answer) (link : SharedLink) (ask : AskedPlay) (old : DayState)
    → IsAnswered link.steps (state_after old.entries) (entry_by ask.client (commands.Play old.heard ask.plan) answer)
    → Past old (after_answer old ask answer)
answered-past answer link ask old given = grind (arith, common_steps, state-push)

left-answered : {Plays : Rest → Type 0} {maker : Option ℕ} {slot : ℕ} (step : LineStep)
    → PlayAnswered step Plays maker → IsInOrder step maker slot → IsReady step.old
    → IsLeft step.link.limit 1 step.old step.new
left-answered step own order ready =
    let old = step.old in
    let answer = own.made.answer in
    let e = entry_by own.ask.client (commands.Play old.heard own.ask.plan) answer in
    let most : places_taken (old.entries ++ e ∷ []) ≤ places_taken old.entries + 2 = grind
    (arith, state-push, next-open, length-append) in
    subst (IsLeft step.link.limit 1 old) (sym own.made.noted.new_is) (record {
      ready = answered old answer own.ask
          (record { inside = maker-inside own.ask.client order own.by; free = own.free }) ready;
      grown = record { made = e ∷ []; new_is = refl };
      later = omega arith;
      past = answered-past answer step.link own.ask old own.made.noted.answered;
      few = omega (arith, most);
      within = λ fits. omega (arith, most, own.made.room);
    })

pub slot-left : {limit n : ℕ} (old new : DayState) (slot : ℕ) → old.heard ≤ slot → new ≡ at_slot old slot
    → IsReady old → IsLeft limit n old new
slot-left {limit} {n} old new slot le is ready =
    subst (IsLeft limit n old) (sym is) (left-halted old (at_slot old slot) (grind (arith, common_steps))
    (record { made = halts_at old slot; new_is = refl }) le (slot-halted old slot le ready.balanced))

pub outcome-left : {case : LineCase} (step : LineStep) → LineOutcome step case → IsInOrder step case.maker case.slot
    → IsReady step.old → IsLeft step.link.limit 1 step.old step.new
outcome-left step (Kept own at) order ready = left-kept step.old step.new own.kept ready
outcome-left step (Asked own at) order ready = left-answered step own order ready
outcome-left step (Stopped own at) order ready = left-stopped step own order ready
outcome-left step (Looks own at) order ready = left-looked step own ready
outcome-left {case} step (Reached own) order ready = slot-left step.old step.new case.slot order.later own.is ready

idle-held : (c : ℕ) → c < 256 → AreHeldOf [] c (get_or (replicate 256 Idle) c Idle)
idle-held c inside = subst (AreHeldOf [] c) (sym (get_or-replicate 256 c Idle Idle inside)) tt

pub morning-ready : IsReady first_moment
morning-ready = search (arith, idle-held)

pub ready-sent : (m : DayState) (slot : ℕ) → m.heard ≤ slot → IsReady m → sent_up_to m slot ≡ booked_up_to m slot
ready-sent m slot le ready = balanced-sent m slot le ready.balanced

-- ---- the lines of a script
pub first-left : {link : SharedLink} {n : ℕ} (l : Line) (ls : List Line) (t : List ℕ) (ts : List (List ℕ))
    (taken : LineRun link n (l ∷ ls) (t ∷ ts)) → IsReady taken.old → IsLeft link.limit 1 taken.old taken.run.0
first-left l ls t ts taken ready =
    let step = head_step taken in
    outcome-left step (line-outcome step l taken.run.1.0) (line-order step l (first-standing taken.standing)) ready

pub run-left : {link : SharedLink} {n : ℕ} (lines : List Line) (texts : List (List ℕ))
    (taken : LineRun link n lines texts) → IsReady taken.old → IsLeft link.limit (length lines) taken.old taken.new
run-left [] [] taken ready = left-kept taken.old taken.new taken.run ready
run-left (l ∷ ls) (t ∷ ts) taken ready =
    let one = first-left l ls t ts taken ready in
    left-on (omega arith) one (run-left ls ts (rest_run taken) one.ready)
run-left _ _ taken ready = absurd taken.run

pub taken-left : (link : SharedLink) (n : ℕ) (lines : List Line) (texts : List (List ℕ)) (moment : DayState)
    → AreClients lines → AreLines n lines → AreLineSteps link lines texts first_moment moment
    → IsLeft link.limit (length lines) first_moment moment
taken-left link n lines texts moment clients are run =
    run-left lines texts (run_of link n lines texts moment clients are run) morning-ready

pub taken-ready : (link : SharedLink) (n : ℕ) (lines : List Line) (texts : List (List ℕ)) (moment : DayState)
    → AreClients lines → AreLines n lines → AreLineSteps link lines texts first_moment moment → IsReady moment
taken-ready link n lines texts moment clients are run = (taken-left link n lines texts moment clients are run).ready
