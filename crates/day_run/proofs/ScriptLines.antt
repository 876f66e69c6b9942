-- The lines of a script as they are taken, one after the other, and what they make of a day.
use Rattle.std.proofs.lemmas.Grind.{common_steps}
use Rattle.std.proofs.Common.{◌≡◌, ℕ, suc, ◌<◌, List, ◌∷◌, length, get_or, take, sym, subst, arith, ◌+◌, [], ◌++◌, refl}
use Rattle.std.proofs.Common.{ap, ◌≤◌, ◌-◌, nat_lt, nat_le, false, Option, Some, None, map, set, replicate, Result}
use Rattle.std.proofs.Common.{IfOk, ◌∙◌}
use Rattle.std.specs.List.{fold}
use Rattle.admission.specs.declared.entries.Entry.{Entry}
use Rattle.day_run.specs.ClientStates.{ClientState, IfBusy, Rest, Pausing, Paused, IsPause, after_sending, booking_of}
use Rattle.day_run.specs.ClientStates.{pausing_state, sent_by, slot_sent, Idle, Playing, is_busy}
use Rattle.day_script.specs.Scripts.{AreClients, IsClient, AreLines, StandsAfter, slot_after}
use Rattle.day_run.specs.Days.{AreLineSteps, IsAsked, IsLine, IsTold, SharedLink, DayState, first_moment, done_halt}
use Rattle.day_run.specs.Days.{AskedPlay, IsNoted, IsPlayLine, halt_entries, state_at, with_play}
use Rattle.day_script.specs.LineTexts.{state_text}
use Rattle.day_script.specs.declared.scripts.Line.{Line}
use Rattle.std.specs.Prelude.{flat_map}
use Rattle.day_run.specs.MachineState.{HasRun, reply_text}
use Rattle.day_script.proofs.Places.{Place}
use Rattle.std.proofs.lemmas.Bool.{cases_lt}
use Rattle.pacer.specs.PacerStates.{PacerState, first_slots, slots_through, is_done}
use Rattle.film_frames.specs.Tracks.{IsBoundaryAfter}
use Rattle.film_run.specs.declared.runs.Run.{Run}
use Rattle.film_run.specs.Pauses.{IsRemainingRun, IsHalt}
use Rattle.slot_calendar.specs.Plays.{Play as Booked, truncated_play}
use Rattle.day_run.specs.declared.clients.ClientPlay.{ClientPlay}
use Rattle.day_run.specs.Clients.{IsPlaying, play_of, rest_of, IsRest, AreIdle, IsPauseOf, state_of}
use Rattle.day_run.specs.MediaPieces.{media_pieces, media_sizes}
use Rattle.plan_cert.proofs.SlotSums.{sum_through-past}
use Rattle.film_run.specs.Runs.{Fits, IsRun}
use Rattle.std.proofs.lemmas.List.{ext_get_or, get_or-replicate, length-map}
use Rattle.plan_cert.specs.declared.Segment.{Segment}
use Rattle.admission.specs.declared.entries.Answer.{Answer}
use Rattle.admission.specs.declared.entries.Answer.TheVariants.{Admitted}
use Rattle.admission.specs.Histories.{IsAnswered, is_admission, state_after}
use Rattle.day_run.specs.declared.clients.Client.{Client}
use Rattle.day_run.specs.declared.clients.Client.TheVariants as clients
use Rattle.day_run.specs.declared.clients.Halt.{Halt}
use Rattle.day_run.specs.declared.clients.Rest.{Rest as ClientRest}
use Rattle.day_run.specs.declared.machine.LineAnswer.{LineAnswer}
use Rattle.day_run.specs.declared.machine.LineAnswer.TheVariants as tolds
use Rattle.vod_base.specs.declared.errors.NoMemory.{NoMemory}
use Rattle.day_run.proofs.ClientSweepLemmas.{state-at, states-set}

-- ---- the lines of a script as they are taken: what their lemmas speak of
-- a line that is taken on a link: the day before and after it, and what is printed
pub record LineStep : Type 0 where
  pub link : SharedLink
  pub old : DayState
  pub new : DayState
  pub text : List ℕ

-- what a play of a rest brings, by the client's state
abbrev pub IsPlayTaken : LineStep → ℕ → Rest → ClientState → Type 0
IsPlayTaken step c rest state =
    IfBusy state (IsTold state_text step.old step.new step.text) (IsAsked step.link c rest step.old step.new step.text)

-- what a client asks for on a link: the day before and after it, and the journal that reports it
pub record ClientAsks : Type 0 where
  pub link : SharedLink
  pub client : ℕ
  pub old : DayState
  pub new : DayState
  pub entries : List Entry

-- a line that may stand after a slot, where so many sources are named
pub record StandingLine (heard n : ℕ) (line : Line) : Type 0 where
  pub client : IsClient line
  pub stands : StandsAfter heard n line

-- lines that may stand after a slot, one after the other
pub record StandingLines (heard n : ℕ) (lines : List Line) : Type 0 where
  pub clients : (i : ℕ) (none : Line) → i < length lines → IsClient (get_or lines i none)
  pub stands : (i : ℕ) (none : Line) → i < length lines
      → StandsAfter (fold slot_after heard (take i lines)) n (get_or lines i none)

-- the first of lines, and the others
pub first-standing : {heard n : ℕ} {line : Line} {lines : List Line} → StandingLines heard n (line ∷ lines)
    → StandingLine heard n line
first-standing {line} standing = grind arith

-- lines that may stand and are taken on a link, one after the other, with their texts
pub record LineRun (link : SharedLink) (n : ℕ) (lines : List Line) (texts : List (List ℕ)) : Type 0 where
  pub old : DayState
  pub new : DayState
  pub standing : StandingLines old.heard n lines
  pub run : AreLineSteps link lines texts old new

-- the first of them
abbrev pub head_step : {link : SharedLink} {n : ℕ} {line : Line} {lines : List Line} {text : List ℕ}
    {texts : List (List ℕ)} → LineRun link n (line ∷ lines) (text ∷ texts) → LineStep
head_step {link} {text} taken = record { link = link; old = taken.old; new = taken.run.0; text = text }

pub rest-standing : {heard next n : ℕ} {line : Line} {lines : List Line} → StandingLines heard n (line ∷ lines)
    → next ≡ slot_after heard line → StandingLines next n lines
rest-standing {n} {lines} standing is =
    subst (λ (h : ℕ). StandingLines h n lines) (sym is) (record {
      clients = λ i none inside. standing.clients (suc i) none (omega (arith, inside));
      stands = λ i none inside. standing.stands (suc i) none (omega (arith, inside));
    })

-- the lines of a script from the morning on
abbrev pub run_of : (link : SharedLink) (n : ℕ) (lines : List Line) (texts : List (List ℕ)) (moment : DayState)
    → AreClients lines → AreLines n lines → AreLineSteps link lines texts first_moment moment
    → LineRun link n lines texts
run_of link n lines texts moment clients are run = record {
  old = first_moment;
  new = moment;
  standing = record { clients = clients.each; stands = are.each };
  run = run;
}

-- ---- lines of a script, one after the other
-- the last line, after the others
pub record LastLine : Type 0 where
  pub link : SharedLink
  pub line : Line
  pub text : List ℕ
  pub old : DayState
  pub new : DayState
  pub is : IsLine link line old new text

pub run-more : (last : LastLine) (lines : List Line) (texts : List (List ℕ)) (old : DayState)
    → AreLineSteps last.link lines texts old last.old
    → AreLineSteps last.link (lines ++ last.line ∷ []) (texts ++ last.text ∷ []) old last.new
run-more last [] [] old run = grind arith
run-more last (l ∷ lines) (t ∷ texts) old run = (run.0, (run.1.0, run-more last lines texts run.0 run.1.1))
run-more last _ _ old run = absurd run

flat-push : (texts : List (List ℕ)) (text : List ℕ)
    → flat_map (λ (t : List ℕ). t) (texts ++ text ∷ []) ≡ flat_map (λ (t : List ℕ). t) texts ++ text
flat-push texts text = grind (arith, common_steps)

-- a run of the lines before a place, and of the one there
pub run-next : {before : List ℕ} (last : LastLine) (lines : List Line) (place : Place lines)
    → last.line ≡ get_or lines place.index place.none → HasRun last.link (take place.index lines) before last.old
    → HasRun last.link (take (place.index + 1) lines) (before ++ last.text) last.new
run-next last lines place is run = grind (arith, common_steps, flat-push run.texts last.text, run-more)

-- a text for each line
pub day-lines : (link : SharedLink) (lines : List Line) (texts : List (List ℕ)) (old new : DayState)
    → AreLineSteps link lines texts old new → length texts ≡ length lines
day-lines link [] [] old new run = refl
day-lines link (l ∷ ls) (t ∷ texts) old new run = ap suc (day-lines link ls texts run.0 new run.1.1)
day-lines link _ _ old new run = absurd run

-- ---- what a client's pacer has sent, in the words of a day
pub sent-at : (play : ClientPlay) (heard : ℕ) → IsPlaying play → play.pacer.passed ≡ heard + 1 - play.pacer.start
    → play.pacer.sent ≡ sent_by (booking_of (play_of play)) heard
sent-at play heard playing timed = grind arith

-- whether a play is done
begun : (start slot : ℕ) → nat_lt 0 (slot + 1 - start) ≡ nat_le start slot
begun start slot = grind (arith, cases_lt slot start)

-- a play that has come to a slot
pub record TimedPlay (play : ClientPlay) (slot : ℕ) : Type 0 where
  pub playing : IsPlaying play
  pub timed : play.pacer.passed ≡ slot + 1 - play.pacer.start

-- a client that pauses is paused, or not yet
pub pausing-cases : (P : ClientState → Type 0) (slot : ℕ) (stop : Booked) (rest : Rest) → P (Paused rest)
    → P (Pausing stop rest) → P (pausing_state slot stop rest)
pausing-cases P slot stop rest done still = grind arith

-- a sweep's halts don't see what a slot makes of pauses
pub done-sent : (slot client : ℕ) (state : ClientState)
    → done_halt slot client (after_sending slot state) ≡ done_halt slot client state
done-sent slot client state = grind arith

-- the slot of a plan that was sent last
pub last-slot : (last : Option ℕ) (start heard passed : ℕ) → slots_through last ≡ passed
    → passed ≡ heard + 1 - start → last ≡ slot_sent start heard
last-slot last start heard passed given given' = search arith

-- a pause keeps the bytes of a play up to a boundary: no less than was sent
pub record PauseAt (play : ClientPlay) (keep : ℕ) : Type 0 where
  pub last : Option ℕ
  pub through : slots_through last ≡ play.pacer.passed
  pub boundary : IsBoundaryAfter play.pacer.pieces (play.pacer.before + play.pacer.sent) (play.pacer.before + keep)
  pub most : keep ≤ play.pacer.keep

pub kept-sent : {play : ClientPlay} {heard keep : ℕ} → TimedPlay play heard → PauseAt play keep
    → sent_by (truncated_play play.pacer.start play.plan keep) heard ≡ play.pacer.sent
kept-sent {play} {heard} own at = grind (arith, sent-at play heard own.playing own.timed)

-- what it leaves
pub record PauseLeft (play : ClientPlay) (keep : ℕ) : Type 0 where
  pub at : PauseAt play keep
  pub left : Run
  pub left_is : IsRemainingRun (media_sizes play.rest.medium.now) play.rest.playback play.rest.run play.plan at.last
      keep left
  pub run_is : IsRun (media_sizes play.rest.medium.now) left
  pub fits : Fits play.rest.playback.buffer left

pub pause-of : {play : ClientPlay} {heard keep : ℕ} → TimedPlay play heard → (pause : PauseLeft play keep)
    → IsPause (play_of play) heard keep (pausing_state heard (truncated_play play.pacer.start play.plan keep)
    (record (rest_of play.rest) { run = pause.left }))
pause-of {play} {heard} {keep} own pause =
    let p = play.pacer in
    let pieces = media_pieces play.rest.medium.now in
    let L : Option ℕ → Type 0 =
    λ o. IsRemainingRun (media_sizes play.rest.medium.now) play.rest.playback play.rest.run play.plan o keep left in
    record {
      boundary = grind arith;
      left = left;
      left_is = subst L (last-slot at.last p.start heard p.passed at.through timed) left_is;
      state_is = refl;
    }
  where
    open own use {playing, timed}
    open pause use {at, left, left_is}

-- ---- what a pause keeps of a play
-- the halt of a play that isn't done
pub halts : {play : ClientPlay} {keep : ℕ} (at : PauseAt play keep) → IsPlaying play → is_done play.pacer ≡ false
    → IsHalt play.plan at.last keep
halts {play} {keep} at playing undone = by-last at.last at.through
  where
    open at use {boundary, most}

    by-last : (last : Option ℕ) → slots_through last ≡ play.pacer.passed → IsHalt play.plan last keep
    by-last None passed =
        let p = play.pacer in
        let nothing : first_slots p.plan p.passed ≡ 0 = ap (first_slots p.plan) (sym passed) in
        let sent : p.sent ≡ 0 = omega (arith, playing.all_sent, playing.pacing.due, nothing) in
        let le : p.before + keep ≤ p.before =
        boundary.least p.before playing.pacing.begins (omega (arith, sent)) in
        omega (arith, le)
    by-last (Some last) passed = search (arith, sum_through-past)

-- it can be sent on
pub left-rest : {play : ClientPlay} {keep : ℕ} → IsPlaying play → (pause : PauseLeft play keep)
    → IsRest (record play.rest { run = pause.left })
left-rest {play} {keep} playing pause = grind arith

-- it has come to the slot that was received last
pub left-timed : {p : PacerState} {keep : ℕ} (old : PacerState) (heard : ℕ) → p ≡ record old { keep = keep }
    → old.passed ≡ heard + 1 - old.start → p.passed ≡ heard + 1 - p.start
left-timed old heard e timed = grind arith

-- an entry was made: its place, and the day after it
pub noted : {link : SharedLink} {entry : Entry} {states : List ClientState} (old new : DayState) (made : Entry)
    (place : ℕ)
    → made ≡ entry → IsAnswered link.steps (state_after old.entries) made → place ≡ length old.entries
    → new.entries ≡ old.entries ++ made ∷ [] → new.states ≡ states → new.heard ≡ old.heard
    → IsNoted link entry states old new (reply_text new.entries (tolds.Entry place))
noted old new made place is answered place-is entries-are states-are heard-is = grind (arith, common_steps)

-- the clients after the answer of a play that was admitted
pub states-played : {number start : ℕ} {rest : ClientRest} {plan : List Segment} {answer : Answer}
    (cs : List Client) (c : ℕ) (play : ClientPlay) → answer ≡ Admitted start → play.number ≡ number
    → play.rest ≡ rest → play.plan ≡ plan
    → play.pacer.start ≡ start
    → map state_of (set cs c (clients.Playing play)) ≡ with_play c (rest_of rest) plan number answer (map state_of cs)
states-played cs c play is number_is rest_is plan_is start_is = grind
    (arith, states-set cs c (clients.Playing play))

pub states-same : {states : List ClientState} (ask : AskedPlay) (number : ℕ) (answer : Answer)
    → is_admission answer ≡ false → states ≡ with_play ask.client ask.rest ask.plan number answer states
states-same ask number answer given = grind arith

-- the play of a client that pauses
pub record PausedPlay (heard : ℕ) (halt : Halt) (client next : Client) : Type 0 where
  pub play : ClientPlay
  pub client_is : client ≡ clients.Playing play
  pub number_is : halt.number ≡ play.number
  pub pause : IsPause (play_of play) heard halt.keep (state_of next)

pub paused-play : {heard : ℕ} {halt : Halt} (client next : Client) → IsPauseOf heard halt client next
    → PausedPlay heard halt client next
paused-play (clients.Playing play) next is = record { play = play; client_is = refl; number_is = is.0; pause = is.1 }
paused-play _ next is = absurd is

pub play-ok : (rest : Rest) (r : Result LineAnswer NoMemory) (asks : ClientAsks)
    → is_busy (state_at asks.old asks.client) ≡ false
    → IfOk r (λ told. IsAsked asks.link asks.client rest asks.old asks.new (reply_text asks.entries told))
    → IfOk r (λ told. IsPlayLine asks.link asks.client rest asks.old asks.new (reply_text asks.entries told))
play-ok rest r asks given given' = search arith

-- the halts after a sending
pub halt_entries-sent : (slot k : ℕ) (states : List ClientState)
    → halt_entries (done_halt slot) k (map (after_sending slot) states) ≡ halt_entries (done_halt slot) k states
halt_entries-sent slot k [] = refl
halt_entries-sent slot k (state ∷ states) = grind (arith, done-sent slot k state, halt_entries-sent slot (k + 1) states)

-- clients that play nothing
pub idle-states : (cs : List Client) → length cs ≡ 256 → AreIdle cs → map state_of cs ≡ replicate 256 Idle
idle-states cs count idle =
    ext_get_or Idle (map state_of cs) (replicate 256 Idle) (length-map cs state_of ∙ count)
    (λ c inside.
    let within : c < length cs = omega (arith, inside, length-map cs state_of) in
    state-at cs c clients.Idle within ∙ ap state_of (idle.each c clients.Idle within)
    ∙ sym (get_or-replicate 256 c Idle Idle (omega (arith, within, count))))
