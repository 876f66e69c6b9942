-- What a day brings after each of its lines, and what the lines say: which say that the journal is full, whose the
-- entries are that they make, and what an offer answers.
use Rattle.std.proofs.lemmas.Grind.{common_steps}
use Rattle.std.proofs.Common.{◌≤◌, ◌+◌, ◌-◌, ℕ, zero, suc, List, [], ◌∷◌, ◌++◌, length, take, refl, subst, arith, ◌≡◌}
use Rattle.std.proofs.Common.{◌<◌, ◌^◌, false, ◌==◌, ap, ◌∙◌, inl, append_assoc, sym, Bool, true, cond, All, Some}
use Rattle.std.proofs.Common.{Option, inr}
use Rattle.std.specs.Prelude.{sum_by, codes, decimal, ◌⊎◌}
use Rattle.std.specs.List.{range_with_len}
use Rattle.std.proofs.lemmas.List.{get_or-take, length-take, take_at, append-nil}
use Rattle.std.proofs.lemmas.List.Sums.{sum_by-le-sum_by}
use Rattle.slot_calendar.specs.declared.profiles.CapStep.{CapStep}
use Rattle.slot_calendar.specs.Profiles.{capacity_at}
use Rattle.admission.specs.declared.entries.Entry.{Entry}
use Rattle.admission.specs.Histories.{IsLegal, open_count, is_halt, booked_after, state_after}
use Rattle.admission.proofs.HistoryPrefixes.{legal-take}
use Rattle.admission.proofs.CapacityBounds.{sound-after}
use Rattle.day_script.specs.declared.scripts.Line.{Line}
use Rattle.day_script.specs.Scripts.{AreClients, AreLines}
use Rattle.day_run.specs.DayLaws.{SentIsBookedAfter, IsCount, IsLeast, IsOfferAnswer}
use Rattle.day_run.specs.BookingBalance.{IsReady}
use Rattle.day_run.specs.Days.{AreLineSteps, IsDay, SharedLink, DayState, last_halts, sent_up_to, IsLine, IsNoted}
use Rattle.day_run.specs.Days.{done_halt, halt_by, halt_entries, halts_at, IsFaulty, IsOfferLine}
use Rattle.day_run.proofs.LineOutcomes.{HasGrown, first-left, morning-ready, ready-sent, rest_run, run-left}
use Rattle.day_run.proofs.LineOutcomes.{taken-ready, LineCase, OtherOrFull, LineOutcome, Kept, Asked, Stopped, Looks}
use Rattle.day_run.proofs.LineOutcomes.{Reached, line-outcome, offer-kept}
use Rattle.day_run.proofs.ScriptLines.{LineRun, run_of, LineStep}
use Rattle.std.proofs.lemmas.Bool.{cases_Bool, eqb-true}
use Rattle.std.proofs.lemmas.Fmt.{decimal_is_IsNumeral}
use Rattle.std.proofs.lemmas.Str.Parse.{digit_from_value}
use Rattle.std.specs.Str.Parse.{AllDigits}
use Rattle.report.specs.EntryLines.{entry_line}
use Rattle.report.specs.JournalTexts.{journal_text}
use Rattle.day_run.specs.FairDays.{is_full_line}
use Rattle.day_run.specs.ClientStates.{ClientState, Rest}
use Rattle.day_run.specs.JournalLaws.{IsFullJournal, SaysFull, places_needed, HasItsMaker, IsMadeBy}
use Rattle.day_script.specs.LineTexts.{full_text}
use Rattle.std.proofs.lemmas.List.Elements.{All-append, All-nil}
use Rattle.day_script.specs.declared.scripts.Line.TheVariants as lines
use Rattle.admission.specs.Machine.{start_after}
use Rattle.early_start.specs.StartSearch.{AreRefusals, CanStart, IsStart}
use Rattle.early_start.proofs.RefusedStarts.{no_room_tried}

-- the moment after so many lines of a run
record FrontOf (link : SharedLink) (ls : List Line) (count : ℕ) (old new : DayState) : Type 0 where
  texts : List (List ℕ)
  moment : DayState
  front : AreLineSteps link (take count ls) texts old moment
  grown : HasGrown moment.entries new.entries

run-front : {link : SharedLink} {n : ℕ} (ls : List Line) (ts : List (List ℕ)) (count : ℕ) (taken : LineRun link n ls ts)
    → IsReady taken.old → FrontOf link ls count taken.old taken.new
run-front ls ts zero taken ready = record {
  texts = [];
  moment = taken.old;
  front = refl;
  grown = (run-left ls ts taken ready).grown;
}
run-front [] [] (suc count) taken ready = grind (arith, common_steps)
run-front (l ∷ ls) (t ∷ ts) (suc count) taken ready =
    let rest = run-front ls ts count (rest_run taken) (first-left l ls t ts taken ready).ready in
    record {
      texts = t ∷ rest.texts;
      moment = rest.moment;
      front = (taken.run.0, (taken.run.1.0, rest.front));
      grown = rest.grown;
    }
run-front _ _ (suc count) taken ready = absurd taken.run

clients-take : {ls : List Line} (count : ℕ) → AreClients ls → AreClients (take count ls)
clients-take {ls} count are = grind (arith, length-take count ls, get_or-take)

lines-take : {n : ℕ} {ls : List Line} (count : ℕ) → AreLines n ls → AreLines n (take count ls)
lines-take {n} {ls} count are = grind (arith, common_steps)

-- what a legal history begins with is legal
front-legal : {steps : List CapStep} (xs ys : List Entry) → IsLegal steps (xs ++ ys) → IsLegal steps xs
front-legal {steps} xs ys legal = search (arith, take_at xs ys (length xs), legal-take)

-- what is sent is within the capacity
pub sent-within : (link : SharedLink) (m : DayState) (slot : ℕ) → IsReady m → IsLegal link.steps m.entries
    → m.heard ≤ slot → sent_up_to m slot
    ≤ sum_by (capacity_at link.steps) (range_with_len (m.heard + 1) (slot - m.heard))
sent-within link m slot ready legal later =
    grind (arith, sound-after link.steps m.entries legal, ready-sent m slot later ready, sum_by-le-sum_by)

pub day-keeps : {link : SharedLink} {n : ℕ} {lines : List Line} {text : List ℕ} {journal : List Entry} (count : ℕ)
    → AreClients lines → AreLines n lines
    → IsDay link lines text journal → IsLegal link.steps journal → SentIsBookedAfter link lines count
day-keeps {link} {n} {lines} count clients are day legal =
    let L : List Entry → Type 0 = λ l. IsLegal link.steps l in
    let at = run-front lines day.texts count (run_of link n lines day.texts day.evening clients are day.run)
    morning-ready in
    let last = front-legal day.evening.entries (last_halts day.evening) (subst L day.journal_is legal) in
    let here = front-legal at.moment.entries at.grown.made (subst L at.grown.new_is last) in
    let ready =
    taken-ready link n (take count lines) at.texts at.moment (clients-take count clients) (lines-take count are)
    at.front in
    record {
      texts = at.texts;
      moment = at.moment;
      run = at.front;
      sent = λ slot later. ready-sent at.moment slot later ready;
      within = λ slot later. sent-within link at.moment slot ready here later;
    }

-- ---- which of the texts that clients are answered say that the journal is full
digit-other : (c : ℕ) → c < 58 → (c == 114) ≡ false
digit-other c digit = grind (arith, cases_Bool (c == 114), eqb-true)

digits-other : (ds rest : List ℕ) → 0 < length ds → AllDigits 10 ds → is_full_line (ds ++ rest) ≡ false
digits-other [] rest some digits = absurd (omega (arith, some))
digits-other (x ∷ ds) rest some digits = grind (arith, digit_from_value x digits.0, digit-other)

pub entry-other : (place : ℕ) (entry : Entry) (rest : List ℕ) → place < 2 ^ 64
    → is_full_line (entry_line place entry ++ rest) ≡ false
entry-other place entry rest small = search (decimal_is_IsNumeral place small, append_assoc, digits-other)

pub entries-other : (place : ℕ) (entries : List Entry) → place < 2 ^ 64
    → is_full_line (journal_text place entries) ≡ false
entries-other place [] small = refl
entries-other place (e ∷ es) small = entry-other place e (journal_text (place + 1) es) small

-- ---- which lines of a day say that the journal is full, and what they then say
noted-other : {entry : Entry} {states : List ClientState} (step : LineStep) → length step.old.entries < 2 ^ 64
    → IsNoted step.link entry states step.old step.new step.text → is_full_line step.text ≡ false
noted-other {entry} step small is =
    let line = entry_line (length step.old.entries) entry in
    ap is_full_line (is.text_is ∙ sym (append-nil line)) ∙ entry-other (length step.old.entries) entry [] small

pub outcome-text : {case : LineCase} (step : LineStep)
    → length step.old.entries < 2 ^ 64 → LineOutcome step case → OtherOrFull step case.places
outcome-text step small (Kept own at) = own.says
outcome-text step small (Asked own at) = inl (noted-other step small own.made.noted)
outcome-text step small (Stopped own at) = inl (noted-other step small own.is.noted)
outcome-text step small (Looks own at) = inl (noted-other step small own.made.noted)
outcome-text step small (Reached own) = inl (ap is_full_line own.text_is)

-- the text of a full journal in its parts
abbrev full-words : ℕ → ℕ → List ℕ
full-words entries open_plays =
    codes "refused journal entries=" ++ decimal entries ++ codes " open=" ++ decimal open_plays ++ codes "\n"

text-parts : (entries open_plays : ℕ)
    → full_text (record { entries = entries; live = open_plays }) ≡ full-words entries open_plays
text-parts entries open_plays = grind (arith, append_assoc)

-- what a line says about a full journal is true
pub full-line : (step : LineStep) (line : Line) → IsReady step.old → length step.old.entries < 2 ^ 64
    → IsLine step.link line step.old step.new step.text → SaysFull step.text
    → (step.new ≡ step.old) × IsFullJournal step.link (places_needed line) step.old step.text
full-line step line ready small is says = search (
  arith,
  outcome-text step small (line-outcome step line is),
  text-parts (length step.old.entries) (open_count step.old.entries),
)

none-made : {maker : ℕ} (step : LineStep) → step.new ≡ step.old → IsMadeBy maker step.old step.new
none-made {maker} step kept = grind (arith, append-nil step.old.entries)

one-made : {entry : Entry} {states : List ClientState} {maker : ℕ} (step : LineStep) → Some maker ≡ Some entry.maker
    → IsNoted step.link entry states step.old step.new step.text → IsMadeBy maker step.old step.new
one-made {entry} {maker} step by is = grind arith

outcome-made : {case : LineCase} {maker : ℕ} (step : LineStep) → case.maker ≡ Some maker → LineOutcome step case
    → IsMadeBy maker step.old step.new
outcome-made step given given' = grind (arith, none-made, one-made)

-- ---- the halts of a slot and of a day's end
abbrev pub IsHaltEntry : Entry → Type 0
IsHaltEntry e = is_halt e.command ≡ true

halt-if : (b : Bool) (c number keep : ℕ) → All IsHaltEntry (cond b (halt_by c number keep) [])
halt-if b c number keep = grind arith

done-halts : (slot c : ℕ) (state : ClientState) → All IsHaltEntry (done_halt slot c state)
done-halts slot c state = grind arith

all-halts : (halt : ℕ → ClientState → List Entry) → ((c : ℕ) (state : ClientState) → All IsHaltEntry (halt c state))
    → (c : ℕ) (states : List ClientState) → All IsHaltEntry (halt_entries halt c states)
all-halts halt each c [] = All-nil IsHaltEntry
all-halts halt each c (state ∷ states) = search (all-halts halt each (c + 1) states, All-append)

pub slot-halts : (m : DayState) (slot : ℕ) → All IsHaltEntry (halts_at m slot)
slot-halts m slot = all-halts (done_halt slot) (done-halts slot) 0 m.states

pub line-made : (step : LineStep) (line : Line) → IsLine step.link line step.old step.new step.text
    → HasItsMaker line step.old step.new
line-made step (lines.Slot slot) is = grind (arith, slot-halts step.old slot)
line-made step (lines.Offer c source buffer delay wait) is = offer-kept step is
line-made step line is = outcome-made step refl (line-outcome step line is)

-- starts that were tried from the first one on, up to a wait, of which none fits
start-least : (Fits : ℕ → Type 0) (first wait count : ℕ) (start : Option ℕ)
    → ((at : ℕ) → first ≤ at → at < first + count → Fits at → ⊥) → IsStart Fits first wait count start
    → IsLeast Fits first (first + wait) start
start-least Fits first wait count start none given = search arith

start-count : (Fits : ℕ → Type 0) (first wait count : ℕ) (start : Option ℕ) → IsStart Fits first wait count start
    → IsCount first (first + wait) start count
start-count Fits first wait count start given = grind arith

pub offer-told : {rest : Rest} {wait : ℕ} (step : LineStep)
    → IsOfferLine step.link rest wait step.old step.new step.text
    → IsFaulty rest step.old step.new step.text ⊎ IsOfferAnswer step.link rest wait step.old step.text
offer-told step (inl faulty) = inl faulty
offer-told {wait} step (inr offered) =
    let booked = booked_after step.old.entries in
    let capacity = capacity_at step.link.steps in
    let first = start_after (state_after step.old.entries) step.old.heard in
    let refusals : AreRefusals 0 booked capacity plan first found.tried = found_is.refusals in
    let W : ℕ → Type 0 = λ w. IsStart (CanStart 0 booked capacity plan) first w (length found.tried) found.start in
    let start : W wait = subst W offered.wait_is found_is.start in
    inr (record {
      plan = plan;
      plan_is = offered.plan_is;
      first = first;
      first_is = refl;
      start = found.start;
      least = start-least (CanStart 0 booked capacity plan) first wait (length found.tried) found.start
          (λ at begun before room. no_room_tried refusals begun before room) start;
      tried = found.tried;
      count = start-count (CanStart 0 booked capacity plan) first wait (length found.tried) found.start start;
      each = grind arith;
      text_is = offered.told.text_is;
    })
  where
    open offered use {plan, found, found_is}
