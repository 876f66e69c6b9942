-- What is true of every large day: what its turns bring, what its line says, and what it draws.
use Rattle.std.proofs.Common.{◌≡◌, ◌≤◌, ◌+◌, ◌-◌, ◌*◌, ◌%◌, ℕ, max, All, List, [], ◌∷◌, length, map, Some, arith, refl}
use Rattle.std.proofs.Common.{sym, ap, subst, ◌∙◌, ◌<◌, ◌^◌, Bool, false, cond, inl, inr, ◌++◌, sum, get_or, add-one}
use Rattle.std.proofs.Common.{Result}
use Rattle.std.specs.Prelude.{sum_by, count_by, ◌⊎◌, OnOk}
use Rattle.std.specs.List.{fold, range_with_len, All, AllByRecursion as ByRecursion}
use Rattle.std.proofs.lemmas.List.Elements.{All-cons, recursion_from_All}
use Rattle.std.proofs.lemmas.List.Sums.{sum_by-cons, sum_by-le-sum_by}
use Rattle.film_make.specs.Generator.{words_after, words_of}
use Rattle.admission.specs.Histories.{booked_after, state_after, IsLegal, is_admission, is_halt, open_count}
use Rattle.admission.specs.Machine.{booked_in}
use Rattle.day_run.specs.BookingBalance.{IsReady}
use Rattle.day_run.specs.Days.{SharedLink, DayState, at_slot, sent_up_to, IsLine, IsTold, first_moment}
use Rattle.day_run.specs.FairDays.{AreTurns, FairTurn, IsTurn, after_turn, client_of, turn_booked, turn_peak, turn_sent}
use Rattle.day_run.specs.FairDays.{entry_counts_of, is_halted, is_overflow, is_refused, IsDone, line_drawn, state_in}
use Rattle.day_run.specs.FairDays.{IsFair, after_traces, counts_of, fair_link, picture_count, trace_drawn, words_for}
use Rattle.day_run.proofs.SlotBalance.{slot-halted, last-halted, last-open}
use Rattle.day_run.proofs.SlotTotals.{SlotSpan, greatest, summed, total-joined, total-same, sum-slots}
use Rattle.day_run.proofs.LineOutcomes.{ClientOutcome, IsInOrder, IsLeft, client-order, done-outcome, left-kept}
use Rattle.day_run.proofs.LineOutcomes.{left-on, outcome-heard, outcome-left, ready-sent, slot-left, morning-ready}
use Rattle.day_run.proofs.ScriptLines.{LineStep}
use Rattle.slot_calendar.specs.declared.profiles.CapStep.{CapStep}
use Rattle.admission.specs.declared.entries.Command.TheVariants.{Play}
use Rattle.admission.specs.declared.entries.Entry.{Entry}
use Rattle.admission.specs.Books.{places_taken}
use Rattle.admission.proofs.PlayCounts.{tally}
use Rattle.day_run.specs.DayLaws.{AreEntryCounts, is_play, IsDrawnLine, IsDrawnTurn, IsFairLine, IsTurnWithinCapacity}
use Rattle.day_run.specs.DayLaws.{SentIsBookedEachTurn}
use Rattle.day_run.proofs.DayPrefixLemmas.{outcome-text}
use Rattle.std.proofs.lemmas.Nat.{mod_below}
use Rattle.day_script.specs.declared.scripts.Line.{Line}
use Rattle.day_script.specs.declared.scripts.Line.TheVariants as lines
use Rattle.day_run.specs.declared.fairs.TheConstants.{BUFFER_SIZES, LEAST_BUFFER}
use Rattle.day_run.specs.ClientStates.{Idle, Paused, Pausing, Playing, ClientState}
use Rattle.slot_calendar.specs.Profiles.{capacity_at}
use Rattle.admission.proofs.CapacityBounds.{sound-after}
use Rattle.std.proofs.lemmas.Grind.{common_steps}
use Rattle.std.specs.Global.{Vec}
use Rattle.std.proofs.lemmas.List.{length-append, get_or_append_left, get_or-append_right}
use Rattle.std.proofs.lemmas.List.FromFn.{length-range_with_len, length-map-range_with_len}
use Rattle.film_make.specs.Trace.{sizes_of, trace_size}
use Rattle.film_make.proofs.TraceLemmas.{trace_size-range}
use Rattle.film_run.specs.Units.{AreUnitSizes}
use Rattle.day_run.specs.FairProgress.{AreTraces, AreTurnResults, Drawn, IsTurnResult, after_turns, with_slot}
use Rattle.film_make.proofs.GeneratorLemmas.{words_after-twice, words_after-at, words_after-zero}
use Rattle.day_script.specs.declared.fair_totals.FairTotals.{FairTotals}
use Rattle.day_run.specs.declared.clients.Client.{Client}
use Rattle.day_run.specs.Clients.{state_of}
use Rattle.day_run.proofs.SentBookedLemmas.{sum-none}
use Rattle.day_run.proofs.ClientSweepLemmas.{state-at}

-- ---- the turns of a large day
-- a turn that was taken
pub record TakenTurn : Type 0 where
  pub link : SharedLink
  pub words : ℕ → ℕ
  pub turn : FairTurn
  pub is : IsTurn link words turn

-- what its client does
abbrev pub turn_step : TakenTurn → LineStep
turn_step taken = record { link = taken.link; old = taken.turn.mid; new = taken.turn.new; text = taken.turn.text }

pub turn-outcome : (taken : TakenTurn) → ClientOutcome (turn_step taken) (client_of taken.words)
turn-outcome taken = done-outcome (turn_step taken) (words_after 2 taken.words) _ taken.is.done

pub turn-order : (taken : TakenTurn) → IsInOrder (turn_step taken) (Some (client_of taken.words)) taken.turn.mid.heard
turn-order taken = client-order (turn_step taken) (omega arith)

pub turn-mid : (taken : TakenTurn) (P : DayState → Type 0) → P taken.turn.old
    → P (at_slot taken.turn.old (taken.turn.old.heard + taken.words 0 % 4)) → P taken.turn.mid
turn-mid taken P none some = grind arith

pub mid-left : (taken : TakenTurn) → IsReady taken.turn.old → IsLeft taken.link.limit 0 taken.turn.old taken.turn.mid
mid-left taken ready =
    let old = taken.turn.old in
    turn-mid taken (IsLeft taken.link.limit 0 old) (left-kept old old refl ready)
    (slot-left old (at_slot old (old.heard + taken.words 0 % 4)) (old.heard + taken.words 0 % 4) (omega arith) refl
    ready)

pub turn-left : (taken : TakenTurn) → IsReady taken.turn.old → IsLeft taken.link.limit 1 taken.turn.old taken.turn.new
turn-left taken ready =
    let mid = mid-left taken ready in
    left-on (omega arith) mid (outcome-left (turn_step taken) (turn-outcome taken).is (turn-order taken) mid.ready)

-- turns that were taken one after the other
pub record TurnRun (turns : List FairTurn) : Type 0 where
  pub link : SharedLink
  pub words : ℕ → ℕ
  pub old : DayState
  pub new : DayState
  pub run : AreTurns link words turns old new

-- the first of them, and the others
abbrev pub first_turn : {turn : FairTurn} {turns : List FairTurn} → TurnRun (turn ∷ turns) → TakenTurn
first_turn {turn} come = record { link = come.link; words = come.words; turn = turn; is = come.run.1.0 }

abbrev pub rest_turns : {turn : FairTurn} {turns : List FairTurn} → TurnRun (turn ∷ turns) → TurnRun turns
rest_turns {turn} come = record {
  link = come.link;
  words = after_turn come.words turn;
  old = turn.new;
  new = come.new;
  run = come.run.1.1;
}

pub turns-left : (turns : List FairTurn) (come : TurnRun turns) → IsReady come.old
    → IsLeft come.link.limit (length turns) come.old come.new
turns-left [] come ready = left-kept come.old come.new come.run ready
turns-left (turn ∷ turns) come ready =
    let one = turn-left (first_turn come) (subst IsReady (sym come.run.0) ready) in
    subst (λ (m : DayState). IsLeft come.link.limit (length (turn ∷ turns)) m come.new) come.run.0
    (left-on (omega arith) one (turns-left turns (rest_turns come) one.ready))

-- ---- the most of many
pub most-of : (f : ℕ → ℕ) (most top : ℕ) (ts : List ℕ) → top ≤ most → ((t : ℕ) → f t ≤ most)
    → fold max top (map f ts) ≤ most
most-of f most top [] small each = small
most-of f most top (t ∷ ts) small each = most-of f most (max top (f t)) ts (omega (arith, small, each t)) each

pub fold-top : (top : ℕ) (xs : List ℕ) → fold max top xs ≡ max top (fold max 0 xs)
fold-top top [] = omega arith
fold-top top (x ∷ xs) = omega (arith, fold-top (max top x) xs, fold-top (max 0 x) xs)

-- ---- what is booked in past slots stays
turn-past : (t : ℕ) (taken : TakenTurn) → IsReady taken.turn.old → t ≤ taken.turn.mid.heard
    → booked_after taken.turn.new.entries t ≡ booked_after taken.turn.old.entries t
turn-past t taken ready past =
    let old = taken.turn.old in
    (outcome-left (turn_step taken) (turn-outcome taken).is (turn-order taken) (mid-left taken ready).ready).past t past
    ∙ turn-mid taken (λ (m : DayState). t ≤ m.heard → booked_after m.entries t ≡ booked_after old.entries t)
    (λ _. refl) ((slot-halted old _ (omega arith) ready.balanced).stays t) past

-- ---- what the turns bring is what the journal books in their slots
pub record IsTurnBooked (booked : ℕ → ℕ) (turn : FairTurn) : Type 0 where
  pub sent : (slot : ℕ) → turn.old.heard ≤ slot → slot ≤ turn.mid.heard
      → sent_up_to turn.old slot ≡ sum_by booked (range_with_len (turn.old.heard + 1) (slot - turn.old.heard))

pub record AreBooked (booked : ℕ → ℕ) (turns : List FairTurn) (from to : ℕ) : Type 0 where
  pub order : from ≤ to
  pub few : to ≤ from + 3 * length turns
  pub sent_is : sum_by turn_sent turns ≡ sum_by turn_booked turns
  pub sum_is : sum_by turn_booked turns ≡ sum_by booked (range_with_len (from + 1) (to - from))
  pub peak_is : fold max 0 (map turn_peak turns) ≡ fold max 0 (map booked (range_with_len (from + 1) (to - from)))
  pub each : All (IsTurnBooked booked) turns

-- a turn, and the turns after it up to a slot
turns-cons : {last : ℕ} (turn : FairTurn) (turns : List FairTurn) (booked : ℕ → ℕ) → IsReady turn.old
    → turn.old.heard ≤ turn.mid.heard → turn.mid.heard ≤ turn.old.heard + 3
    → ((t : ℕ) → t ≤ turn.mid.heard → booked t ≡ booked_after turn.old.entries t)
    → AreBooked booked turns turn.mid.heard last → AreBooked booked (turn ∷ turns) turn.old.heard last
turns-cons {last} turn turns booked begun later near here rest =
    let span : SlotSpan =
    record { from = turn.old.heard; mid = turn.mid.heard; last = last; early = later; late = rest.order } in
    let f = booked_in (state_after turn.old.entries) in
    record {
      order = omega (arith, later, rest.order);
      few = omega (arith, near, rest.few);
      sent_is = omega (
        arith,
        ready-sent turn.old turn.mid.heard later begun,
        rest.sent_is,
        sum_by-cons turn_sent turn turns,
        sum_by-cons turn_booked turn turns,
      );
      sum_is = sum_by-cons turn_booked turn turns ∙ ap (λ k. turn_booked turn + k) rest.sum_is
          ∙ total-joined summed booked f span here;
      peak_is = omega (
        arith,
        fold-top (max 0 (turn_peak turn)) (map turn_peak turns),
        rest.peak_is,
        total-joined greatest booked f span here,
      );
      each = All-cons (IsTurnBooked booked) turn turns (record {
        sent = λ slot after before.
            ready-sent turn.old slot after begun
            ∙ sym (total-same summed booked f (turn.old.heard + 1) (slot - turn.old.heard)
            (λ t less. here t (omega (arith, less, after, before))));
      }) rest.each;
    }

pub turns-past : (turns : List FairTurn) (booked : ℕ → ℕ) (come : TurnRun turns) → IsReady come.old
    → ((t : ℕ) → t ≤ come.new.heard → booked t ≡ booked_after come.new.entries t)
    → AreBooked booked turns come.old.heard come.new.heard
turns-past [] booked come ready same = grind arith
turns-past (turn ∷ turns) booked come ready same =
    let taken = first_turn come in
    let begun : IsReady turn.old = subst IsReady (sym come.run.0) ready in
    let one = turn-left taken begun in
    let left = turns-left turns (rest_turns come) one.ready in
    let mid : turn.new.heard ≡ turn.mid.heard = outcome-heard (turn_step taken) (turn-outcome taken).is in
    subst (λ (m : DayState). AreBooked booked (turn ∷ turns) m.heard come.new.heard) come.run.0
    (turns-cons turn turns booked begun (mid-left taken begun).later
    (turn-mid taken (λ (m : DayState). m.heard ≤ turn.old.heard + 3) (omega arith) (omega arith))
    (λ t past. same t (omega (arith, past, mid, left.later)) ∙ left.past t (omega (arith, past, mid))
    ∙ turn-past t taken begun past)
    (subst (λ (h : ℕ). AreBooked booked turns h come.new.heard) mid
    (turns-past turns booked (rest_turns come) one.ready same)))

-- ---- entries
abbrev one : Bool → ℕ
one b = cond b 1 0

-- an entry counts once as what it is
record IsCountedOnce (e : Entry) : Type 0 where
  play : one (is_admission e.answer) + one (is_overflow e.answer) ≡ one (is_play e.command)
  halt : one (is_halted e.answer) ≡ one (is_halt e.command)

record AreCounted (entries : List Entry) : Type 0 where
  plays : count_by (λ (e : Entry). is_admission e.answer) entries
      + count_by (λ (e : Entry). is_overflow e.answer) entries
      ≡ count_by (λ (e : Entry). is_play e.command) entries
  halts : count_by (λ (e : Entry). is_halted e.answer) entries ≡ count_by (λ (e : Entry). is_halt e.command) entries

count-cons : (p : Entry → Bool) (e : Entry) (entries : List Entry)
    → count_by p (e ∷ entries) ≡ one (p e) + count_by p entries
count-cons p e entries = sum_by-cons (λ x. one (p x)) e entries

all-counted : (entries : List Entry) → ByRecursion IsCountedOnce entries → AreCounted entries
all-counted [] all = record { plays = refl; halts = refl }
all-counted (e ∷ entries) all = search (arith, all-counted entries all.1, count-cons)

pub entry-counts : {steps : List CapStep} (journal : List Entry) → IsLegal steps journal → open_count journal ≡ 0
    → AreEntryCounts (entry_counts_of journal) journal
entry-counts {steps} journal legal closed =
    let each : All IsCountedOnce journal = grind arith in
    let counted = all-counted journal (recursion_from_All IsCountedOnce journal each) in
    let open_is = (tally steps journal legal).0 in
    record {
      admitted_is = refl;
      halted_is = counted.halts;
      plays_are = counted.plays;
      all_halted = omega (arith, counted.halts, open_is, closed);
    }

-- ---- no turn finds the journal full
pub never-full : (turns : List FairTurn) (come : TurnRun turns) → IsReady come.old
    → places_taken come.old.entries + 2 * length turns ≤ come.link.limit → come.link.limit < 2 ^ 64
    → count_by is_refused turns ≡ 0
never-full [] come ready room small = refl
never-full (turn ∷ turns) come ready room small =
    let taken = first_turn come in
    let begun : IsReady turn.old = subst IsReady (sym come.run.0) ready in
    let at : places_taken turn.old.entries ≡ places_taken come.old.entries = grind arith in
    let mid = mid-left taken begun in
    let left = turn-left taken begun in
    let here : is_refused turn ≡ false =
    elim (outcome-text (turn_step taken) (omega (arith, at, mid.few, room, small)) (turn-outcome taken).is) [
      | inl other ↦ other
      | inr full ↦ absurd (omega (arith, full.full, at, mid.few, room))
    ] in
    let later : count_by is_refused turns ≡ 0 =
    never-full turns (rest_turns come) left.ready (omega (arith, at, left.few, room)) small in
    let whole : count_by is_refused (turn ∷ turns) ≡ one (is_refused turn) + count_by is_refused turns = search arith in
    omega (arith, whole, ap one here, later)

-- ---- what a turn of a large day brings
-- nothing, or a line
abbrev HasDone : LineStep → Type 0
HasDone step = IsTold [] step.old step.new step.text
    ⊎ ((line : Line) × (IsDrawnLine line × IsLine step.link line step.old step.new step.text))

drawn-done : {client : ℕ} (step : LineStep) (words : ℕ → ℕ) (state : ClientState) → client < 256
    → IsDone step.link (line_drawn words client state) step.old step.new step.text → HasDone step
drawn-done {client} step words Idle small is =
    let source = mod_below (words 0) 16 (omega arith) in
    let buffer = mod_below (words 1) BUFFER_SIZES (omega arith) in
    let delay = mod_below (words 2) 26 (omega arith) in
    inr (
      lines.Play client (words 0 % 16) (LEAST_BUFFER + words 1 % BUFFER_SIZES) (words 2 % 26),
      ((small, source, omega arith, omega (arith, buffer), omega (arith, delay)), is),
    )
drawn-done {client} step words (Playing play) small is = inr (lines.Pause client, (small, is))
drawn-done step words (Pausing stop rest) small is = inl is
drawn-done {client} step words (Paused rest) small is = inr (lines.Resume client, (small, is))

pub drawn-turn : (link : SharedLink) (words : ℕ → ℕ) (turn : FairTurn) → IsTurn link words turn → IsDrawnTurn link turn
drawn-turn link words turn is =
    let later = mod_below (words 0) 4 (omega arith) in
    let step : LineStep = record { link = link; old = turn.mid; new = turn.new; text = turn.text } in
    record {
      later = words 0 % 4;
      few = omega (arith, later);
      mid_is = is.slot;
      done =
          drawn-done step (words_after 2 words) (state_in words turn) (mod_below (words 1) 256 (omega arith)) is.done;
    }

-- ---- what the line of a large day says
-- its turns
abbrev pub turns_of : {steps : List CapStep} {number plays : ℕ} {text : List ℕ} {journal : List Entry}
    (fair : IsFair steps number plays text journal) → TurnRun fair.turns
turns_of {steps} {number} fair = record {
  link = fair_link steps (words_of number);
  words = after_traces 16 (words_of number);
  old = first_moment;
  new = fair.evening;
  run = fair.run;
}

fair-ready : {steps : List CapStep} {number plays : ℕ} {text : List ℕ} {journal : List Entry}
    (fair : IsFair steps number plays text journal) → IsReady fair.evening
fair-ready fair = (turns-left fair.turns (turns_of fair) morning-ready).ready

fair-past : {steps : List CapStep} {number plays : ℕ} {text : List ℕ} {journal : List Entry}
    (fair : IsFair steps number plays text journal) → AreBooked (booked_after journal) fair.turns 0 fair.evening.heard
fair-past {journal} fair =
    turns-past fair.turns (booked_after journal) (turns_of fair) morning-ready (λ t past.
    ap (λ es. booked_after es t) fair.journal_is
    ∙ (last-halted fair.evening (fair-ready fair).balanced).stays t past)

pub fair-line : {number : ℕ} (steps : List CapStep) (plays : ℕ) (text : List ℕ) (journal : List Entry)
    → IsFair steps number plays text journal → IsLegal steps journal → IsFairLine steps plays text journal
fair-line steps plays text journal fair legal =
    let turns = fair.turns in
    let evening = fair.evening in
    let come = turns_of fair in
    let whole : evening.heard - 0 ≡ evening.heard = omega arith in
    let past = fair-past fair in
    record {
      counts = counts_of turns evening;
      entries = entry_counts_of journal;
      text_is = fair.text_is;
      entries_are = search (arith, fair-ready fair, entry-counts, last-open);
      turns_are = fair.count;
      never_full = λ few. never-full turns come morning-ready (omega (arith, few, fair.count)) (omega arith);
      last = omega (arith, past.few, fair.count);
      balanced = past.sent_is;
      booked_is = past.sum_is ∙ ap (λ k. sum_by (booked_after journal) (range_with_len 1 k)) whole;
      peak_is = past.peak_is ∙ ap (λ k. fold max 0 (map (booked_after journal) (range_with_len 1 k))) whole;
      within = λ most capacity.
          let slots = range_with_len (0 + 1) (evening.heard - 0) in
          let small = most-of (booked_after journal) most 0 slots (omega arith) (λ t.
          omega (arith, (sound-after steps journal legal).within.each t, capacity t)) in
          omega (arith, past.peak_is, small);
    }

-- ---- turn by turn
turn-within : {steps : List CapStep} {journal : List Entry} (turn : FairTurn) → IsLegal steps journal
    → IsTurnBooked (booked_after journal) turn → IsTurnWithinCapacity steps journal turn
turn-within {steps} {journal} turn legal is = record {
  sent = is.sent;
  within = λ slot after before.
      let slots = range_with_len (turn.old.heard + 1) (slot - turn.old.heard) in
      let most = (sound-after steps journal legal).within in
      subst (λ (sent : ℕ). sent ≤ sum_by (capacity_at steps) slots) (sym (is.sent slot after before))
      (sum_by-le-sum_by (booked_after journal) (capacity_at steps) slots (λ t. most.each t));
  each_slot = λ slot after before.
      let booked = booked_after journal in
      let from = turn.old.heard in
      let more : slot + 1 - from ≡ slot - from + 1 = omega (arith, after) in
      let at : from + 1 + (slot - from) ≡ slot + 1 = omega (arith, after) in
      let most = (sound-after steps journal legal).within in (
        is.sent (slot + 1) (omega (arith, after)) (omega (arith, before))
            ∙ ap (λ k. sum_by booked (range_with_len (from + 1) k)) more
            ∙ sum-slots booked (from + 1) (slot - from)
            ∙ ap (λ k. sum_by booked (range_with_len (from + 1) (slot - from)) + booked k) at
            ∙ ap (λ k. k + booked (slot + 1)) (sym (is.sent slot after (omega (arith, before)))),
        most.each (slot + 1),
      );
}

pub fair-turns : {number plays : ℕ} {text : List ℕ} (steps : List CapStep) (journal : List Entry)
    → IsFair steps number plays text journal → IsLegal steps journal → SentIsBookedEachTurn steps number plays journal
fair-turns steps journal fair legal = grind (arith, turn-within, fair-past fair)

-- ---- drawn traces
sum-most : (words : ℕ → ℕ) (ks : List ℕ) → sum (map (trace_size words) ks) ≤ length ks * 7996
sum-most words [] = omega arith
sum-most words (k ∷ ks) = search (arith, trace_size-range words k, sum-most words ks, sum_by-cons)

pub drawn-trace : (words : ℕ → ℕ) (n : ℕ) → n ≤ 200 → AreUnitSizes (sizes_of words n)
drawn-trace words n few = grind (arith, length-map-range_with_len, sum-most, length-range_with_len)

pub traces-none : AreTraces []
traces-none = record { each = λ i none inside. absurd (omega (arith, inside)) }

pub traces-push : (traces after : List (Vec ℕ)) (trace : Vec ℕ) → after ≡ traces ++ trace ∷ []
    → AreUnitSizes trace.items → AreTraces traces → AreTraces after
traces-push traces after trace e own are = grind (arith, get_or_append_left, length-append, get_or-append_right)

-- ---- traces that are drawn one after the other
after_traces-more : (words : ℕ → ℕ) (k : ℕ) → after_traces (k + 1) words
    ≡ words_after (picture_count (after_traces k words)) (words_after 1 (after_traces k words))
unfolding after_traces
after_traces-more words k = ap (λ n. after_traces n words) (add-one k)

-- the trace that is drawn by the next words, and the words that it leaves
pub trace-next : {left mid : ℕ → ℕ} {r : ℕ} {items : List ℕ} (words : ℕ → ℕ) (k : ℕ) → left ≡ after_traces k words
    → mid ≡ words_after 1 left → r ≡ left 0 % 101 → items ≡ sizes_of mid (100 + r)
    → (items ≡ trace_drawn (after_traces k words)) × (words_after (100 + r) mid ≡ after_traces (k + 1) words)
trace-next words k left-is mid-is r-is items-are = grind (arith, after_traces-more words k)

pub left-none : (words : ℕ → ℕ) → words ≡ after_traces 0 words
unfolding after_traces
left-none words = refl

pub same-counts : (counts : FairTotals) (moment : DayState) → counts.last ≡ moment.heard
    → counts ≡ with_slot counts moment moment.heard
same-counts counts moment last = grind (arith, sum-none moment.heard moment.states)

-- ---- turns
turns-more : (turns : List FairTurn) (come : TurnRun turns) (turn : FairTurn) → turn.old ≡ come.new
    → IsTurn come.link (after_turns come.words turns) turn
    → AreTurns come.link come.words (turns ++ turn ∷ []) come.old turn.new
turns-more [] come turn at is = (at ∙ come.run, (is, refl))
turns-more (t ∷ turns) come turn at is = (come.run.0, (come.run.1.0, turns-more turns (rest_turns come) turn at is))

after-more : (words : ℕ → ℕ) (turns : List FairTurn) (turn : FairTurn)
    → after_turns words (turns ++ turn ∷ []) ≡ after_turn (after_turns words turns) turn
after-more words [] turn = refl
after-more words (t ∷ turns) turn = after-more (after_turn words t) turns turn

-- one turn more
pub come-next : {link : SharedLink} {words : ℕ → ℕ} {n : ℕ} (old new : Drawn)
    → AreTurnResults link words old.words n old.counts old.moment → IsTurnResult link old new
    → new.counts.last ≡ new.moment.heard → AreTurnResults link words new.words (n + 1) new.counts new.moment
come-next {link} {words} old new come turned last =
    let turn = turned.turn in
    let all = come.turns ++ turn ∷ [] in
    let is : IsTurn link (after_turns words come.turns) turn = grind arith in
    let before : TurnRun come.turns = grind arith in
    record {
      turns = all;
      count = length-append come.turns (turn ∷ []) ∙ ap (λ k. k + 1) come.count;
      run = subst (AreTurns link words all first_moment) turned.new_is
          (turns-more come.turns before turn turned.old_is is);
      left_is = search (arith, after-more);
      counts_are = grind (arith, common_steps);
    }

-- ---- words that are drawn one after the other
pub second-word : (w w1 : ℕ → ℕ) → w1 ≡ words_after 1 w → w1 0 ≡ w 1
second-word w w1 one = ap (λ (f : ℕ → ℕ). f 0) one ∙ words_after-at 1 w 0

pub two-left : {w1 w2 : ℕ → ℕ} (w : ℕ → ℕ) → w1 ≡ words_after 1 w → w2 ≡ words_after 1 w1 → w2 ≡ words_after 2 w
two-left w one two = two ∙ ap (words_after 1) one ∙ words_after-twice 1 1 w

pub third-word : (w w1 w2 : ℕ → ℕ) → w1 ≡ words_after 1 w → w2 ≡ words_after 1 w1 → w2 0 ≡ w 2
third-word w w1 w2 one two = ap (λ (f : ℕ → ℕ). f 0) (two-left w one two) ∙ words_after-at 2 w 0

pub ok-of : {A E : Type 0} (r : Result A E) (X : Type 0) → X → OnOk r X
ok-of r X given = grind arith

-- no words are drawn
none-left : (w : ℕ → ℕ) (n : ℕ) → n ≡ 0 → w ≡ words_after n w
none-left w n none = sym (ap (λ k. words_after k w) none ∙ words_after-zero w)

-- a client for whom no word is drawn
pub no-words : {w : ℕ → ℕ} (clients : List Client) (c : ℕ) (client : Client) → length clients ≡ 256 → c < 2 ^ 8
    → client ≡ get_or clients c client → words_for (state_of client) ≡ 0
    → w ≡ words_after (words_for (get_or (map state_of clients) c Idle)) w
no-words clients c client count small at none =
    none-left _ _ (ap words_for (state-at clients c client (omega (arith, count, small)) ∙ ap state_of (sym at)) ∙ none)

pub ready-morning : (m : DayState) → m ≡ first_moment → IsReady m
ready-morning m is = subst IsReady (sym is) morning-ready
