-- A large day as far as it has been drawn.
use Rattle.std.specs.Prelude.{ℕ, ◌≡◌, ◌+◌, ◌*◌, ◌<◌, ◌≤◌, max, if◌then◌else◌, List, [], ◌∷◌, length}
use Rattle.std.specs.Prelude.{map, slice_index_or, Option, Some, None}
use Rattle.std.specs.Global.{Vec}
use Rattle.film_run.specs.Units.{AreUnitSizes}
use Rattle.admission.specs.declared.entries.Entry.{Entry}
use Rattle.day_script.specs.declared.fair_totals.FairTotals.{FairTotals}
use Rattle.vod_base.specs.declared.limits.TheConstants.{MAX_BYTES}
use Rattle.day_run.specs.declared.machine.LineAnswer.{LineAnswer}
use Rattle.day_run.specs.Days.{SharedLink, DayState, booked_up_to, first_moment, sent_up_to}
use Rattle.day_run.specs.FairDays.{AreTurns, IsTurn, FairTurn, after_turn, counts_of, is_refused}
use Rattle.day_run.specs.FairDays.{most_up_to, turn_booked, turn_peak, turn_sent}
use Rattle.day_run.specs.MachineState.{reply_text}

pub record AreTraces (traces : List (Vec ℕ)) : Type 0 where
  pub each : (i : ℕ) (none : Vec ℕ) → i < length traces →
      AreUnitSizes (slice_index_or traces i none).items

-- the sizes of traces
abbrev pub sizes_in : List (Vec ℕ) → List (List ℕ)
sizes_in traces = map (λ (trace : Vec ℕ). trace.items) traces

-- the text of what a client was answered, if it was asked at all
abbrev pub said_text : List Entry → Option LineAnswer → List ℕ
said_text entries None = []
said_text entries (Some told) = reply_text entries told

-- what is counted once the link came to a slot
abbrev pub with_slot : FairTotals → DayState → ℕ → FairTotals
with_slot counts moment slot =
    record {
      turns = counts.turns;
      full = counts.full;
      last = slot;
      sent = counts.sent + sent_up_to moment slot;
      booked = counts.booked + booked_up_to moment slot;
      peak = max counts.peak (most_up_to moment slot);
    }

-- and once a turn has come
abbrev pub with_turn : FairTotals → FairTurn → FairTotals
with_turn counts turn = record {
  turns = counts.turns + 1;
  full = counts.full + (if is_refused turn then 1 else 0);
  last = turn.mid.heard;
  sent = counts.sent + turn_sent turn;
  booked = counts.booked + turn_booked turn;
  peak = max counts.peak (turn_peak turn);
}

-- counts fit: no more was sent or booked than a link may carry by a slot
pub record IsFitting (heard : ℕ) (counts : FairTotals) : Type 0 where
  pub last_is : counts.last ≡ heard
  pub full : counts.full ≤ counts.turns
  pub sent : counts.sent ≤ heard * MAX_BYTES
  pub booked : counts.booked ≤ heard * MAX_BYTES

-- a large day as far as it has come: the words that are left, what is counted of it, and the moment
pub record Drawn : Type 0 where
  pub words : ℕ → ℕ
  pub counts : FairTotals
  pub moment : DayState

abbrev pub drawn_to : (ℕ → ℕ) → FairTotals → DayState → Drawn
drawn_to words counts moment = record { words = words; counts = counts; moment = moment }

-- one turn came
pub record IsTurnResult (link : SharedLink) (old new : Drawn) : Type 0 where
  pub turn : FairTurn
  pub old_is : turn.old ≡ old.moment
  pub new_is : turn.new ≡ new.moment
  pub turn_is : IsTurn link old.words turn
  pub left_is : new.words ≡ after_turn old.words turn
  pub counts_are : new.counts ≡ with_turn old.counts turn

-- the words that turns leave
abbrev pub after_turns : (ℕ → ℕ) → List FairTurn → ℕ → ℕ
after_turns words [] = words
after_turns words (turn ∷ turns) = after_turns (after_turn words turn) turns

-- so many turns came since the morning, and this is what is counted of them
pub record AreTurnResults (link : SharedLink) (words left : ℕ → ℕ) (plays : ℕ) (counts : FairTotals)
    (moment : DayState) : Type 0 where
  pub turns : List FairTurn
  pub count : length turns ≡ plays
  pub run : AreTurns link words turns first_moment moment
  pub left_is : left ≡ after_turns words turns
  pub counts_are : counts ≡ counts_of turns moment
