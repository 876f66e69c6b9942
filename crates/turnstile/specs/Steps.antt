-- What each kind of step exposes to its pass.
use Rattle.std.specs.Prelude.{◌≡◌, ◌≢◌, ℕ, ◌+◌, ◌%◌, ◌^◌, true, false, List, [], ◌∷◌, ◌++◌, length}
use Rattle.std.specs.Prelude.{Option, Some, None, if◌then◌else◌, ltb}
use mathlib.Core.List.{IsPrefix}
use Rattle.atomic_table.specs.Table.{Me}
use Rattle.admission.specs.declared.entries.Entry.{Entry}
use Rattle.turnstile.specs.declared.view.Joined.{Joined}
use Rattle.turnstile.specs.declared.view.PassStage.{PassStage}
use Rattle.turnstile.specs.declared.view.PassStage.TheVariants.{Idle, Waits, Holds}
use Rattle.turnstile.specs.declared.view.Terms.{Terms}
use Rattle.turnstile.specs.declared.view.View.{View}
use Rattle.admission.specs.Makers.{entries_by}
use Rattle.turnstile.specs.Passes.{longer_list}

abbrev pub shorter_list : List Entry → List Entry → List Entry
shorter_list xs ys = if (ltb (length xs) (length ys)) then xs else ys

-- the ticket of a stage; 0 where there is none
abbrev pub ticket_of : PassStage → ℕ
ticket_of Idle = 0
ticket_of (Waits t) = t
ticket_of (Holds t) = t

-- the first pass, before any step
abbrev pub first_view : Terms → View
first_view terms = record {
  spent = false;
  number = 0;
  stage = Idle;
  terms = terms;
  seen = [];
  told = [];
  told_terms = terms;
  mine = [];
  splits = 0;
  joined = [];
}

-- a pass after one more split
abbrev pub view_after_split : View → View
view_after_split v = record v { splits = v.splits + 1 }

-- the pass that is split from it
abbrev pub split_view : View → View
split_view v = record (first_view v.terms) { number = v.splits + 1; seen = v.seen }

abbrev pub joined_record : View → Joined
joined_record w = record { number = w.number; mine = w.mine }

-- a pass after another was joined to it
abbrev pub view_after_join : View → View → View
view_after_join v w = record v {
  seen = longer_list v.seen w.seen;
  told = shorter_list v.seen w.seen;
  told_terms = w.terms;
  joined = v.joined ++ joined_record w ∷ w.joined;
}

abbrev pub no_terms : Terms
no_terms = record { steps = []; limit = 0 }

-- what is left of the other
abbrev pub spent_view : View
spent_view = record (first_view no_terms) { spent = true }

-- a pass that reads what it knows
pub record Knows (v : View) : Type 0 where
  pub own : v.mine ≡ entries_by v.number v.seen
  pub told : IsPrefix v.told v.seen
  pub terms : v.told_terms ≡ v.terms

module _ {B : Type 0} (entries : B → List Entry) (terms_of : B → Terms) where
  -- the pass holds the lock with its ticket, and the slot with the value, which begins with all
  -- that it had seen
  pub record HasTaken (t : ℕ) (me next : Me (Option B) View) : Type 0 where
    pub value : B
    pub view : next.0 ≡ record me.0 { stage = Holds t; seen = entries value }
    pub slot : next.1 ≡ (0, Some value) ∷ []
    pub terms : terms_of value ≡ me.0.terms
    pub longer : IsPrefix me.0.seen (entries value)
    pub own : me.0.mine ≡ entries_by me.0.number (entries value)

module _ {B : Type 0} (entries : B → List Entry) where
  abbrev pub value_list : Option B → List Entry
  value_list None = []
  value_list (Some value) = entries value

  -- the list of the value in the slot that was taken last
  abbrev pub slot_list : List (ℕ × Option B) → List Entry
  slot_list [] = []
  slot_list (x ∷ rest) = value_list x.1

module _ {B : Type 0} where
  -- the pass has drawn a ticket, whose turn it waits for
  abbrev pub HasDrawn : Me (Option B) View → ℕ → Me (Option B) View → Type 0
  HasDrawn me n next = (t : ℕ) × (n ≡ t % 2 ^ 64) × (next.0 ≡ record me.0 { stage = Waits t })
      × (next.1 ≡ [])

  -- it has given the slot back and passed the lock on
  abbrev pub HasLeft : Me (Option B) View → ℕ → Me (Option B) View → Type 0
  HasLeft me n next = (next.0 ≡ record me.0 { stage = Idle }) × (next.1 ≡ [])

  -- it has read a word, which leaves it as it is, and exposes what it knows
  abbrev pub HasRead : Me (Option B) View → ℕ → Me (Option B) View → Type 0
  HasRead me n next = (next ≡ me) × Knows me.0

  -- a pass that waits until its ticket is served
  pub record IsWaiting (me : Me (Option B) View) (ticket : ℕ) : Type 0 where
    pub number : ℕ
    pub stage : me.0.stage ≡ Waits number
    pub word : ticket ≡ number % 2 ^ 64
    pub left : me.0.spent ≡ false
    pub empty : me.1 ≡ []

  -- a pass that holds the lock, with this in the slot
  pub record IsTurn (me : Me (Option B) View) (slot : Option B) : Type 0 where
    pub number : ℕ
    pub stage : me.0.stage ≡ Holds number
    pub left : me.0.spent ≡ false
    pub held : me.1 ≡ (0, slot) ∷ []

module _ {B : Type 0} (entries : B → List Entry) where
  -- the pass once the word counts the entries of the value in its slot
  abbrev pub after_counting : Me (Option B) View → Me (Option B) View
  after_counting me = (
    record me.0 {
      seen = slot_list entries me.1;
      mine = entries_by me.0.number (slot_list entries me.1);
    },
    me.1,
  )

  -- the pass has counted the word of the entries by the one that the value in its slot has more
  abbrev pub HasCounted : Me (Option B) View → ℕ → Me (Option B) View → Type 0
  HasCounted me n next = (next.0 ≡ (after_counting me).0) × (next.1 ≡ me.1)

module _ {B : Type 0} (entries : B → List Entry) (terms_of : B → Terms) where
  -- the pass has read which ticket is served: where it is its own, it holds the lock and has the
  -- slot, and else nothing is changed
  abbrev pub HasLooked : Me (Option B) View → ℕ → Me (Option B) View → Type 0
  HasLooked me n next =
      (t : ℕ) → me.0.stage ≡ Waits t → (n ≡ t % 2 ^ 64 → HasTaken entries terms_of t me next)
      × (n ≢ t % 2 ^ 64 → next ≡ me)
