-- Clients that are passed over one after the other.
use Rattle.std.proofs.lemmas.Grind.{common_steps}
use Rattle.std.proofs.Common.{◌≡◌, ◌<◌, ◌≤◌, ◌+◌, ℕ, List, [], ◌∷◌, ◌++◌, length, map, take, drop, set, get_or, Option}
use Rattle.std.proofs.Common.{Some, None, arith, refl, sym, ap, subst, ◌∙◌}
use Rattle.std.specs.Prelude.{sum_by, IfNone, IfSome}
use Rattle.std.proofs.lemmas.Bool.{cases_eq}
use Rattle.std.proofs.lemmas.List.{append_assoc, append-nil, ext_get_or, get_or-map, get_or-set_other, get_or-set_same}
use Rattle.std.proofs.lemmas.List.{length-map, length-set, length-take, map-set, take_at, take_more}
use Rattle.admission.specs.declared.entries.Entry.{Entry}
use Rattle.day_run.proofs.JournalStepLemmas.{set-at, timed-set, halted-now, open-halt, booked-halt, booked-same}
use Rattle.day_run.proofs.JournalStepLemmas.{going-set}
use Rattle.day_script.proofs.Places.{Place}
use Rattle.day_run.specs.declared.clients.Client.{Client}
use Rattle.day_run.specs.declared.clients.Client.TheVariants as clients
use Rattle.day_run.specs.declared.clients.HaltedPlays.{HaltedPlays}
use Rattle.day_run.specs.Clients.{AreSteps, AreTimed, AreUndone, IsStep, IsTimed, IsUndone, halts_of, state_of}
use Rattle.day_run.specs.Clients.{AreBooked, AreOnBook, IsHaltOf, IsSameBook, halt_for, state_for}
use Rattle.day_run.specs.Days.{at_slot, done_halt, halt_entries, entry_by}
use Rattle.day_run.specs.ClientStates.{ClientState, Idle, after_play, after_sending, sent_between}
use Rattle.admission.specs.declared.entries.Answer.TheVariants.{Halted}
use Rattle.admission.specs.declared.entries.Command.TheVariants as commands
use Rattle.admission.specs.Books.{Journal}
use Rattle.admission.specs.Histories.{state_after}
use Rattle.day_run.specs.declared.clients.Halt.{Halt}

-- ---- clients that are passed over one after the other
-- the clients before a place were changed so, and those from it on weren't
pub record IsSwept (f : ClientState → ClientState) (upto : ℕ) (old new : List ClientState) : Type 0 where
  pub count : length new ≡ length old
  pub past : (c : ℕ) → c < upto → c < length old → get_or new c Idle ≡ f (get_or old c Idle)
  pub later : (c : ℕ) → upto ≤ c → get_or new c Idle ≡ get_or old c Idle

pub swept-set : {f : ClientState → ClientState} {i : ℕ} {old new : List ClientState} → i < length old
    → IsSwept f i old new → IsSwept f (i + 1) old (set new i (f (get_or old i Idle)))
swept-set {f} {i} {old} {new} inside swept = grind (arith, length-set, cases_eq, get_or-set_same, get_or-set_other)

pub swept-all : (f : ClientState → ClientState) (n : ℕ) (old new : List ClientState) → length old ≤ n
    → IsSwept f n old new → new ≡ map f old
swept-all f n old new most swept =
    ext_get_or Idle new (map f old) (swept.count ∙ sym (length-map old f))
    (λ c inside. swept.past c (omega (arith, inside, swept.count, most)) (omega (arith, inside, swept.count))
    ∙ sym (get_or-map f old c Idle Idle (omega (arith, inside, swept.count))))

-- a client in the words of a day
pub state-at : (cs : List Client) (c : ℕ) (none : Client) → c < length cs
    → get_or (map state_of cs) c Idle ≡ state_of (get_or cs c none)
state-at cs c none inside = get_or-map state_of cs c none Idle inside

pub states-set : (cs : List Client) (c : ℕ) (client : Client)
    → map state_of (set cs c client) ≡ set (map state_of cs) c (state_of client)
states-set cs c client = map-set state_of cs c client

-- sums and halts of one client more
pub halt_entries-append : (f : ℕ → ClientState → List Entry) (k : ℕ) (xs ys : List ClientState)
    → halt_entries f k (xs ++ ys) ≡ halt_entries f k xs ++ halt_entries f (k + length xs) ys
halt_entries-append f k [] ys = grind arith
halt_entries-append f k (x ∷ xs) ys = search (
  arith,
  halt_entries-append f (k + 1) xs ys,
  append_assoc (f k x) (halt_entries f (k + 1) xs) (halt_entries f (k + 1 + length xs) ys),
)

pub halt_entries-more : (f : ℕ → ClientState → List Entry) (states : List ClientState) (i : ℕ) → i < length states
    → halt_entries f 0 (take (i + 1) states) ≡ halt_entries f 0 (take i states) ++ f i (get_or states i Idle)
halt_entries-more f states i inside = search (
  arith,
  length-take i states,
  take_more states i Idle inside,
  halt_entries-append f 0 (take i states) (get_or states i Idle ∷ []),
  append-nil (f i (get_or states i Idle)),
)

-- the entries of one halt more
pub entries-more : (f : ℕ → ClientState → List Entry) (states : List ClientState) (begun : List Entry) (i : ℕ)
    → i < length states → (begun ++ halt_entries f 0 (take i states)) ++ f i (get_or states i Idle)
    ≡ begun ++ halt_entries f 0 (take (i + 1) states)
entries-more f states begun i inside = search (append_assoc, halt_entries-more)

-- the clients before a place have come to a slot, and those from it on not yet
pub record AreTimedTo (upto slot heard : ℕ) (clients : List Client) : Type 0 where
  pub past : (c : ℕ) (none : Client) → c < upto → c < length clients → IsTimed slot (get_or clients c none)
  pub later : (c : ℕ) (none : Client) → upto ≤ c → c < length clients → IsTimed heard (get_or clients c none)

-- the clients before a place have come from one slot to another
pub record AreStepsTo (upto heard slot : ℕ) (old new : List Client) (sent : ℕ) : Type 0 where
  pub timed : AreTimedTo upto slot heard new
  pub sent_is : sent ≡ sum_by (sent_between heard slot) (take upto (map state_of old))
  pub swept : IsSwept (after_sending slot) upto (map state_of old) (map state_of new)

pub swept-at : {f : ClientState → ClientState} (old cs : List Client) (at : Place cs)
    → IsSwept f at.index (map state_of old) (map state_of cs)
    → get_or (map state_of old) at.index Idle ≡ state_of (get_or cs at.index at.none)
swept-at old cs at swept = sym (swept.later at.index (omega arith)) ∙ state-at cs at.index at.none at.inside

pub swept-inside : (f : ClientState → ClientState) (i : ℕ) (old cs : List Client) → i < length cs
    → IsSwept f i (map state_of old) (map state_of cs) → i < length (map state_of old)
swept-inside f i old cs inside swept = omega (arith, inside, swept.count, length-map cs state_of)

-- a client that is stepped, the next after those that have come to the slot
pub record SteppedClient (heard slot : ℕ) : Type 0 where
  pub old : List Client
  pub clients : List Client
  pub sent : ℕ
  pub at : Place clients
  pub next : Client
  pub bytes : ℕ
  pub to : AreStepsTo at.index heard slot old clients sent
  pub step : IsTimed heard (get_or clients at.index at.none)
      → IsStep heard slot (get_or clients at.index at.none) next bytes

pub steps-next : {heard slot : ℕ} (stepped : SteppedClient heard slot)
    → AreStepsTo (stepped.at.index + 1) heard slot stepped.old
    (set stepped.clients stepped.at.index stepped.next) (stepped.sent + stepped.bytes)
steps-next {heard} {slot} stepped =
    let own = step (to.timed.later i none (omega arith) inside) in
    let is : get_or (map state_of old) i Idle ≡ state_of (get_or cs i none) = swept-at old cs at to.swept in
    let within = swept-inside (after_sending slot) i old cs inside to.swept in
    record {
      timed = record {
        past = λ c any before below.
            set-at (λ (n : ℕ) (x : Client). IsTimed slot x) cs i c next any (λ same. inside) own.timed
            (λ other. to.timed.past c any (omega (arith, before, other)) (omega (arith, below, length-set cs i next)));
        later = search (arith, length-set cs i next, get_or-set_other);
      };
      sent_is = grind (arith, common_steps);
      swept = subst (IsSwept (after_sending slot) (i + 1) (map state_of old))
          (ap (set (map state_of cs) i) (ap (after_sending slot) is ∙ sym own.state) ∙ sym (states-set cs i next))
          (swept-set within to.swept);
    }
  where
    open stepped use {old, clients as cs, at, next, bytes, to, step}
    open at use {index as i, none, inside}

-- the plays of the clients before a place were halted where this asks for it
pub record AreEndedTo (which : HaltedPlays) (slot upto : ℕ) (begun entries : List Entry) (old new : List Client)
    : Type 0 where
  pub timed : AreTimed slot new
  pub entries_are : entries ≡ begun ++ halt_entries (halt_for which slot) 0 (take upto (map state_of old))
  pub swept : IsSwept (state_for which slot) upto (map state_of old) (map state_of new)

-- a list as long as another one is written in its place
written : {X : Type 0} → (n : ℕ) (es xs : List X) → length es ≡ n → take n (es ++ drop (length es) xs) ≡ es
written n es xs same = take_at es (drop (length es) xs) n same

-- clients whose states follow from those of others are as many
as-many : (f : ClientState → ClientState) (old new : List Client) → map state_of new ≡ map f (map state_of old)
    → length new ≡ length old
as-many f old new are = grind (arith, common_steps)

-- a slot as it is taken: all clients are stepped, and then the plays that are done are halted
pub slot-moment : {ys : List Entry} {old xs zs : List Client} {n heard slot : ℕ} (entries : List Entry)
    (ds es : List Client) (sent : ℕ)
    → n ≡ length old → xs ≡ old → zs ≡ take n (ds ++ drop (length ds) old) → heard ≤ slot → AreTimed heard old
    → ((h : ℕ) → h ≤ slot → AreTimed h xs → AreSteps h slot xs ds sent)
    → ((s : ℕ) → AreTimed s zs → ys ≡ entries ++ halt_entries (done_halt s) 0 (map state_of zs))
    → ((s : ℕ) → AreTimed s zs → map state_of es ≡ map (after_play s) (map state_of zs))
    → halt_entries (done_halt slot) 0 (map (after_sending slot) (map state_of old))
    ≡ halt_entries (done_halt slot) 0 (map state_of old)
    → record {
      entries = ys;
      states = map state_of (take n (es ++ drop (length es) (take n (ds ++ drop (length ds) old))));
      heard = slot;
    } ≡ at_slot (record { entries = entries; states = map state_of old; heard = heard }) slot
slot-moment entries ds es sent count same zs-are le timed stepped ended left quiet = search (arith, as-many, written)

-- ---- the plays of clients that are halted one after the other
-- the plays of the clients before a place were halted where this is asked for, and all is sound
pub record AreHaltedTo (which : HaltedPlays) (upto : ℕ) (begun book : Journal) (old new : List Client) : Type 0 where
  pub sound : AreOnBook book.entries new
  pub kept : IsSameBook begun book
  pub undone : AreUndone upto new
  pub ended : (slot : ℕ) → AreTimed slot old → AreEndedTo which slot upto begun.entries book.entries old new

-- what halts leave of a book but its entries
pub record BookGrown (before after : Journal) (made : List Entry) : Type 0 where
  pub steps : after.steps ≡ before.steps
  pub limit : after.limit ≡ before.limit
  pub entries : after.entries ≡ before.entries ++ made

pub book-grown : {before after : Journal} {made : List Entry} (entries : List Entry)
    → after ≡ record before { entries = entries } → entries ≡ before.entries ++ made → BookGrown before after made
book-grown entries is made_are = grind arith

-- a client that is halted, or not
abbrev pub halted_client : Option Halt → Client → Client
halted_client None client = client
halted_client (Some halt) client = clients.Idle

halted-keeps : (P : Client → Type 0) (halt : Option Halt) (client : Client) → P clients.Idle → P client
    → P (halted_client halt client)
halted-keeps P halt client given given' = grind arith

halted-undone : (halt : Option Halt) (client : Client) → IfNone halt (IsUndone client)
    → IsUndone (halted_client halt client)
halted-undone halt client given = grind arith

-- a client that is passed, and its halt, if it has one
pub record PassedClient (which : HaltedPlays) : Type 0 where
  pub before : Journal
  pub after : Journal
  pub clients : List Client
  pub at : Place clients
  pub halt : Option Halt
  pub its : IfSome halt (IsHaltOf (get_or clients at.index at.none))
  pub undone : IfNone halt (IsUndone (get_or clients at.index at.none))
  pub has : (slot : ℕ) → IsTimed slot (get_or clients at.index at.none)
      → halt_for which slot at.index (state_of (get_or clients at.index at.none)) ≡ halts_of at.index halt
  pub goes : (slot : ℕ) → IsTimed slot (get_or clients at.index at.none)
      → state_for which slot (state_of (get_or clients at.index at.none))
      ≡ state_of (halted_client halt (get_or clients at.index at.none))
  pub grown : BookGrown before after (halts_of at.index halt)

-- what it is then
abbrev pub next_of : {which : HaltedPlays} → PassedClient which → Client
next_of passed = halted_client passed.halt (get_or passed.clients passed.at.index passed.at.none)

passed-booked : {which : HaltedPlays} (passed : PassedClient which) → AreOnBook passed.before.entries passed.clients
    → AreBooked passed.after.entries (set passed.clients passed.at.index (next_of passed))
passed-booked passed sound = by-halt halt its grown.entries
  where
    open passed use {before, after, clients as cs, at, halt, its, grown}
    open at use {index as place, none, inside}

    by-halt : (h : Option Halt) → IfSome h (IsHaltOf (get_or cs place none))
        → after.entries ≡ before.entries ++ halts_of place h
        → AreBooked after.entries (set cs place (halted_client h (get_or cs place none)))
    by-halt None its is = search (arith, append-nil before.entries, booked-same)
    by-halt (Some h) its is =
        let own = open-halt (get_or cs place none) (record {
          going = sound.going.each place none inside;
          booked = sound.booked.each place none inside;
        }) its in
        subst (λ (l : List Entry). AreBooked l (set cs place clients.Idle)) (sym is)
        (booked-halt (record { xs = before.entries; clients = cs; booked = sound.booked }) place clients.Idle (record {
          e = entry_by place (commands.Halt h.number h.keep) Halted;
          number = h.number;
          keep = h.keep;
          command = refl;
          its = own;
        }) tt)

passed-now : (i : ℕ) (xs ys : List Entry) (halt : Option Halt) → ys ≡ xs ++ halts_of i halt
    → (state_after ys).now ≡ (state_after xs).now
passed-now i xs ys halt given = grind (arith, append-nil, halted-now)

-- it has come to a slot as the sweep asks
passed-ended : {which : HaltedPlays} {old : List Client} (passed : PassedClient which) (begun : List Entry) (slot : ℕ)
    → AreEndedTo which slot passed.at.index begun passed.before.entries old passed.clients
    → AreEndedTo which slot (passed.at.index + 1) begun passed.after.entries old
    (set passed.clients passed.at.index (next_of passed))
passed-ended {which} {old} passed begun slot to =
    let client = get_or cs place none in
    let next = next_of passed in
    let timed : IsTimed slot client = to.timed.each place none inside in
    let is : get_or (map state_of old) place Idle ≡ state_of client = swept-at old cs at to.swept in
    let within = swept-inside (state_for which slot) place old cs inside to.swept in
    let halts = halt_for which slot in
    record {
      timed = timed-set slot cs place next (halted-keeps (IsTimed slot) halt client tt timed) to.timed;
      entries_are = search (arith, entries-more);
      swept = subst (IsSwept (state_for which slot) (place + 1) (map state_of old))
          (ap (set (map state_of cs) place) (ap (state_for which slot) is ∙ goes slot timed)
          ∙ sym (states-set cs place next)) (swept-set within to.swept);
    }
  where
    open passed use {before, clients as cs, at, halt, has, goes, grown}
    open at use {index as place, none, inside}

-- one client more
pub passed-next : {which : HaltedPlays} {begun : Journal} {old : List Client} (passed : PassedClient which)
    → AreHaltedTo which passed.at.index begun passed.before old passed.clients
    → AreHaltedTo which (passed.at.index + 1) begun passed.after old
    (set passed.clients passed.at.index (next_of passed))
passed-next {which} {begun} {old} passed to =
    let client = get_or cs place none in
    let next = next_of passed in
    record {
      sound = search (arith, passed-booked passed to.sound, going-set);
      kept = search (passed-now place before.entries after.entries halt grown.entries);
      undone = record {
        each = λ c any below.
            set-at (λ (n : ℕ) (x : Client). IsUndone x) cs place c next any (λ same. inside)
            (halted-undone halt client undone) (λ other. to.undone.each c any (omega (arith, below, other)));
      };
      ended = λ slot timed. passed-ended passed begun.entries slot (to.ended slot timed);
    }
  where
    open passed use {before, after, clients as cs, at, halt, undone, grown}
    open at use {index as place, none, inside}
