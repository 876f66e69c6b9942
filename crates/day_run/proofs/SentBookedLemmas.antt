-- The halts of a day's journal, and that what is sent in a day's slots is what is booked there.
use Rattle.std.proofs.lemmas.Grind.{common_steps}
use Rattle.std.proofs.Common.{◌≡◌, ◌<◌, ℕ, false, true≢false, List, [], ◌∷◌, ◌++◌, length, get_or, arith, sym, ap}
use Rattle.std.proofs.Common.{subst, ◌∙◌, ◌+◌, inl, inr, zero, suc, ◌≤◌, ◌-◌, All, cond, map, set, Some, refl}
use Rattle.std.proofs.lemmas.Bool.{cases_lt}
use Rattle.std.proofs.lemmas.List.{get_or_append_left, get_or_default, get_or_push, length-append, length-set}
use Rattle.admission.specs.declared.entries.Answer.TheVariants.{Halted}
use Rattle.admission.specs.declared.entries.Command.{Command}
use Rattle.admission.specs.declared.entries.Command.TheVariants.{Halt}
use Rattle.admission.specs.declared.entries.Entry.{Entry}
use Rattle.admission.specs.Histories.{IsHalt, is_halt, Halts, IsUnhalted, open_count, state_after}
use Rattle.day_run.specs.BookingBalance.{AreOwnHalts, IsReady, AreHeldOf, IsBalanced, IsHeld, share_of}
use Rattle.day_run.specs.Days.{entry_by, halt_by, DayState, state_at, booked_up_to, sent_up_to}
use Rattle.std.specs.Prelude.{◌⊎◌, sum_by}
use Rattle.day_run.specs.ClientStates.{Playing, ClientPlay, Idle, Pausing, Paused, ClientState, Rest, booking_of}
use Rattle.day_run.specs.ClientStates.{growth, is_playing, sent_between, sent_by}
use Rattle.day_run.specs.JournalLaws.{IsOpenPlayOf}
use Rattle.slot_calendar.proofs.PlanSlots.{sent-rises}
use Rattle.std.specs.List.{range_with_len}
use Rattle.std.proofs.lemmas.List.Elements.{All-push}
use Rattle.std.proofs.lemmas.List.Sums.{sum_by-append, sum_by-cons, sum_by-set}
use Rattle.slot_calendar.specs.Plays.{Play as Booked, truncated_play, share_at}
use Rattle.admission.specs.declared.entries.Command.TheVariants as commands
use Rattle.admission.specs.Machine.{AdmittedPlay, State, admitted_play, booked_in, halted_play, play_numbered}
use Rattle.admission.specs.Machine.{with_halted}
use Rattle.admission.proofs.PlayLookup.{found-new, found-other, found-push}
use Rattle.admission.proofs.Halts.{all-halted, split}
use Rattle.admission.proofs.HistoryPrefixes.{state-push}
use Rattle.day_run.proofs.JournalStepLemmas.{set-at}
use Rattle.day_run.proofs.SlotTotals.{sum-slots}

-- ---- each halt of a day's journal is of an earlier play of its maker's, also after one more entry
-- a play of this number, which stands in the journal and is the maker's
pub record IsOwnPlay (entries : List Entry) (number owner : ℕ) : Type 0 where
  pub inside : number < length entries
  pub maker : (none : Entry) → (get_or entries number none).maker ≡ owner

-- a journal, and an entry after it that halts a play of its maker's, or none
record NextEntry : Type 0 where
  entries : List Entry
  e : Entry
  halts : AreOwnHalts entries
  is : (number keep : ℕ) → e.command ≡ Halt number keep → IsOwnPlay entries number e.maker

record OwnHalt (entries : List Entry) (i number : ℕ) (maker : ℕ) : Type 0 where
  earlier : number < i
  play : IsOwnPlay entries number maker

found : {i number keep : ℕ} (next : NextEntry) (none : Entry) → IsHalt (next.entries ++ next.e ∷ []) i number keep
    → OwnHalt next.entries i number (get_or (next.entries ++ next.e ∷ []) i none).maker
found {i} {number} {keep} next none halt = elim (cases_lt i (length entries)) [
  | inl before ↦ (
      let same : (d : Entry) → get_or (entries ++ e ∷ []) i d ≡ get_or entries i d = grind (arith, common_steps) in
      let old : IsHalt entries i number keep = search arith in
      let less = halts.earlier i number keep old in
      record {
        earlier = less;
        play = record {
          inside = omega (arith, less, before);
          maker = λ d. sym (halts.own.each i number keep d old)
              ∙ ap (λ (x : Entry). x.maker) (sym (same d))
              ∙ ap (λ (x : Entry). x.maker) (get_or_default (entries ++ e ∷ []) i d none halt.inside);
        };
      }
      )
  | inr after ↦ (
      let n : length (entries ++ e ∷ []) ≡ length entries + 1 = length-append entries (e ∷ []) in
      let at : length entries ≡ i = omega (arith, after, halt.inside, n) in
      let here : (d : Entry) → get_or (entries ++ e ∷ []) i d ≡ e = λ d. get_or_push entries e d i at in
      let play = is number keep (ap (λ (x : Entry). x.command) (sym (here none)) ∙ halt.command_is none) in
      record {
        earlier = omega (arith, play.inside, at);
        play = search arith;
      }
      )
]
  where
    open next use {entries, e, halts, is}

push : (next : NextEntry) → AreOwnHalts (next.entries ++ next.e ∷ [])
push next = record {
  earlier = λ i number keep halt. (found next next.e halt).earlier;
  own = record {
    each = λ i number keep none halt.
        let at = found next none halt in
        sym (ap (λ (x : Entry). x.maker) (get_or_append_left next.entries (next.e ∷ []) none number at.play.inside)
        ∙ at.play.maker none);
  };
}

pub halts-none : (entries : List Entry) (e : Entry) → is_halt e.command ≡ false → AreOwnHalts entries
    → AreOwnHalts (entries ++ e ∷ [])
halts-none entries e no_halt halts =
    push (record {
      entries = entries;
      e = e;
      halts = halts;
      is = λ number keep is. absurd (true≢false (sym (ap is_halt is) ∙ no_halt));
    })

abbrev number_or : ℕ → Command → ℕ
number_or d (Halt number keep) = number
number_or d _ = d

pub halts-push : (entries : List Entry) (c number keep : ℕ) → IsOwnPlay entries number c → AreOwnHalts entries
    → AreOwnHalts (entries ++ halt_by c number keep)
halts-push entries c number keep play halts =
    push (record {
      entries = entries;
      e = entry_by c (Halt number keep) Halted;
      halts = halts;
      is = λ n k is. subst (λ (m : ℕ). IsOwnPlay entries m c) (ap (number_or 0) is) play;
    })

-- ---- each play of a day is halted once, by its own client
-- the halt of a play, where there is one
pub record FoundHalt (entries : List Entry) (number : ℕ) : Type 0 where
  pub place : ℕ
  pub keep : ℕ
  pub halt : IsHalt entries place number keep

record HaltsWith (number : ℕ) (command : Command) : Type 0 where
  keep : ℕ
  is : command ≡ Halt number keep

halts-or : (number : ℕ) (command : Command) → HaltsWith number command ⊎ (Halts number command → ⊥)
halts-or number (Halt that keep) = grind arith
halts-or number _ = inr (λ halts. halts)

pub find-halt : (number : ℕ) (entries : List Entry) → FoundHalt entries number ⊎ IsUnhalted entries number
find-halt number [] = inr (record { each = λ i none inside. absurd (omega (arith, inside)) })
find-halt number (e ∷ entries) = elim (halts-or number e.command) [
  | inl here ↦ inl (record {
    place = zero;
    keep = here.keep;
    halt = record { inside = omega arith; command_is = λ none. here.is };
  })
  | inr apart ↦ elim (find-halt number entries) [
    | inl later ↦ inl (record {
      place = suc later.place;
      keep = later.keep;
      halt = record { inside = omega (arith, later.halt.inside); command_is = later.halt.command_is };
    })
    | inr never ↦ inr (unhalted-more e entries apart never)
  ]
]
  where
    unhalted-more : (e : Entry) (entries : List Entry) → (Halts number e.command → ⊥) → IsUnhalted entries number
        → IsUnhalted (e ∷ entries) number
    unhalted-more e entries apart never = search arith

pub open-own : {m : DayState} {client : ℕ} {play : ClientPlay} → IsReady m → client < 256
    → state_at m client ≡ Playing play → IsOpenPlayOf m.entries client play
open-own {m} {client} {play} ready inside at = search arith

-- ---- plays slot by slot
-- one slot more
pub growth-more : (heard slot : ℕ) (play : Booked) → heard ≤ slot
    → growth heard (slot + 1) play ≡ growth heard slot play + share_at (slot + 1) play
growth-more heard slot play le = search (
  arith,
  sent-rises play.segments play.start (heard + 1) (slot + 1) (omega (arith, le)),
  sent-rises play.segments play.start (slot + 1) (slot + 1 + 1) (omega arith),
)

-- once all that is kept was sent nothing more is booked
pub share-done : (t heard : ℕ) (play : Booked) → heard < t → sent_by play heard ≡ play.keep → share_at t play ≡ 0
share-done t heard play later all = search
    (arith, sent-rises play.segments play.start (heard + 1) t (omega (arith, later)))

between-more : (heard slot : ℕ) (state : ClientState) → heard ≤ slot
    → sent_between heard (slot + 1) state ≡ sent_between heard slot state + share_of (slot + 1) state
between-more heard slot (Playing play) le = growth-more heard slot (booking_of play) le
between-more heard slot (Pausing stop rest) le = growth-more heard slot stop le
between-more heard slot _ le = omega arith

between-none : (heard : ℕ) (state : ClientState) → sent_between heard heard state ≡ 0
between-none heard state = grind arith

sum-parts : (f g h : ClientState → ℕ) → ((s : ClientState) → f s ≡ g s + h s) → (states : List ClientState)
    → sum_by f states ≡ sum_by g states + sum_by h states
sum-parts f g h each [] = refl
sum-parts f g h each (s ∷ states) =
    omega (
      arith,
      each s,
      sum-parts f g h each states,
      sum_by-cons f s states,
      sum_by-cons g s states,
      sum_by-cons h s states,
    )

pub sum-mapped : {X Y : Type 0} (k : X → Y) (f : Y → ℕ) (g : X → ℕ) → ((x : X) → f (k x) ≡ g x) → (xs : List X)
    → sum_by f (map k xs) ≡ sum_by g xs
sum-mapped k f g each [] = refl
sum-mapped k f g each (x ∷ xs) =
    omega (arith, each x, sum-mapped k f g each xs, sum_by-cons f (k x) (map k xs), sum_by-cons g x xs)

pub sum-zero : (f : ClientState → ℕ) → ((s : ClientState) → f s ≡ 0) → (states : List ClientState)
    → sum_by f states ≡ 0
sum-zero f each states = omega (arith, sum-parts f f f (λ s. omega (arith, each s)) states)

pub sum-none : (heard : ℕ) (states : List ClientState) → sum_by (sent_between heard heard) states ≡ 0
sum-none heard states = sum-zero (sent_between heard heard) (between-none heard) states

-- what is sent in the slots after one is what the clients book there
sent-booked : (booked : ℕ → ℕ) (heard n : ℕ) (states : List ClientState)
    → ((t : ℕ) → heard < t → booked t ≡ sum_by (share_of t) states)
    → sum_by (sent_between heard (heard + n)) states ≡ sum_by booked (range_with_len (heard + 1) n)
sent-booked booked heard zero states each = grind (arith, sum-none heard states)
sent-booked booked heard (suc n) states each =
    let to = heard + n in
    let sums : sum_by (sent_between heard (to + 1)) states
    ≡ sum_by (sent_between heard to) states + sum_by (share_of (to + 1)) states =
    sum-parts (sent_between heard (to + 1)) (sent_between heard to) (share_of (to + 1))
    (λ s. between-more heard to s (omega arith)) states in
    let whole : sum_by (sent_between heard (to + 1)) states ≡ sum_by booked (range_with_len (heard + 1) (n + 1)) =
    search
    (arith, sent-booked booked heard n states each, sum-slots booked (heard + 1) n, each (to + 1) (omega arith)) in
    let e : heard + suc n ≡ to + 1 = omega arith in
    let f : suc n ≡ n + 1 = omega arith in
    ap (λ k. sum_by (sent_between heard k) states) e ∙ whole
    ∙ sym (ap (λ k. sum_by booked (range_with_len (heard + 1) k)) f)

pub balanced-sent : (m : DayState) (slot : ℕ) → m.heard ≤ slot → IsBalanced m.entries m.states m.heard
    → sent_up_to m slot ≡ booked_up_to m slot
balanced-sent m slot le balanced =
    let e : m.heard + (slot - m.heard) ≡ slot = omega (arith, le) in
    sym (ap (λ s. sum_by (sent_between m.heard s) m.states) e)
    ∙ sent-booked (booked_in (state_after m.entries)) m.heard (slot - m.heard) m.states balanced.each

-- ---- one entry more
-- a client has no play that is open
abbrev pub IsShut : ClientState → Type 0
IsShut (Playing play) = ⊥
IsShut _ = Unit {0}

-- a client books nothing, and plays nothing
pub record IsFree (state : ClientState) : Type 0 where
  pub shares : (t : ℕ) → share_of t state ≡ 0
  pub shut : is_playing state ≡ false

pub idle-free : {state : ClientState} → state ≡ Idle → IsFree state
idle-free is = record { shares = λ t. ap (share_of t) is; shut = ap is_playing is }

pub paused-free : {state : ClientState} {rest : Rest} → state ≡ Paused rest → IsFree state
paused-free is = record { shares = λ t. ap (share_of t) is; shut = ap is_playing is }

-- one play of the machine counts where it is open, and one client where it plays
abbrev pub open_one : AdmittedPlay → ℕ
open_one h = cond h.is_open 1 0

abbrev pub playing_one : ClientState → ℕ
playing_one state = cond (is_playing state) 1 0

abbrev AreHeld : List Entry → List ClientState → Type 0
AreHeld entries states = (d : ℕ) → d < length states → AreHeldOf entries d (get_or states d Idle)

shut-held : (entries : List Entry) (c : ℕ) (state : ClientState) → IsShut state → AreHeldOf entries c state
shut-held entries c state given = grind arith

maker-more : (entries : List Entry) (e : Entry) (c : ℕ) (play : ClientPlay) → IsHeld entries c play
    → play_numbered play.number (state_after (entries ++ e ∷ [])).held
    ≡ Some (admitted_play play.number play.start play.plan) → IsHeld (entries ++ e ∷ []) c play
maker-more entries e c play its held = grind (arith, length-append entries (e ∷ []), get_or_append_left)

-- what a halt changes of a sum over the plays that the machine holds
sum-halted : {h : AdmittedPlay} (f : AdmittedPlay → ℕ) (number keep : ℕ) (held : List AdmittedPlay)
    → play_numbered number held ≡ Some h
    → sum_by f (with_halted number keep held) + f h ≡ sum_by f held + f (halted_play keep h)
sum-halted {h} f number keep held is =
    let parts = split number held h is in
    let next = halted_play keep h in
    omega (
      arith,
      ap (sum_by f) (parts.becomes keep),
      ap (sum_by f) parts.was,
      sum_by-append f parts.before (next ∷ parts.after),
      sum_by-append f parts.before (h ∷ parts.after),
      sum_by-cons f next parts.after,
      sum_by-cons f h parts.after,
    )

-- a client's play that the machine holds
pub record HeldClient (entries : List Entry) : Type 0 where
  pub c : ℕ
  pub play : ClientPlay
  pub is : IsHeld entries c play

-- what is booked once a play was halted
pub booked-halted : (entries : List Entry) (its : HeldClient entries) (keep t : ℕ)
    → booked_in (state_after (entries ++ halt_by its.c its.play.number keep)) t + share_at t (booking_of its.play)
    ≡ booked_in (state_after entries) t + share_at t (truncated_play its.play.start its.play.plan keep)
booked-halted entries its keep t =
    let play = its.play in
    let held = (state_after entries).held in
    let e = entry_by its.c (commands.Halt play.number keep) Halted in
    let sum = sum-mapped (λ (h : AdmittedPlay). h.play) (share_at t) (λ (h : AdmittedPlay). share_at t h.play)
    (λ h. refl) in
    let pushed : booked_in (state_after (entries ++ e ∷ [])) t
    ≡ sum_by (share_at t) (map (λ (h : AdmittedPlay). h.play) (with_halted play.number keep held)) =
    ap (λ (s : State). booked_in s t) (state-push entries e) in
    omega (
      arith,
      pushed,
      sum held,
      sum (with_halted play.number keep held),
      sum-halted (λ (h : AdmittedPlay). share_at t h.play) play.number keep held its.is.held,
    )

-- one play fewer is open once a play was halted
pub open-less : (entries : List Entry) (its : HeldClient entries) (keep : ℕ)
    → open_count (entries ++ halt_by its.c its.play.number keep) + 1 ≡ open_count entries
open-less entries its keep =
    let e = entry_by its.c (commands.Halt its.play.number keep) Halted in
    let pushed : open_count (entries ++ e ∷ [])
    ≡ sum_by open_one (with_halted its.play.number keep (state_after entries).held) =
    ap (λ (s : State). sum_by open_one s.held) (state-push entries e) in
    omega (arith, pushed, sum-halted open_one its.play.number keep (state_after entries).held its.is.held)

fresh-more : (n m : ℕ) (held : List AdmittedPlay) → n ≤ m → All (λ (h : AdmittedPlay). h.number < n) held
    → All (λ (h : AdmittedPlay). h.number < m) held
fresh-more n m held le all = grind arith

-- a client of a day whose bookings are balanced
pub record BalancedClient (m : DayState) (state : ClientState) : Type 0 where
  pub c : ℕ
  pub inside : c < length m.states
  pub at : get_or m.states c Idle ≡ state
  pub balanced : IsBalanced m.entries m.states m.heard

-- the machine holds its play
abbrev pub its-held : {m : DayState} {play : ClientPlay} → BalancedClient m (Playing play) → HeldClient m.entries
its-held {m} {play} own = record {
  c = own.c;
  play = play;
  is = subst (AreHeldOf m.entries own.c) own.at (own.balanced.held own.c own.inside);
}

-- what a halt leaves of a client's play: the client books what is kept of it
pub record PlayStopped (heard : ℕ) (play : ClientPlay) : Type 0 where
  pub keep : ℕ
  pub next : ClientState
  pub shut : IsShut next
  pub shares : (t : ℕ) → heard < t → share_of t next ≡ share_at t (truncated_play play.start play.plan keep)

-- the machine holds the same plays, all of them with earlier numbers
halted-fresh : (entries : List Entry) (its : HeldClient entries) (keep : ℕ)
    → All (λ (h : AdmittedPlay). h.number < length entries) (state_after entries).held
    → All (λ (h : AdmittedPlay). h.number < length (entries ++ halt_by its.c its.play.number keep))
    (state_after (entries ++ halt_by its.c its.play.number keep)).held
halted-fresh entries its keep fresh = grind (
  arith,
  state-push,
  length-append,
  fresh-more,
  all-halted (λ (h : AdmittedPlay). h.number < length entries) (record {
    state = state_after entries;
    number = its.play.number;
    held = admitted_play its.play.number its.play.start its.play.plan;
    is = its.is.held;
  }) keep its.is.inside fresh,
)

-- what the machine holds for the clients, one of which is set
held-set : (entries : List Entry) (states : List ClientState) (c : ℕ) (next : ClientState)
    → (c < length states) × AreHeldOf entries c next
    → ((d : ℕ) → (d ≡ c → ⊥) → d < length states → AreHeldOf entries d (get_or states d Idle))
    → AreHeld entries (set states c next)
held-set entries states c next here others = λ d within.
    set-at (AreHeldOf entries) states c d next Idle (λ same. here.0) here.1
    (λ other. others d other (omega (arith, within, length-set states c next)))

-- a client's play was halted, and the client books what is kept of it
pub balanced-halt : {m : DayState} {play : ClientPlay} (own : BalancedClient m (Playing play))
    (stop : PlayStopped m.heard play)
    → IsBalanced (m.entries ++ halt_by own.c play.number stop.keep) (set m.states own.c stop.next) m.heard
balanced-halt {m} {play} own stop =
    let its = its-held own in
    let new = m.entries ++ halt_by c play.number keep in
    record {
      each = λ t later.
          let b = booked-halted m.entries its keep t in
          let s = sum_by-set (share_of t) m.states c next Idle inside in
          let was : share_of t (get_or m.states c Idle) ≡ share_at t (booking_of play) = ap (share_of t) at in
          omega (arith, b, s, was, shares t later, balanced.each t later);
      held = held-set new m.states c next (inside, shut-held new c next shut) (λ d other within.
          others d (get_or m.states d Idle) other (balanced.held d within));
      fresh = halted-fresh m.entries its keep balanced.fresh;
      playing = search
          (arith, open-less m.entries its keep, sum_by-set playing_one m.states c next Idle inside);
      halts = search halts-push;
    }
  where
    open own use {c, inside, at, balanced}
    open stop use {keep, next, shut, shares}

    others : (d : ℕ) (state : ClientState) → (d ≡ c → ⊥) → AreHeldOf m.entries d state
        → AreHeldOf (m.entries ++ halt_by c play.number keep) d state
    others d (Playing theirs) other held =
        let e = entry_by c (commands.Halt play.number keep) Halted in
        let apart : play.number ≡ theirs.number → ⊥ = λ same.
        other (sym (held.maker e) ∙ ap (λ k. (get_or m.entries k e).maker) (sym same) ∙ (its-held own).is.maker e) in
        maker-more m.entries e d theirs held
        (ap (λ (x : State). play_numbered theirs.number x.held) (state-push m.entries e)
        ∙ found-other theirs.number play.number keep (state_after m.entries).held apart ∙ held.held)
    others d _ other held = tt

-- an entry that leaves the plays of the machine as they are
same-held : (entries : List Entry) (e : Entry) (c : ℕ) (state : ClientState) → (state_after (entries ++ e ∷ [])).held
    ≡ (state_after entries).held → AreHeldOf entries c state → AreHeldOf (entries ++ e ∷ []) c state
same-held entries e c (Playing play) same its =
    maker-more entries e c play its (ap (play_numbered play.number) same ∙ its.held)
same-held entries e c _ same its = tt

pub balanced-same : (m : DayState) (e : Entry) → (state_after (m.entries ++ e ∷ [])).held ≡ (state_after m.entries).held
    → is_halt e.command ≡ false → IsBalanced m.entries m.states m.heard
    → IsBalanced (m.entries ++ e ∷ []) m.states m.heard
balanced-same m e same no_halt balanced =
    grind (arith, same-held, common_steps, halts-none m.entries e no_halt balanced.halts)

-- an entry by which the machine holds one play more
push-held : (entries : List Entry) (e : Entry) (new : AdmittedPlay) → (state_after (entries ++ e ∷ [])).held
    ≡ (state_after entries).held ++ new ∷ [] → (c : ℕ) (state : ClientState) → AreHeldOf entries c state
    → AreHeldOf (entries ++ e ∷ []) c state
push-held entries e new is c state given = grind (arith, common_steps, found-push)

-- it books its plan
booked-begun : (entries : List Entry) (t : ℕ) (e : Entry) (new : AdmittedPlay)
    → (state_after (entries ++ e ∷ [])).held ≡ (state_after entries).held ++ new ∷ []
    → booked_in (state_after (entries ++ e ∷ [])) t ≡ booked_in (state_after entries) t + share_at t new.play
booked-begun entries t e new is = grind (arith, common_steps)

-- a client's play was admitted
pub record ClientPlayed (entries : List Entry) (c : ℕ) : Type 0 where
  pub play : ClientPlay
  pub e : Entry
  pub number : play.number ≡ length entries
  pub maker : e.maker ≡ c
  pub no_halt : is_halt e.command ≡ false
  pub is : (state_after (entries ++ e ∷ [])).held
      ≡ (state_after entries).held ++ admitted_play play.number play.start play.plan ∷ []

-- the machine holds that play
played-held : {entries : List Entry} {c : ℕ} (played : ClientPlayed entries c)
    → All (λ (h : AdmittedPlay). h.number < length entries) (state_after entries).held
    → IsHeld (entries ++ played.e ∷ []) c played.play
played-held {entries} {c} played fresh =
    record {
      inside = omega (arith, number, length-append entries (e ∷ []));
      maker = grind (arith, common_steps);
      held = search (arith, found-new);
    }
  where
    open played use {play, e, number, maker, is}

-- a client's play was admitted, which booked nothing before
pub balanced-play : {m : DayState} {c : ℕ} (played : ClientPlayed m.entries c) → c < length m.states
    → IsFree (get_or m.states c Idle) → IsBalanced m.entries m.states m.heard
    → IsBalanced (m.entries ++ played.e ∷ []) (set m.states c (Playing played.play)) m.heard
balanced-play {m} {c} played inside free balanced =
    let new = admitted_play play.number play.start play.plan in
    let held = (state_after m.entries).held in
    let ys = m.entries ++ e ∷ [] in
    let n : length ys ≡ length m.entries + 1 = omega (arith, length-append m.entries (e ∷ [])) in
    record {
      each = λ t later.
          let b = booked-begun m.entries t e new is in
          let s = sum_by-set (share_of t) m.states c (Playing play) Idle inside in
          omega (arith, b, s, free.shares t, balanced.each t later);
      held = held-set ys m.states c (Playing play) (inside, played-held played balanced.fresh) (λ d other within.
          push-held m.entries e new is d (get_or m.states d Idle) (balanced.held d within));
      fresh =
          let P : AdmittedPlay → Type 0 = λ h. h.number < length ys in
          subst (All P) (sym is)
          (All-push P held new (fresh-more (length m.entries) (length ys) held (omega (arith, n)) balanced.fresh)
          (omega (arith, number, n)));
      playing = grind (arith, common_steps);
      halts = halts-none m.entries e no_halt balanced.halts;
    }
  where
    open played use {play, e, number, no_halt, is}
