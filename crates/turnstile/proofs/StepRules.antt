-- Each kind of step keeps the invariant.
use Rattle.std.proofs.Common.{◌≡◌, ◌≢◌, ◌⊎◌, ℕ, ◌+◌, ◌%◌, ◌^◌, ◌<◌, ◌≤◌, List, [], ◌∷◌, ◌++◌, length, set, get_or}
use Rattle.std.proofs.Common.{Option, Some, false, refl, ap, sym, ◌∙◌, subst, ⊎_elim, inl, inr, arith, length-append}
use mathlib.Core.Logic.{dite}
use mathlib.Core.List.{IsPrefix}
use mathlib.Core.Option.{some, none}
use mathlib.Core.Option as maybe
use native.Mathlib.Decide.{ℕ_discrete}
use lib.ListN.{get_elem?}
use lib.Seq.{set-get_or}
use Rattle.atomic_table.specs.Table.{State, Me, put_back, rest, keeps, takes, gives, Allows}
use Rattle.atomic_table.proofs.Lists.{set_again, one_turn}
use Rattle.admission.specs.declared.entries.Entry.{Entry}
use Rattle.turnstile.specs.declared.view.Joined.{Joined}
use Rattle.turnstile.specs.declared.view.PassStage.{PassStage}
use Rattle.turnstile.specs.declared.view.PassStage.TheVariants.{Idle, Waits, Holds}
use Rattle.turnstile.specs.declared.view.Terms.{Terms}
use Rattle.turnstile.specs.declared.view.View.{View}
use Rattle.admission.specs.Makers.{entries_by}
use Rattle.turnstile.specs.TurnRule.{LockState, words_of, pass_count, ticket_count, IsTicket, InTurn, Fits}
use Rattle.turnstile.specs.TurnRule.{Apart, IsAway, IsHome, IsRuled}
use Rattle.turnstile.specs.TableSeats.{IsFree, IsSeated}
use Rattle.atomic_table.specs.Seated.{TableId}
use Rattle.atomic_table.specs.declared.shared.Seat.{Seat}
use Rattle.turnstile.specs.Steps.{HasDrawn, HasLooked, HasCounted, HasLeft, HasTaken, HasRead}
use Rattle.turnstile.specs.Steps.{IsTurn, IsWaiting, slot_list}
use Rattle.turnstile.proofs.Prefixes.{prefix_self, prefix_trans, prefix_longer, made_other}
use Rattle.turnstile.proofs.PassSums.{total_set, tickets_total, one_or_none}
use Rattle.turnstile.proofs.LivePasses.{lives, tickets_of, ticket_or, Free, idle_free, waits_free, ticket_low}
use Rattle.turnstile.proofs.LivePasses.{turn_more, turn_next, apart_both, one_at, Live, holder_of, not_holder, Both}
use Rattle.turnstile.proofs.LivePasses.{first_set, live_set, live_here, live_else}

-- what a turnstile reads of the values that it keeps, and what stays of its own
pub record KeptValue : Type 1 where
  pub B : Type 0
  pub entries : B → List Entry
  pub terms_of : B → Terms
  pub terms : Terms

-- by one of the values, whose own it keeps
abbrev pub kept_by : {B : Type 0} (entries : B → List Entry) (terms_of : B → Terms) → B → KeptValue
kept_by {B} entries terms_of value = record { B = B; entries = entries; terms_of = terms_of; terms = terms_of value }

module _ (kept : KeptValue) where
  open kept use {B, entries, terms_of, terms}

  abbrev pub St : Type 0
  St = State (Option B) View

  abbrev pub Homes : Type 0
  Homes = List (maybe.Option (Option B))

  abbrev pub Rule : St → Type 0
  Rule = IsRuled entries terms_of terms

  abbrev pub Place : List Entry → St → Type 0
  Place log s = IsHome entries terms_of terms log s ⊎ IsAway log s

  -- a live pass of a state that has the invariant
  pub record Pass : Type 0 where
    pub state : St
    pub rule : Rule state
    pub live : Live state.views
    pub open live use *

  -- the pass at a place of such a state
  abbrev pub pass_at : {s : St} {v : View} → Rule s → (id : ℕ) → get_elem? s.views id ≡ some v → v.spent ≡ false → Pass
  pass_at {s} {v} rule id here left =
      record { state = s; rule = rule; live = record { id = id; view = v; is_live = (here, left) } }

  -- it and another pass stand apart
  pub apart_of : (p : Pass) (o : Live p.state.views) → o.id ≢ p.id → Both p.view o.view
  apart_of p o other = (
    p.rule.apart p.id o.id p.view o.view (λ e. other (sym e)) p.is_live o.is_live,
    p.rule.apart o.id p.id o.view p.view other o.is_live p.is_live,
  )

  -- the state after a step of the pass, which leaves it with another view
  pub record Next (p : Pass) : Type 0 where
    pub new : View
    pub lock : LockState
    pub open lock use *
    pub words : List ℕ
    pub homes : Homes
    pub words_are : words ≡ words_of lock
    pub few : (count < 2 ^ 32) × (p.rule.count ≤ count)
    pub queue : served + ticket_count new + p.rule.drawn ≡ drawn + p.rule.served + ticket_count p.view
    pub makers : (m : ℕ) → count < m → entries_by m log ≡ []
    pub fits : new.spent ≡ false → Fits terms lock new
    pub others : (o : Live p.state.views) → o.id ≢ p.id → Fits terms lock o.view
    pub place : Place log record { words = words; homes = homes; views = set p.state.views p.id new }

  abbrev pub next_state : {p : Pass} → Next p → St
  next_state {p} n = record { words = n.words; homes = n.homes; views = set p.state.views p.id n.new }

  -- it has the invariant, if the pass stands apart from each other one still
  unfoldable pub changes : (p : Pass) (n : Next p)
      → (n.new.spent ≡ false → (o : Live p.state.views) → o.id ≢ p.id → Both n.new o.view)
      → (p.view.number ≡ 0 → (n.new.spent ≡ false) × (n.new.number ≡ 0)) → Rule (next_state n)
  changes p n apart keeps_first = record {
    lock = n.lock;
    words = n.words_are;
    few = n.few.0;
    queue =
        (let e = total_set ticket_count views id v w p.is_live.0 in let old = r.queue in let new = n.queue in
        omega arith);
    passes =
        (let e = total_set pass_count views id v w p.is_live.0 in let a = lives v p.is_live.1 in
        let b = one_or_none w in let old = r.passes in let more = n.few.1 in omega arith);
    makers = n.makers;
    each = live_set (λ _ u. Fits terms n.lock u) views id w n.fits
        (λ j u other l. n.others (record { id = j; view = u; is_live = l }) other);
    apart = λ i j x y ne lx ly. live_set (λ i x. i ≢ j → Apart x y) views id w
        (λ left ne. live_set (λ j y. id ≢ j → Apart w y) views id w (λ _ same. absurd (same refl))
        (λ j y other l _. (apart left (record { id = j; view = y; is_live = l }) other).0) j y ly ne)
        (λ i x other l ne. live_set (λ j y. i ≢ j → Apart x y) views id w
        (λ left _. (apart left (record { id = i; view = x; is_live = l }) other).1)
        (λ j y _ k ne. r.apart i j x y ne l k) j y ly ne)
        i x lx ne;
    first_pass = first_set p.live w keeps_first r.first_pass;
    where_is = n.place;
  }
    where
      open p use {id, view as v, rule as r, state.views}
      open n use {new as w}

  -- a step of a pass that stays, with its number
  pub record Stays (p : Pass) (n : Next p) : Type 0 where
    pub left : n.new.spent ≡ false
    pub number : n.new.number ≡ p.view.number
    pub joined : n.new.joined ≡ p.view.joined
    pub tickets : (o : Live p.state.views) → o.id ≢ p.id
        → (t : ℕ) → IsTicket n.new.stage t → IsTicket o.view.stage t → ⊥

  unfoldable pub steps : (p : Pass) (n : Next p) → Stays p n → Rule (next_state n)
  steps p n it = changes p n
      (λ _ o other. apart_both n.new (apart_of p o other) (it.number, it.joined) (it.tickets o other))
      (λ zero. (it.left, it.number ∙ zero))

  -- another pass of the same state
  abbrev pub at : (p : Pass) → Live p.state.views → Pass
  at p o = record { state = p.state; rule = p.rule; live = o }

  pub fits_of : (p : Pass) → Fits terms p.rule.lock p.view
  fits_of p = p.rule.each p.id p.view p.is_live

  -- a pass once the list has an entry more, of another
  longer_list : (p : Pass) (e : Entry) → e.maker ≢ p.view.number
      → ((k : ℕ) (j : Joined) → get_elem? p.view.joined k ≡ some j → e.maker ≢ j.number)
      → Fits terms (record p.rule.lock { log = p.rule.log ++ e ∷ [] }) p.view
  longer_list p e other past = let f = fits_of p in let log = p.rule.log in record {
    knows = record {
      terms_are = f.terms_are;
      seen = prefix_longer p.view.seen log (e ∷ []) f.seen;
      told = f.told;
      mine = f.mine ∙ sym (made_other p.view.number log e other);
      own = f.own;
      past = λ k j at. let p = f.past k j at in
          record { mine = p.mine ∙ sym (made_other j.number log e (past k j at)); few = p.few; other = p.other };
      numbers = f.numbers;
    };
    turn = f.turn;
  }

  -- the value stays where it is when a pass changes that has the lock neither before nor after
  pub place_other : (p : Pass) (w : View) → Free p.view.stage → Free w.stage → (words : List ℕ)
      → Place p.rule.log record { words = words; homes = p.state.homes; views = set p.state.views p.id w }
  place_other p w idle next words = ⊎_elim
      (λ (h : IsHome entries terms_of terms p.rule.log p.state). inl (record {
        value = h.value;
        home = h.home;
        log_is = h.log_is;
        terms_are = h.terms_are;
        free = live_set (λ _ u. Free u.stage) p.state.views p.id w (λ _. next) (λ j u _ l. h.free j u l);
      }))
      (λ (a : IsAway p.rule.log p.state).
      let moved = live_else (holder_of a).live p.id w (not_holder (holder_of a) p.live idle) in inr (record {
        home = a.home;
        place = a.place;
        holder = a.holder;
        ticket = a.ticket;
        live = moved.is_live;
        holds = a.holds;
        all = a.all;
      }))
      p.rule.where_is

  unmoved : (p : Pass) (i : ℕ)
      → Rule record {
        words = set p.state.words i (get_or p.state.words i 0);
        homes = p.state.homes;
        views = set p.state.views p.id p.view;
      }
  unmoved p i = let s = p.state in
      subst (λ (x : List ℕ × List View). Rule record { words = x.0; homes = s.homes; views = x.1 })
      (λ k. (sym (set-get_or s.words i 0) k, sym (set_again s.views p.id p.view p.is_live.0) k)) p.rule

  -- what a pass owes to the table before it makes a step at a word of it
  abbrev pub at_word : {id : TableId} {seat : Seat (Option B) View} {A : Type 0} → IsSeated id seat → (word : ℕ)
      → word < 3 → A → (seat.table_id ≡ id) × (word < id.words) × A
  at_word seat word low allowed = (seat.here, let words = seat.sized.words in omega arith, allowed)

  pub reads : (id slots : ℕ) (me : Me (Option B) View) → me.0.spent ≡ false
      → Allows Rule slots id me 0 (λ n. n) (HasRead me)
  reads id slots me left s r deep here low =
      let p : Pass = pass_at r id here left in
      let f = fits_of p in (
        me.0,
        keeps,
        tt,
        unmoved p 0,
        (refl, record { own = f.own; told = f.told; terms = f.terms_are.1 ∙ sym f.terms_are.0 }),
      )

  -- a pass that rests draws the next ticket
  abbrev drew : (p : Pass) → p.view.stage ≡ Idle → Next p
  drew p idle =
      let q0 : ticket_count v ≡ 0 = tickets_of v left idle in
      let w : View = record v { stage = Waits r.drawn } in
      let q1 : ticket_count w ≡ 1 = tickets_of w {st = Waits r.drawn} left refl in record {
        new = w;
        lock = record r.lock { drawn = r.drawn + 1 };
        words = set s.words 0 ((get_or s.words 0 0 + 1) % 2 ^ 64);
        homes = s.homes;
        words_are = ap (λ (ws : List ℕ). set ws 0 ((get_or ws 0 0 + 1) % 2 ^ 64)) r.words
            ∙ ap (λ (k : ℕ). k ∷ r.served % 2 ^ 64 ∷ length r.log % 2 ^ 64 ∷ []) (omega arith);
        few = (r.few, omega arith);
        queue = omega arith;
        makers = r.makers;
        fits = λ _. record { knows = (fits_of p).knows; turn = (let q = r.queue in omega arith, omega arith) };
        others = λ o other. let f = fits_of (at p o) in
            record { knows = f.knows; turn = turn_more r.served r.drawn o.view.stage f.turn };
        place = place_other p w (idle_free v.stage idle)
            (waits_free (Waits r.drawn) r.drawn refl) (set s.words 0 ((get_or s.words 0 0 + 1) % 2 ^ 64));
      }
    where
      open p use {state as s, rule as r, view as v, is_live.1 as left}

  pub draws : (id slots : ℕ) (me : Me (Option B) View) → IsFree me
      → Allows Rule slots id me 0 (λ n. (n + 1) % 2 ^ 64) (HasDrawn me)
  draws id slots me it s r deep here low =
      let p : Pass = pass_at r id here it.left in (
        record me.0 { stage = Waits r.drawn },
        keeps,
        tt,
        steps p (drew p it.idle) record {
          left = it.left;
          number = refl;
          joined = refl;
          tickets = λ o other t here there.
              let h = ticket_low r.served r.drawn t o.view.stage (fits_of (at p o)).turn there in
              let e : r.drawn ≡ t = here in let z = h.1 in omega arith;
        },
        (r.drawn, ap (λ (ws : List ℕ). get_or ws 0 0) r.words, refl, it.empty),
      )

  -- the ticket of who has the lock is served
  served_here : (p : Pass) {t : ℕ} → p.view.stage ≡ Holds t → (t ≡ p.rule.served) × (t < p.rule.drawn)
  served_here p holds = subst (InTurn p.rule.served p.rule.drawn) holds (fits_of p).turn

  served_ticket : (p : Pass) {t : ℕ} → p.view.stage ≡ Holds t → IsTicket p.view.stage p.rule.served
  served_ticket p holds = subst (λ (st : PassStage). IsTicket st p.rule.served) (sym holds) (served_here p holds).0

  -- who holds a ticket that is served finds the value at home, while nobody has the lock
  at_home : (p : Pass) {t : ℕ} → p.view.stage ≡ Waits t → t ≡ p.rule.served
      → IsHome entries terms_of terms p.rule.log p.state
  at_home p {t} is now = ⊎_elim (λ (h : IsHome entries terms_of terms p.rule.log p.state). h)
      (λ (a : IsAway p.rule.log p.state).
      let holder = holder_of a in
      absurd ((apart_of p holder.live (not_holder holder p.live (waits_free p.view.stage t is))).0.tickets p.rule.served
      (subst (λ (st : PassStage). IsTicket st p.rule.served) (sym is) now) (served_ticket (at p holder.live) a.holds)))
      p.rule.where_is

  -- who has the lock is the holder of the value that is away
  pub holder_here : (p : Pass) {t : ℕ} → p.view.stage ≡ Holds t
      → (p.state.homes ≡ none ∷ []) × (p.view.seen ≡ p.rule.log)
  holder_here p {t} is = ⊎_elim
      (λ (h : IsHome entries terms_of terms p.rule.log p.state). absurd (h.free p.id p.view p.is_live t is))
      (λ (a : IsAway p.rule.log p.state).
      let holder = holder_of a in let same : holder.id ≡ p.id =
      dite (ℕ_discrete holder.id p.id) (λ e. e)
      (λ (ne : holder.id ≢ p.id). absurd ((apart_of p holder.live ne).0.tickets p.rule.served (served_ticket p is)
      (served_ticket (at p holder.live) a.holds))) in
      (a.home, ap (λ (u : View). u.seen) (one_at p.live holder.live same) ∙ a.all))
      p.rule.where_is

  took_fits : (p : Pass) {t : ℕ} → p.view.stage ≡ Waits t → t ≡ p.rule.served
      → (h : IsHome entries terms_of terms p.rule.log p.state)
      → Fits terms p.rule.lock (record p.view { stage = Holds t; seen = entries h.value })
  took_fits p {t} is now h =
      let f = fits_of p in let v = p.view in let low = subst (InTurn p.rule.served p.rule.drawn) is f.turn in record {
        knows = record {
          terms_are = f.terms_are;
          seen = subst (λ (l : List Entry). IsPrefix l p.rule.log) (sym h.log_is) (prefix_self p.rule.log);
          told = subst (IsPrefix v.told) (sym h.log_is) (prefix_trans v.told v.seen p.rule.log f.told f.seen);
          mine = f.mine;
          own = f.mine ∙ ap (entries_by v.number) (sym h.log_is);
          past = f.past;
          numbers = f.numbers;
        };
        turn = (now, low.1);
      }

  -- a pass whose ticket is served takes the lock and the value
  abbrev took : (p : Pass) {t : ℕ} → p.view.stage ≡ Waits t → t ≡ p.rule.served
      → IsHome entries terms_of terms p.rule.log p.state → Next p
  took p {t} is now h =
      let w : View = record v { stage = Holds t; seen = entries h.value } in
      let q0 : ticket_count v ≡ 1 = tickets_of v left is in
      let q1 : ticket_count w ≡ 1 = tickets_of w {st = Holds t} left refl in record {
        new = w;
        lock = r.lock;
        words = set s.words 1 (get_or s.words 1 0);
        homes = set s.homes 0 none;
        words_are = set-get_or s.words 1 0 ∙ r.words;
        few = (r.few, omega arith);
        queue = omega arith;
        makers = r.makers;
        fits = λ _. took_fits p is now h;
        others = λ o _. fits_of (at p o);
        place = inr record {
          home = ap (λ (hs : Homes). set hs 0 none) h.home;
          place = p.id;
          holder = w;
          ticket = t;
          live = (live_here p.live w left).is_live;
          holds = refl;
          all = h.log_is;
        };
      }
    where
      open p use {state as s, rule as r, view as v, is_live.1 as left}

  pub looks : (id slots : ℕ) (me : Me (Option B) View) {ticket : ℕ} → IsWaiting me ticket
      → Allows Rule slots id me 1 (λ n. n) (HasLooked entries terms_of me)
  looks id slots me it s r deep here low = dite (ℕ_discrete (get_or s.words 1 0) (t % 2 ^ 64))
      (λ (hit : get_or s.words 1 0 ≡ t % 2 ^ 64).
      let turn = subst (InTurn r.served r.drawn) is f.turn in
      let same : r.served ≡ t = one_turn r.served t (2 ^ 64) turn.0
      (let queue = r.queue in let few = r.few in let passes = r.passes in let less = tickets_total s.views in
      let drawn = turn.1 in omega arith)
      (sym (ap (λ (ws : List ℕ). get_or ws 1 0) r.words) ∙ hit) in
      let h = at_home p is (sym same) in
      let next : Me (Option B) View =
      (record v { stage = Holds t; seen = entries h.value }, (0, Some h.value) ∷ me.1) in
      let taken : HasTaken entries terms_of t me next = record {
        value = h.value;
        view = refl;
        slot = ap (λ (cs : List (ℕ × Option B)). (0, Some h.value) ∷ cs) it.empty;
        terms = h.terms_are ∙ sym f.terms_are.0;
        longer = subst (IsPrefix v.seen) (sym h.log_is) f.seen;
        own = f.mine ∙ ap (entries_by v.number) (sym h.log_is);
      } in (
        next.0,
        takes 0 (Some h.value),
        ap (λ (hs : Homes). get_elem? hs 0) h.home,
        steps p (took p is (sym same) h) record {
          left = left;
          number = refl;
          joined = refl;
          tickets = λ o other x here. (apart_of p o other).0.tickets x
              (subst (λ (st : PassStage). IsTicket st x) (sym is) here);
        },
        λ u is'. let e = one_ticket u is' in (
          (λ _. subst (λ (x : ℕ). HasTaken entries terms_of x me next) e taken),
          (λ miss. absurd {A = next ≡ me} (miss (hit ∙ ap (λ (x : ℕ). x % 2 ^ 64) e))),
        ),
      ))
      (λ (miss : get_or s.words 1 0 ≢ t % 2 ^ 64). (
        v,
        keeps,
        tt,
        unmoved p 1,
        λ u is'.
            ((λ hit. absurd (miss (hit ∙ ap (λ (x : ℕ). x % 2 ^ 64) (sym (one_ticket u is'))))), (λ _. refl)),
      ))
    where
      open it use {number as t, left, stage as is}

      v : View
      v = me.0

      p : Pass
      p = pass_at r id here left

      f : Fits terms r.lock v
      f = fits_of p

      one_ticket : (u : ℕ) → v.stage ≡ Waits u → t ≡ u
      one_ticket u is' = ap ticket_or (sym is ∙ is')

  -- who has the lock counts an entry of its own
  abbrev counted : (p : Pass) {t : ℕ} → p.view.stage ≡ Holds t → (e : Entry) → e.maker ≡ p.view.number → Next p
  counted p {t} is e own = record {
    new = w;
    lock = record r.lock { log = log };
    words = set s.words 2 ((get_or s.words 2 0 + 1) % 2 ^ 64);
    homes = s.homes;
    words_are = ap (λ (ws : List ℕ). set ws 2 ((get_or ws 2 0 + 1) % 2 ^ 64)) r.words
        ∙ ap (λ (k : ℕ). r.drawn % 2 ^ 64 ∷ r.served % 2 ^ 64 ∷ k ∷ []) (let n = length-append r.log (e ∷ []) in
        omega arith);
    few = (r.few, omega arith);
    queue = omega arith;
    makers = λ m more. made_other m r.log e (λ same. let few = f.numbers.few in omega arith) ∙ r.makers m more;
    fits = λ _. record {
      knows = record {
        terms_are = f.terms_are;
        seen = subst (λ (l : List Entry). IsPrefix l log) (sym all) (prefix_self log);
        told = prefix_longer v.told v.seen (e ∷ []) f.told;
        mine = ap (entries_by v.number) all;
        own = refl;
        past = λ k j at. let p = f.past k j at in record {
          mine = p.mine ∙ sym (made_other j.number r.log e (λ same. p.other (sym same ∙ own)));
          few = p.few;
          other = p.other;
        };
        numbers = f.numbers;
      };
      turn = f.turn;
    };
    others = λ o other. let both = apart_of p o other in
        longer_list (at p o) e (λ same. both.0.numbers (sym own ∙ same))
        (λ k j there same. both.1.past k j there (sym same ∙ own));
    place = inr record {
      home = (holder_here p is).0;
      place = p.id;
      holder = w;
      ticket = t;
      live = (live_here p.live w p.is_live.1).is_live;
      holds = is;
      all = all;
    };
  }
    where
      open p use {state as s, rule as r, view as v}

      w : View
      w = record v { seen = v.seen ++ e ∷ []; mine = entries_by v.number (v.seen ++ e ∷ []) }

      log : List Entry
      log = r.log ++ e ∷ []

      f : Fits terms r.lock v
      f = fits_of p

      all : v.seen ++ e ∷ [] ≡ log
      all = ap (λ (l : List Entry). l ++ e ∷ []) (holder_here p is).1

  pub counts_entry : (id slots : ℕ) (me : Me (Option B) View) → (value : B) × IsTurn me (Some value)
      → (e : Entry) × (slot_list entries me.1 ≡ me.0.seen ++ e ∷ []) × (e.maker ≡ me.0.number)
      → Allows Rule slots id me 2 (λ n. (n + 1) % 2 ^ 64) (HasCounted entries me)
  counts_entry id slots me turn one s r deep here low =
      let it = turn.1 in let e = one.0 in
      let p : Pass = pass_at r id here it.left in
      let n = counted p it.stage e one.2 in (
        n.new,
        keeps,
        tt,
        steps p n
            record {
              left = it.left;
              number = refl;
              joined = refl;
              tickets = λ o other.
                  (apart_of p o other).0.tickets;
            },
        (
          ap (λ (l : List Entry). let w : View = record me.0 { seen = l; mine = entries_by me.0.number l } in w)
              (sym one.1),
          refl,
        ),
      )

  -- who has the lock gives the value back, which is at home again, and passes the lock on
  abbrev gave_back : (p : Pass) (held : List (ℕ × Option B))
      → (value : B) × IsTurn (p.view, held) (Some value) × (entries value ≡ p.view.seen) ×
      (terms_of value ≡ p.view.terms)
      → Next p
  gave_back p held turn =
      let w : View = record v { stage = Idle } in let is = turn.1.stage in
      let q0 : ticket_count v ≡ 1 = tickets_of v left is in
      let q1 : ticket_count w ≡ 0 = tickets_of w {st = Idle} left refl in record {
        new = w;
        lock = record r.lock { served = r.served + 1 };
        words = set s.words 1 ((get_or s.words 1 0 + 1) % 2 ^ 64);
        homes = put_back s.homes held;
        words_are = ap (λ (ws : List ℕ). set ws 1 ((get_or ws 1 0 + 1) % 2 ^ 64)) r.words
            ∙ ap (λ (k : ℕ). r.drawn % 2 ^ 64 ∷ k ∷ length r.log % 2 ^ 64 ∷ []) (omega arith);
        few = (r.few, omega arith);
        queue = omega arith;
        makers = r.makers;
        fits = λ _. record { knows = (fits_of p).knows; turn = tt };
        others = λ o other. let f = fits_of (at p o) in
            record { knows = f.knows; turn = turn_next r.served r.drawn o.view.stage f.turn (not_now o other) };
        place = inl record {
          value = turn.0;
          home = ap (put_back s.homes) turn.1.held
              ∙ ap (λ (hs : Homes). set hs 0 (some (Some turn.0))) (holder_here p is).0;
          log_is = turn.2 ∙ (holder_here p is).1;
          terms_are = turn.3 ∙ (fits_of p).terms_are.0;
          free = live_set (λ _ u. Free u.stage) s.views p.id w (λ _. idle_free Idle refl)
              (λ j u other l x holds. let o : Live s.views = record { id = j; view = u; is_live = l } in
              not_now o other (served_ticket (at p o) holds));
        };
      }
    where
      open p use {state as s, rule as r, view as v, is_live.1 as left}

      not_now : (o : Live s.views) → o.id ≢ p.id → IsTicket o.view.stage r.served → ⊥
      not_now o other = (apart_of p o other).0.tickets r.served (served_ticket p turn.1.stage)

  pub leaves : (id slots : ℕ) (me : Me (Option B) View)
      → (value : B) × IsTurn me (Some value) × (entries value ≡ me.0.seen) × (terms_of value ≡ me.0.terms)
      → Allows Rule slots id me 1 (λ n. (n + 1) % 2 ^ 64) (HasLeft me)
  leaves id slots me turn s r deep here low =
      let p : Pass = pass_at r id here turn.1.left in (
        record me.0 { stage = Idle },
        gives,
        tt,
        steps p (gave_back p me.1 turn)
            record { left = turn.1.left; number = refl; joined = refl; tickets = λ o other x here there. absurd here },
        (refl, ap rest turn.1.held),
      )
