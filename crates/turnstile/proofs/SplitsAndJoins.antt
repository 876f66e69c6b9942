-- Passes that are split and joined keep the invariant, and the first state has it.
use Rattle.std.proofs.Common.{◌≡◌, ◌≢◌, ◌⊎◌, ℕ, zero, suc, ◌+◌, ◌^◌, ◌<◌, ◌≤◌, List, [], ◌∷◌, ◌++◌, length, set, Option}
use Rattle.std.proofs.Common.{Some, Bool, false, refl, ap, sym, ◌∙◌, subst, ⊎_elim, inl, inr, arith, cond, true≢false}
use mathlib.Core.Logic.{dite}
use mathlib.Core.List.{IsPrefix}
use mathlib.Core.Option.{some, some-injective, some-ne-none}
use native.Mathlib.Decide.{dec_le}
use lib.ListN.{get_elem?}
use Rattle.std.proofs.lemmas.Bool.{lt-ltb, le-ltb}
use Rattle.atomic_table.specs.declared.shared.Seat.{Seat}
use Rattle.atomic_table.specs.Table.{Splits, Joins, opening}
use Rattle.atomic_table.proofs.Lists.{set_else, at_longer}
use Rattle.admission.specs.declared.entries.Entry.{Entry}
use Rattle.turnstile.specs.declared.view.Joined.{Joined}
use Rattle.turnstile.specs.declared.view.PassStage.TheVariants.{Idle}
use Rattle.turnstile.specs.declared.view.View.{View}
use Rattle.admission.specs.Makers.{entries_by}
use Rattle.turnstile.specs.TurnRule.{pass_count, ticket_count, IsLive, IsPast, Fits, Apart}
use Rattle.turnstile.specs.TableSeats.{IsFree}
use Rattle.turnstile.specs.Passes.{longer_list}
use Rattle.turnstile.specs.Steps.{shorter_list, first_view, view_after_split, split_view, joined_record}
use Rattle.turnstile.specs.Steps.{view_after_join, spent_view}
use Rattle.turnstile.proofs.Prefixes.{prefix_shorter, made_nothing, made_between, AreSeen}
use Rattle.turnstile.proofs.PassSums.{total_set, total_push}
use Rattle.turnstile.proofs.LivePasses.{tickets_of, idle_free, Free, live_set, live_push, Live, live_else, Both}
use Rattle.turnstile.proofs.StepRules.{KeptValue}
use Rattle.turnstile.proofs.StepRules as step

at_either : {A : Type 0} (xs ys : List A) (k : ℕ) (a : A) → get_elem? (xs ++ ys) k ≡ some a
    → (get_elem? xs k ≡ some a) ⊎ ((i : ℕ) × (get_elem? ys i ≡ some a))
at_either [] ys k a e = inr (k, e)
at_either (x ∷ xs) ys zero a e = inl e
at_either (x ∷ xs) ys (suc k) a e = at_either xs ys k a e

none_there : {A : Type 0} (k : ℕ) (a : A) → get_elem? [] k ≡ some a → ⊥
none_there k a e = some-ne-none a (sym e)

longer_seen : (number : ℕ) (xs ys : List Entry) {log : List Entry} → AreSeen number xs ys log
    → IsPrefix (longer_list xs ys) log × IsPrefix (shorter_list xs ys) (longer_list xs ys)
    × (entries_by number (longer_list xs ys) ≡ entries_by number log)
longer_seen number xs ys {log} seen = dite (dec_le (length ys) (length xs))
    (λ (less : length ys ≤ length xs). subst Longer (sym (le-ltb _ _ less))
    (seen.first, prefix_shorter ys xs log seen.second seen.first less, seen.own))
    (λ no. let less : length xs ≤ length ys = omega arith in
    let h = prefix_shorter xs ys log seen.first seen.second less in
    subst Longer (sym (lt-ltb _ _ (omega arith))) (seen.second, h, made_between number xs seen h))
  where
    Longer : Bool → Type 0
    Longer b = IsPrefix (cond b ys xs) log × IsPrefix (cond b xs ys) (cond b ys xs)
        × (entries_by number (cond b ys xs) ≡ entries_by number log)

-- of two changes at two places either may be the first
set_apart : (views : List View) (i j : ℕ) (v w : View) → j ≢ i → set (set views i v) j w ≡ set (set views j w) i v
set_apart [] i j v w ne = refl
set_apart (x ∷ xs) zero zero v w ne = absurd (ne refl)
set_apart (x ∷ xs) zero (suc j) v w ne = refl
set_apart (x ∷ xs) (suc i) zero v w ne = refl
set_apart (x ∷ xs) (suc i) (suc j) v w ne = ap (λ (l : List View). x ∷ l) (set_apart xs i j v w (λ e. ne (ap suc e)))

-- a fact of each pass that was joined to one
abbrev EachJoined : View → (Joined → Type 0) → Type 0
EachJoined v P = (k : ℕ) (j : Joined) → get_elem? v.joined k ≡ some j → P j

-- a pass that was there when a number was given stands apart from the pass of that number
new_apart : (v u : View) → EachJoined u (λ j. j.number ≤ v.splits) → u.number ≤ v.splits → Both (split_view v) u
new_apart v u past few = (
  record {
    numbers = λ e. absurd (omega arith);
    tickets = λ t here there. absurd here;
    past = λ k j e. absurd (none_there k j e);
  },
  record {
    numbers = λ e. absurd (omega arith);
    tickets = λ t here there. absurd there;
    past = λ k j at e. let a = past k j at in absurd (omega arith);
  },
)

-- a pass that isn't spent and has no ticket, and its place
pub record Resting : Type 0 where
  pub id : ℕ
  pub view : View
  pub left : view.spent ≡ false
  pub idle : view.stage ≡ Idle

-- the pass of a seat that is free
abbrev pub resting : {B : Type 0} (seat : Seat (Option B) View) → IsFree seat.me → Resting
resting seat free = record { id = seat.id; view = seat.me.0; left = free.left; idle = free.idle }

-- what is true for each that was joined to either of two is true for each that the first has then
each_joined : (v w : View) (P : Joined → Type 0) → EachJoined v P → P (joined_record w) → EachJoined w P
    → EachJoined (view_after_join v w) P
each_joined v w P first one second k j at = ⊎_elim (λ (l : get_elem? v.joined k ≡ some j). first k j l)
    (λ (t : (i : ℕ) × (get_elem? (joined_record w ∷ w.joined) i ≡ some j)). among t.0 j t.1)
    (at_either v.joined (joined_record w ∷ w.joined) k j at)
  where
    among : (i : ℕ) (j : Joined) → get_elem? (joined_record w ∷ w.joined) i ≡ some j → P j
    among zero j e = subst P (some-injective (joined_record w) j e) one
    among (suc i) j e = second i j e

-- who stands apart from two passes stands apart from the one that has joined the other
both_join : (v w u : View) → Both v u → Both w u → Both (view_after_join v w) u
both_join v w u a b = (
  record {
    numbers = a.0.numbers;
    tickets = a.0.tickets;
    past = each_joined v w (λ j. j.number ≢ u.number) a.0.past b.0.numbers b.0.past;
  },
  record { numbers = a.1.numbers; tickets = a.1.tickets; past = a.1.past },
)

module _ (kept : KeptValue) where
  open kept use {B, entries, terms_of, terms}

  abbrev Rule : step.St kept → Type 0
  Rule = step.Rule kept

  place_push : (log : List Entry) (s : step.St kept) (x : View) → x.stage ≡ Idle → step.Place kept log s
      → step.Place kept log record { words = s.words; homes = s.homes; views = s.views ++ x ∷ [] }
  place_push log s x idle (inl h) = inl record {
    value = h.value;
    home = h.home;
    log_is = h.log_is;
    terms_are = h.terms_are;
    free = live_push (λ _ u. Free u.stage) s.views x (idle_free x.stage idle) h.free;
  }
  place_push log s x idle (inr a) = inr record {
    home = a.home;
    place = a.place;
    holder = a.holder;
    ticket = a.ticket;
    live = (at_longer s.views (x ∷ []) a.place a.holder a.live.0, a.live.1);
    holds = a.holds;
    all = a.all;
  }

  -- a pass once one more number is given
  one_more : (p : step.Pass kept) (n : ℕ) → (p.view.number ≡ 0 → n ≡ p.rule.count + 1) → (p.view.number ≢ 0 → n ≡ 0)
      → Fits terms (record p.rule.lock { count = p.rule.count + 1 }) (record p.view { splits = n })
  one_more p n first others = let f = step.fits_of kept p in record {
    knows = record {
      terms_are = f.terms_are;
      seen = f.seen;
      told = f.told;
      mine = f.mine;
      own = f.own;
      past = λ k j at. let p = f.past k j at in
          record { mine = p.mine; few = (let a = p.few in omega arith); other = p.other };
      numbers = record { few = (let a = f.numbers.few in omega arith); first = first; others = others };
    };
    turn = f.turn;
  }

  -- the first pass gives one more number
  abbrev numbered : (p : step.Pass kept) → p.view.stage ≡ Idle → p.view.number ≡ 0 → p.view.splits + 1 < 2 ^ 32
      → step.Next kept p
  numbered p idle head few =
      let count = (step.fits_of kept p).numbers.first head in let w : View = view_after_split v in record {
        new = w;
        lock = record r.lock { count = r.count + 1 };
        words = s.words;
        homes = s.homes;
        words_are = r.words;
        few = (omega arith, omega arith);
        queue = omega arith;
        makers = λ m h. r.makers m (omega arith);
        fits = λ _. one_more p (v.splits + 1) (λ _. omega arith) (λ other. absurd (other head));
        others = λ o other. let q = step.at kept p o in
            one_more q o.view.splits (λ e. absurd ((step.apart_of kept p o other).0.numbers (head ∙ sym e)))
            (step.fits_of kept q).numbers.others;
        place = step.place_other kept p w (idle_free v.stage idle) (idle_free v.stage idle) s.words;
      }
    where
      open p use {state as s, rule as r, view as v}

  -- a pass that begins with the number that was given last
  new_fits : (p : step.Pass kept) → p.view.number ≡ 0
      → Fits terms (record p.rule.lock { count = p.rule.count + 1 }) (split_view p.view)
  new_fits p head =
      let f = step.fits_of kept p in let v = p.view in let count = f.numbers.first head in
      let none : entries_by (v.splits + 1) p.rule.log ≡ [] = p.rule.makers (v.splits + 1) (omega arith) in record {
        knows = record {
          terms_are = (f.terms_are.0, f.terms_are.0);
          seen = f.seen;
          told = (v.seen, refl);
          mine = sym none;
          own = sym (made_nothing (v.splits + 1) v.seen p.rule.log f.seen none);
          past = λ k j e. absurd (none_there k j e);
          numbers = record { few = omega arith; first = λ e. absurd (omega arith); others = λ _. refl };
        };
        turn = tt;
      }

  pub splits : (it : Resting) → it.view.number ≡ 0 → it.view.splits + 1 < 2 ^ 32
      → Splits Rule it.id it.view (view_after_split it.view) (split_view it.view)
  unfolding step.changes step.steps
  splits it head few s r at =
      let p : step.Pass kept = step.pass_at kept r id at it.left in
      let f = step.fits_of kept p in let count = f.numbers.first head in
      let w : View = view_after_split v in let x : View = split_view v in let views : List View = set s.views id w in
      let r' = step.steps kept p (numbered p it.idle head few)
      record {
        left = it.left;
        number = refl;
        joined = refl;
        tickets = λ o other.
            (step.apart_of kept p o other).0.tickets;
      } in
      let fresh : (j : ℕ) (u : View) → IsLive views j u → Both x u =
      live_set (λ _ u. Both x u) s.views id w
      (λ _. new_apart v w (λ k j at. let a = (f.past k j at).few in omega arith) (let a = f.numbers.few in omega arith))
      (λ j u _ l. let g = r.each j u l in
      new_apart v u (λ k j at. let a = (g.past k j at).few in omega arith) (let a = g.numbers.few in omega arith)) in
      record {
        lock = r'.lock;
        words = r.words;
        few = r'.few;
        queue = (let more = total_push ticket_count views x in let old = r'.queue in omega arith);
        passes =
            (let more = total_push pass_count views x in let same = total_set pass_count s.views id v w at in
            let equal : pass_count v ≡ pass_count w = refl in let old = r.passes in omega arith);
        makers = r'.makers;
        each = live_push (λ _ u. Fits terms r'.lock u) views x (new_fits p head) r'.each;
        apart = λ i j y z ne ly lz. live_push (λ i y. i ≢ j → Apart y z) views x
            (λ ne. live_push (λ j z. length views ≢ j → Apart x z) views x (λ same. absurd (same refl))
            (λ j z l _. (fresh j z l).0) j z lz ne)
            (λ i y l ne. live_push (λ j z. i ≢ j → Apart y z) views x (λ _. (fresh i y l).1)
            (λ j z k ne. r'.apart i j y z ne l k) j z lz ne)
            i y ly ne;
        first_pass = record {
          place = r'.first_pass.place;
          view = r'.first_pass.view;
          live = (
            at_longer views (x ∷ []) r'.first_pass.place r'.first_pass.view r'.first_pass.live.0,
            r'.first_pass.live.1,
          );
          number_is = r'.first_pass.number_is;
        };
        where_is = place_push r.log (record { words = s.words; homes = s.homes; views = views }) x refl r'.where_is;
      }
    where
      open it use {id, view as v}

  -- a pass goes that has no ticket
  abbrev gone : (p : step.Pass kept) → p.view.stage ≡ Idle → step.Next kept p
  gone p idle = let none : ticket_count p.view ≡ 0 = tickets_of p.view p.is_live.1 idle in record {
    new = spent_view;
    lock = p.rule.lock;
    words = p.state.words;
    homes = p.state.homes;
    words_are = p.rule.words;
    few = (p.rule.few, omega arith);
    queue = omega arith;
    makers = p.rule.makers;
    fits = λ left. absurd (true≢false left);
    others = λ o _. step.fits_of kept (step.at kept p o);
    place = step.place_other kept p spent_view (idle_free p.view.stage idle) (idle_free Idle refl) p.state.words;
  }

  fits_join : (p : step.Pass kept) (o : Live p.state.views) → o.id ≢ p.id
      → Fits terms p.rule.lock (view_after_join p.view o.view)
  fits_join p o other =
      let f = step.fits_of kept p in let g = step.fits_of kept (step.at kept p o) in
      let theirs = (step.apart_of kept p o other).1 in let v = p.view in let w = o.view in
      let h = longer_seen v.number v.seen w.seen record {
        first = f.seen;
        second = g.seen;
        own = sym f.own ∙ f.mine;
      } in record {
        knows = record {
          terms_are = (f.terms_are.0, g.terms_are.0);
          seen = h.0;
          told = h.1;
          mine = f.mine;
          own = f.mine ∙ sym h.2;
          past = each_joined v w (IsPast p.rule.log p.rule.count v.number) f.past
              record { mine = g.mine; few = g.numbers.few; other = theirs.numbers }
              (λ k j at. let q = g.past k j at in record { mine = q.mine; few = q.few; other = theirs.past k j at });
          numbers = f.numbers;
        };
        turn = f.turn;
      }

  pub joins : (rest other_rest : Resting) → other_rest.view.number ≢ 0
      → Joins Rule rest.id rest.view other_rest.id other_rest.view
      (view_after_join rest.view other_rest.view) spent_view
  unfolding step.changes
  joins rest other_rest not_first s r at apart wat =
      let b : View = view_after_join v w in
      let p : step.Pass kept = step.pass_at kept r id at rest.left in
      let o : Live s.views =
      record { id = other; view = w; is_live = (sym (set_else s.views id other b apart) ∙ wat, other_rest.left) } in
      let without = step.changes kept (step.at kept p o) (gone (step.at kept p o) other_rest.idle)
      (λ left. absurd (true≢false left)) (λ first. absurd (not_first first)) in
      let q : step.Pass kept = record {
        state = record { words = s.words; homes = s.homes; views = set s.views other spent_view };
        rule = without;
        live = live_else p.live other spent_view (λ e. apart (sym e));
      } in
      subst (λ (views : List View). Rule record { words = s.words; homes = s.homes; views = views })
      (sym (set_apart s.views id other b spent_view apart))
      (step.changes kept q record {
        new = b;
        lock = r.lock;
        words = s.words;
        homes = s.homes;
        words_are = r.words;
        few = (r.few, omega arith);
        queue = (let same : ticket_count v ≡ ticket_count b = refl in omega arith);
        makers = r.makers;
        fits = λ _. fits_join p o apart;
        others = λ u _. step.fits_of kept (step.at kept q u);
        place = step.place_other kept q b (idle_free v.stage rest.idle) (idle_free v.stage rest.idle) s.words;
      }
      (λ _ u ne. live_set (λ j u. j ≢ id → Both b u) s.views other spent_view (λ left. absurd (true≢false left))
      (λ j u far l near. let it : Live s.views = record { id = j; view = u; is_live = l } in
      both_join v w u (step.apart_of kept p it near) (step.apart_of kept (step.at kept p o) it far))
      u.id u.view u.is_live ne)
      (λ first. (rest.left, first)))
    where
      open rest use {id, view as v}
      open other_rest use {id as other, view as w}

  pub starts : (value : B) → entries value ≡ [] → terms_of value ≡ terms
      → Rule (opening (0 ∷ 0 ∷ 0 ∷ []) (Some value ∷ []) (first_view terms))
  starts value empty same = record {
    lock = record { log = []; count = 0; drawn = 0; served = 0 };
    words = refl;
    few = omega arith;
    queue = omega arith;
    passes = omega arith;
    makers = λ m _. refl;
    each = λ i v live. only
        (λ _ v. Fits terms (record { log = []; count = 0; drawn = 0; served = 0 }) v)
        (record {
          knows = record {
            terms_are = (refl, refl);
            seen = ([], refl);
            told = ([], refl);
            mine = refl;
            own = refl;
            past = λ k j e. absurd (none_there k j e);
            numbers = record { few = omega arith; first = λ _. refl; others = λ _. refl };
          };
          turn = tt;
        })
        i v live;
    apart = λ i j v w ne l k. absurd (ne (only (λ i _. i ≡ 0) refl i v l ∙ sym (only (λ i _. i ≡ 0) refl j w k)));
    first_pass = record { place = 0; view = first_view terms; live = (refl, refl); number_is = refl };
    where_is = inl record {
      value = value;
      home = refl;
      log_is = empty;
      terms_are = same;
      free = λ i v live. only (λ _ v. Free v.stage) (idle_free Idle refl) i v live;
    };
  }
    where
      only : (P : ℕ → View → Type 0) → P 0 (first_view terms) → (i : ℕ) (v : View)
          → IsLive (first_view terms ∷ []) i v → P i v
      only P here zero v live = subst (P 0) (some-injective (first_view terms) v live.0) here
      only P here (suc i) v live = absurd (none_there i v live.0)
