-- The entries of a maker, and what follows from them for the entire history.
use Rattle.std.proofs.Common.{◌≡◌, ◌<◌, ◌+◌, ℕ, zero, suc, eqb, List, [], ◌∷◌, length, get_or, All, Some, map, filter}
use Rattle.std.proofs.Common.{arith, refl, sym, ap, subst, ◌∙◌, inl, inr, eq-eqb}
use Rattle.std.proofs.lemmas.Bool.{cases_Bool, cond-true, cond-false, eqb-true}
use Rattle.std.proofs.lemmas.List.{get_or_default}
use Rattle.std.proofs.lemmas.List.Elements.{All-nil, All-cons, All-head, All-tail, All-weaker}
use Rattle.slot_calendar.specs.Plays.{whole_play}
use Rattle.admission.specs.declared.entries.Entry.{Entry}
use Rattle.admission.specs.Histories.{Halts, IsStillOpen, play_admitted}
use Rattle.admission.specs.Makers.{PlacedEntry, made_from, entries_by, AreHaltsOwn, IsOpenAmong}
use Rattle.admission.proofs.HistoryPrefixes.{no_entry}
use Rattle.admission.proofs.OpenPlays.{halt_at}

-- ---- a maker's entries are entries of the history
pub record IsMade (place maker : ℕ) (xs : List Entry) (p : PlacedEntry) : Type 0 where
  pub at : ℕ
  pub inside : at < length xs
  pub place_is : p.place ≡ place + at
  pub entry_is : p.entry ≡ get_or xs at no_entry
  pub maker_is : p.entry.maker ≡ maker

pub all-made : (place maker : ℕ) (xs : List Entry) → All (IsMade place maker xs) (made_from place maker xs)
all-made place maker [] = All-nil (IsMade place maker [])
all-made place maker (e ∷ rest) =
    let P = IsMade place maker (e ∷ rest) in
    let later : All P (made_from (place + 1) maker rest) =
    All-weaker (IsMade (place + 1) maker rest) P (λ p made. record {
      at = suc made.at;
      inside = omega (arith, made.inside);
      place_is = omega (arith, made.place_is);
      entry_is = made.entry_is;
      maker_is = made.maker_is;
    }) (made_from (place + 1) maker rest) (all-made (place + 1) maker rest) in
    let here : PlacedEntry = record { place = place; entry = e } in
    elim (cases_Bool (eqb e.maker maker)) [
      | inl his ↦ (
          let first : P here =
          record {
            at = 0;
            inside = omega arith;
            place_is = omega arith;
            entry_is = refl;
            maker_is = eqb-true e.maker maker his;
          } in
          subst (All P)
          (sym (cond-true (eqb e.maker maker) (here ∷ made_from (place + 1) maker rest)
          (made_from (place + 1) maker rest) his))
          (All-cons P here (made_from (place + 1) maker rest) first later)
          )
      | inr other ↦
          subst (All P)
          (sym (cond-false (eqb e.maker maker) (here ∷ made_from (place + 1) maker rest)
          (made_from (place + 1) maker rest) other)) later
    ]

-- the entries alone, and where each stands
pub made-entries : (place maker : ℕ) (xs : List Entry)
    → map (λ p. p.entry) (made_from place maker xs) ≡ filter (λ e. eqb e.maker maker) xs
made-entries place maker [] = refl
made-entries place maker (e ∷ rest) =
    let more = made_from (place + 1) maker rest in
    let here : PlacedEntry = record { place = place; entry = e } in
    let others = filter (λ (x : Entry). eqb x.maker maker) rest in
    let later : map (λ p. p.entry) more ≡ others = made-entries (place + 1) maker rest in
    elim (cases_Bool (eqb e.maker maker)) [
      | inl his ↦ ap (map (λ (p : PlacedEntry). p.entry)) (cond-true (eqb e.maker maker) (here ∷ more) more his)
          ∙ ap (λ es. e ∷ es) later ∙ sym (cond-true (eqb e.maker maker) (e ∷ others) others his)
      | inr other ↦ ap (map (λ (p : PlacedEntry). p.entry)) (cond-false (eqb e.maker maker) (here ∷ more) more other)
          ∙ later ∙ sym (cond-false (eqb e.maker maker) (e ∷ others) others other)
    ]

pub made-places : (maker : ℕ) (xs : List Entry)
    → All (λ p. (p.place < length xs) × ((none : Entry) → get_or xs p.place none ≡ p.entry)) (entries_by maker xs)
made-places maker xs =
    All-weaker (IsMade 0 maker xs) (λ p. (p.place < length xs) × ((none : Entry) → get_or xs p.place none ≡ p.entry))
    (λ p made. (
      omega (arith, made.place_is, made.inside),
      λ none.
          let at : p.place ≡ made.at = omega (arith, made.place_is) in
          ap (λ (n : ℕ). get_or xs n none) at ∙ get_or_default xs made.at none no_entry made.inside ∙ sym made.entry_is,
    )) (entries_by maker xs) (all-made 0 maker xs)

-- ---- each entry of a maker is among them
-- entry i is of this maker
record IsMadeBy (maker : ℕ) (xs : List Entry) (i : ℕ) : Type 0 where
  pub inside : i < length xs
  pub own : (get_or xs i no_entry).maker ≡ maker

one-made : {maker : ℕ} (P : PlacedEntry → Type 0) (place : ℕ) (xs : List Entry) (i : ℕ) → All P (made_from place maker
    xs)
    → IsMadeBy maker xs i → P (record { place = place + i; entry = get_or xs i no_entry })
one-made P place [] i all made = absurd (omega (arith, made.inside))
one-made {maker} P place (e ∷ rest) zero all made =
    let here : PlacedEntry = record { place = place; entry = e } in
    let at : place ≡ place + 0 = omega arith in
    let Q : ℕ → Type 0 = λ n. P (record { place = n; entry = e }) in
    let all' = subst (All P)
    (cond-true (eqb e.maker maker) (here ∷ made_from (place + 1) maker rest)
    (made_from (place + 1) maker rest) (eq-eqb e.maker maker made.own)) all in
    subst Q at (All-head P here (made_from (place + 1) maker rest) all')
one-made {maker} P place (e ∷ rest) (suc i) all made =
    let here : PlacedEntry = record { place = place; entry = e } in
    let later : All P (made_from (place + 1) maker rest) = elim (cases_Bool (eqb e.maker maker)) [
      | inl his ↦ All-tail P here (made_from (place + 1) maker rest)
          (subst (All P)
          (cond-true (eqb e.maker maker) (here ∷ made_from (place + 1) maker rest)
          (made_from (place + 1) maker rest) his) all)
      | inr other ↦
          subst (All P)
          (cond-false (eqb e.maker maker) (here ∷ made_from (place + 1) maker rest)
          (made_from (place + 1) maker rest) other) all
    ] in
    let at : place + 1 + i ≡ place + suc i = omega arith in
    let Q : ℕ → Type 0 = λ n. P (record { place = n; entry = get_or rest i no_entry }) in
    subst Q at (one-made P (place + 1) rest i later (record { inside = omega (arith, made.inside); own = made.own }))

-- a play that is open among its maker's entries is open in the history
pub open-own : {xs : List Entry} {number keep : ℕ} (maker : ℕ) → AreHaltsOwn xs
    → IsOpenAmong (entries_by maker xs) number keep → IsStillOpen xs number keep
open-own {xs} {number} maker own open_ =
    let none : PlacedEntry = record { place = 0; entry = no_entry } in
    let made = all-made 0 maker xs open_.index none open_.inside in
    let admits = open_.admission none in
    let at : made.at ≡ number = omega (arith, made.place_is, admits.place_is) in
    let A : Entry → Type 0 = λ e. play_admitted e.command e.answer ≡ Some (whole_play open_.start open_.segments) in
    let inside : number < length xs = omega (arith, at, made.inside) in
    let entry : get_or xs made.at no_entry ≡ get_or xs number no_entry = ap (λ n. get_or xs n no_entry) at in
    let maker_is : (get_or xs number no_entry).maker ≡ maker =
    ap (λ (e : Entry). e.maker) (sym (made.entry_is ∙ entry)) ∙ made.maker_is in
    record {
      start = open_.start;
      segments = open_.segments;
      admission = record {
        inside = inside;
        admitted = λ d. subst A (get_or_default xs number no_entry d inside)
            (subst A (made.entry_is ∙ entry) admits.admitted);
      };
      unhalted = record {
        each = λ i d within halts. (
            let H : Entry → Type 0 = λ e. Halts number e.command in
            let halts' = subst H (get_or_default xs i d no_entry within) halts in
            let halt = halt_at {i = i} no_entry within halts' in
            one-made (λ p. ¬ Halts number p.entry.command) 0 xs i open_.unhalted
            (record { inside = within; own = own.each i number halt.0 no_entry halt.1 ∙ maker_is }) halts'
            );
      };
      small = open_.small;
    }
