-- The slices of an accepted film are those of its slice codes, in their order.
use Rattle.std.proofs.Common.{ℕ, Bool, true, false, cond, eqb, ltb, ◌+◌, ◌<◌, ◌≡◌, ◌⊎◌, ◌↔◌, List, [], ◌∷◌, ◌++◌, None}
use Rattle.std.proofs.Common.{length, sym, ◌∙◌, ap, refl, subst, inl, inr, arith}
use Rattle.std.proofs.lemmas.Bool.{cases_Bool, eqb-true, eq-eqb, ne_eqb, ltb-true, ltb-false, true≢false, false≢true}
use Rattle.std.proofs.lemmas.List.{append-nil}
use Rattle.mpeg_scan.proofs.CodesBeforeLemmas.{slice-value, value-slice}
use Rattle.mpeg_scan.specs.declared.codes.Code.{Code}
use Rattle.mpeg_scan.specs.declared.units.Unit.{Unit as PictureUnit}
use Rattle.mpeg_scan.specs.StartCodes.{read_after, codes_of}
use Rattle.mpeg_scan.specs.CodeFacts.{is_slice, latest_slice, slice_count, tally_of}
use Rattle.mpeg_scan.specs.FilmFaults.{end_fault, first_fault, last_fault, latest_fault}
use Rattle.mpeg_scan.specs.Calls.{calls_at, calls_of, unit_end}
use Rattle.mpeg_scan.specs.Films.{IsFilm, slices_in}
use Rattle.mpeg_scan.specs.CodePlaces.{HasCode, IsCodeAt}
use Rattle.mpeg_scan.specs.StandardUnits.{IsAmong, IsSliceValue, StandsThere, slice_places}
use Rattle.mpeg_scan.proofs.ScanStepLemmas.{otherwise-second, calls-cons, accepted-whole}
use Rattle.mpeg_scan.proofs.PartTilingLemmas.{CodeEnds, ended-none, raw_calls, slice-apart, calls-nil, ends_at}
use Rattle.mpeg_scan.proofs.FilmLemmas.{slices_in-append}
use Rattle.mpeg_scan.proofs.CodePlaceLemmas.{codes-stand}

-- the slice that no call has reported yet, where the latest unit has so many
abbrev pending : ℕ → ℕ → List ℕ
pending n place = cond (eqb n 0) [] (place ∷ [])

pending-some : (n place : ℕ) → 0 < n → pending n place ≡ place ∷ []
pending-some n place some = ap (λ b. cond b [] (place ∷ [])) (ne_eqb n 0 (λ e. absurd (omega (arith, e, some))))

none-count : (n : ℕ) → eqb n 0 ≡ true → ltb 0 n ≡ false
none-count n e = elim (cases_Bool (ltb 0 n)) [
  | inl t ↦ absurd (omega (arith, ltb-true 0 n t, eqb-true n 0 e))
  | inr f ↦ f
]

some-count : (n : ℕ) → eqb n 0 ≡ false → ltb 0 n ≡ true
some-count n e = elim (cases_Bool (ltb 0 n)) [
  | inl t ↦ t
  | inr f ↦ absurd (let none : n ≡ 0 = omega (arith, ltb-false 0 n f) in true≢false (sym (eq-eqb n 0 none) ∙ e))
]

-- tests on the number of slices of the unit: e, q: there are none, there are some
record IsCounted (e q : Bool) (n : ℕ) : Type 0 where
  is : eqb n 0 ≡ e
  none : e ≡ true → q ≡ false
  some : e ≡ false → q ≡ true

-- one code more; s, h: it is a slice, a head code
raw-slices : {s h e q : Bool} {n : ℕ} {places : List ℕ} (here : CodeEnds) (before : List ℕ) → (s ≡ true → h ≡ false)
    → IsCounted e q n → before ++ cond e [] (here.slice ∷ []) ≡ places
    → (before ++ slices_in (raw_calls s h q e here))
    ++ pending (cond h 0 (cond s (n + 1) n)) (cond s here.place (cond h 0 here.slice))
    ≡ cond s (places ++ here.place ∷ []) places
raw-slices {s = true} {h = true} here before apart counted is = absurd (true≢false (apart refl))
raw-slices {s = true} {h = false} {e = true} {n} here before apart counted is =
    ap (λ l. (before ++ []) ++ l) (pending-some (n + 1) here.place (omega arith)) ∙ ap (λ l. l ++ here.place ∷ []) is
raw-slices {s = true} {h = false} {e = false} {n} here before apart counted is =
    ap (λ l. (before ++ here.slice ∷ []) ++ l) (pending-some (n + 1) here.place (omega arith))
    ∙ ap (λ l. l ++ here.place ∷ []) is
raw-slices {s = false} {h = true} {e = true} {q = true} here before apart counted is =
    absurd (true≢false (counted.none refl))
raw-slices {s = false} {h = true} {e = true} {q = false} here before apart counted is = append-nil (before ++ []) ∙ is
raw-slices {s = false} {h = true} {e = false} {q = true} here before apart counted is =
    append-nil (before ++ here.slice ∷ []) ∙ is
raw-slices {s = false} {h = true} {e = false} {q = false} here before apart counted is =
    absurd (false≢true (counted.some refl))
raw-slices {s = false} {h = false} {e} here before apart counted is =
    ap (λ v. (before ++ []) ++ cond v [] (here.slice ∷ [])) counted.is
    ∙ ap (λ l. l ++ cond e [] (here.slice ∷ [])) (append-nil before) ∙ is

step-slices : (c : Code) (past : List Code)
    → slices_in (calls_of past) ++ pending (slice_count past) (latest_slice past) ≡ slice_places past
    → (slices_in (calls_of past) ++ slices_in (calls_at (tally_of past) c.place c.value))
    ++ pending (slice_count (c ∷ past)) (latest_slice (c ∷ past)) ≡ slice_places (c ∷ past)
unfolding calls_at
step-slices c past is =
    let n = slice_count past in
    let counted : IsCounted (eqb n 0) (ltb 0 n) n = record { is = refl; none = none-count n; some = some-count n } in
    raw-slices (ends_at (tally_of past) c.place) (slices_in (calls_of past)) (slice-apart c.value) counted is

calls-slices : (past : List Code) → slices_in (calls_of past) ++ pending (slice_count past)
    (latest_slice past) ≡ slice_places past
calls-slices [] = ap (λ l. slices_in l ++ []) calls-nil
calls-slices (c ∷ past) =
    ap (λ l. l ++ pending (slice_count (c ∷ past)) (latest_slice (c ∷ past)))
    (ap slices_in (calls-cons c past) ∙ slices_in-append (calls_of past) (calls_at (tally_of past) c.place c.value))
    ∙ step-slices c past (calls-slices past)

whole-slices : (past : List Code) (n : ℕ) → end_fault past n ≡ None
    → slices_in (calls_of past ++ unit_end (tally_of past) n) ≡ slice_places past
unfolding end_fault
whole-slices past n ended =
    let some = ended-none (tally_of past) (otherwise-second (latest_fault past n) (last_fault (tally_of past)) ended) in
    slices_in-append (calls_of past) (unit_end (tally_of past) n)
    ∙ ap (λ l. slices_in (calls_of past) ++ l) (sym (pending-some (slice_count past) (latest_slice past) some))
    ∙ calls-slices past

pub film-slices : (bytes : List ℕ) (rate : ℕ) (units : List PictureUnit) (starts : List ℕ)
    → IsFilm bytes rate units starts → starts ≡ slice_places (codes_of (read_after [] bytes))
film-slices bytes rate units starts film =
    let r = read_after [] bytes in
    film.slices ∙ whole-slices (codes_of r) (length r)
    (otherwise-second (first_fault (codes_of r)) (end_fault (codes_of r) (length r)) (accepted-whole r film.accepted))

-- ---- a place is among them exactly where a slice code stands there

among-left : (place : ℕ) (xs ys : List ℕ) → IsAmong place xs → IsAmong place (xs ++ ys)
among-left place [] ys in_ = absurd in_
among-left place (x ∷ xs) ys (inl e) = inl e
among-left place (x ∷ xs) ys (inr r) = inr (among-left place xs ys r)

among-last : (place last : ℕ) (xs : List ℕ) → last ≡ place → IsAmong place (xs ++ last ∷ [])
among-last place last [] e = inl e
among-last place last (x ∷ xs) e = inr (among-last place last xs e)

among-parts : (place last : ℕ) (xs : List ℕ) → IsAmong place (xs ++ last ∷ []) → IsAmong place xs ⊎ (last ≡ place)
among-parts place last [] (inl e) = inr e
among-parts place last [] (inr r) = absurd r
among-parts place last (x ∷ xs) (inl e) = inl (inl e)
among-parts place last (x ∷ xs) (inr r) = elim (among-parts place last xs r) [
  | inl a ↦ inl (inr a)
  | inr e ↦ inr e
]

abbrev ThereIn : List Code → ℕ → Type 0
ThereIn past place = (value : ℕ) × (HasCode place value past × IsSliceValue value)

among-there : (past : List Code) (place : ℕ) → IsAmong place (slice_places past) → ThereIn past place
among-there [] place among = absurd among
among-there (c ∷ past) place among =
    let Among = λ (b : Bool). IsAmong place (cond b (slice_places past ++ c.place ∷ []) (slice_places past)) in
    elim (cases_Bool (is_slice c.value)) [
      | inl slice ↦ elim (among-parts place c.place (slice_places past) (subst Among slice among)) [
        | inl a ↦ (let it = among-there past place a in (it.0, (inr it.1.0, it.1.1)))
        | inr e ↦ (c.value, (inl (e, refl), slice-value c.value slice))
      ]
      | inr other ↦ (let it = among-there past place (subst Among other among) in (it.0, (inr it.1.0, it.1.1)))
    ]

older-among : (b : Bool) (place last : ℕ) (places : List ℕ) → IsAmong place places
    → IsAmong place (cond b (places ++ last ∷ []) places)
older-among true place last places among = among-left place places (last ∷ []) among
older-among false place last places among = among

there-among : (past : List Code) (place value : ℕ) → HasCode place value past → IsSliceValue value
    → IsAmong place (slice_places past)
there-among [] place value has is = absurd has
there-among (c ∷ past) place value (inl new) is =
    let slice : is_slice c.value ≡ true = ap is_slice new.1 ∙ value-slice value is in
    subst (λ b. IsAmong place (cond b (slice_places past ++ c.place ∷ []) (slice_places past))) (sym slice)
    (among-last place c.place (slice_places past) new.0)
there-among (c ∷ past) place value (inr old) is =
    older-among (is_slice c.value) place c.place (slice_places past) (there-among past place value old is)

pub film-slice_codes : (bytes : List ℕ) (rate : ℕ) (units : List PictureUnit) (starts : List ℕ)
    → IsFilm bytes rate units starts → (place : ℕ)
    → IsAmong place starts ↔ StandsThere (IsCodeAt bytes) place IsSliceValue
film-slice_codes bytes rate units starts film place =
    let past = codes_of (read_after [] bytes) in
    let same = film-slices bytes rate units starts film in (
      λ among. let it =
          among-there past place (subst (λ l. IsAmong place l) same among) in
          (it.0, ((codes-stand bytes place it.0).0 it.1.0, it.1.1)),
      λ it. subst (λ l. IsAmong place l) (sym same)
          (there-among past place it.0 ((codes-stand bytes place it.0).1 it.1.0) it.1.1),
    )
