-- The reported units are numbered in their order.
use Rattle.std.proofs.Common.{ℕ, suc, zero, Bool, true, false, not, cond, eqb, ltb, ◌&&◌, ◌||◌, ◌+◌, ◌-◌, ◌<◌, ◌≤◌, ◌≡◌}
use Rattle.std.proofs.Common.{List, [], ◌∷◌, ◌++◌, Option, Some, None, length, sym, ◌∙◌, ap, refl, subst, arith}
use Rattle.std.specs.Option.{is_some, option_map}
use Rattle.std.proofs.Math.Bool.{or-false}
use Rattle.std.proofs.lemmas.Bool.{ltb-true, ltb-false, lt-ltb, eqb-true, ne_eqb, eq-eqb, true≢false, and_from}
use Rattle.std.proofs.lemmas.Bool.{cond-true}
use Rattle.mpeg_scan.specs.declared.codes.Code.{Code}
use Rattle.mpeg_scan.specs.declared.tallies.Header.{Header}
use Rattle.mpeg_scan.specs.Tallies.{Tally}
use Rattle.mpeg_scan.specs.declared.units.Unit.{Unit as PictureUnit}
use Rattle.mpeg_scan.specs.StartCodes.{codes_of}
use Rattle.mpeg_scan.specs.CodeFacts.{is_head, is_slice, tally_of, slice_count, film_slice_count, latest_picture}
use Rattle.mpeg_scan.specs.CodeFacts.{picture_count, before_group_of, starts_group, header_of, latest_slice}
use Rattle.mpeg_scan.specs.FilmFaults.{first_refusal, value_fault, second_fault, first_slice_fault}
use Rattle.mpeg_scan.specs.FilmFaults.{count_fault, code_fault, head_fault, left_without_slices}
use Rattle.mpeg_scan.specs.FilmFaults.{first_fault, end_fault, last_fault, latest_fault, refusal_of}
use Rattle.mpeg_scan.specs.Calls.{Call, head_call, slice_call, unit_call, unit_at, unit_end}
use Rattle.mpeg_scan.specs.Calls.{calls_at, calls_of, all_calls}
use Rattle.mpeg_scan.specs.UnitNumbering.{Count, group_of, next_count, counts_after, no_count, AreNumbered}
use Rattle.mpeg_scan.proofs.PartTilingLemmas.{CodeEnds, after-append, raw_calls, ends_at, slice-apart}
use Rattle.mpeg_scan.proofs.PartTilingLemmas.{first_slice-accepted, first-is, calls-nil, ended-none}
use Rattle.mpeg_scan.proofs.ScanStepLemmas.{accepted-older, code-accepted, otherwise-first, otherwise-second}
use Rattle.mpeg_scan.proofs.ScanStepLemmas.{calls-cons, accepted-whole}

-- what codes sum up to: the pictures, all slices, those of the latest unit, the pictures before its group,
-- whether it has its picture, and whether it starts a group
record Sums : Type 0 where
  pictures : ℕ
  all : ℕ
  slices : ℕ
  before : ℕ
  pictured : Bool
  starts : Bool

-- what a count has to do with them
record Agrees (s : Sums) (k : Count) : Type 0 where
  units : s.pictures ≡ k.units + cond s.pictured 1 0
  ended : s.slices ≡ 0 → s.all ≡ k.slices
  open_slice : 0 < s.slices → s.all ≡ k.slices + 1
  held : s.slices ≤ s.all
  group : s.before ≡ cond s.starts k.units k.before_group
  sliced : 0 < s.slices → s.pictured ≡ true

-- ---- the calls, one by one

counts-unit : (k : Count) (u : PictureUnit) → u.first_slice + u.slices ≡ k.slices
    → u.presentation ≡ group_of k u + u.temporal
    → counts_after (Some k) (unit_call u ∷ [])
    ≡ Some (record { units = k.units + 1; slices = k.slices; before_group = group_of k u })
counts-unit k u slices shown =
    ap (λ b. counts_after
    (cond b (Some (record { units = k.units + 1; slices = k.slices; before_group = group_of k u })) None)
    []) (and_from (eqb (u.first_slice + u.slices) k.slices) (eqb u.presentation (group_of k u + u.temporal))
    (eq-eqb (u.first_slice + u.slices) k.slices slices) (eq-eqb u.presentation (group_of k u + u.temporal) shown))

-- the end of a unit
after_unit : Count → Bool → Count
after_unit k starts = record {
  units = k.units + 1;
  slices = k.slices + 1;
  before_group = cond starts k.units k.before_group;
}

-- a unit of the latest slices, numbered in its group
record IsNext (u : PictureUnit) (s : Sums) : Type 0 where
  first : u.first_slice ≡ s.all - s.slices
  slices : u.slices ≡ s.slices
  group : u.starts_group ≡ s.starts
  shown : u.presentation ≡ s.before + u.temporal

unit-counted : {s : Sums} {k : Count} {u : PictureUnit} (from to : ℕ) → Agrees s k → 0 < s.slices → IsNext u s
    → counts_after (Some k) (slice_call from to ∷ unit_call u ∷ []) ≡ Some (after_unit k s.starts)
unfolding after_unit
unit-counted {s} {k} {u} from to agrees some next =
    let grown : Count = record k { slices = k.slices + 1 } in
    let same : group_of grown u ≡ cond s.starts k.units k.before_group =
    ap (λ b. cond b k.units k.before_group) group in
    counts-unit grown u (omega (arith, first, slices, agrees.open_slice some, agrees.held))
    (shown ∙ ap (λ m. m + u.temporal) (agrees.group ∙ sym same))
    ∙ ap (λ m. Some (record { units = k.units + 1; slices = k.slices + 1; before_group = m })) same
  where
    open next use {first, slices, group, shown}

-- the sums before the head of a unit that is to come
abbrev unit_ended : Sums → Sums
unit_ended s = record s { slices = 0; pictured = false; starts = false }

unit-agrees : {s : Sums} {k : Count} → Agrees s k → 0 < s.slices → Agrees (unit_ended s) (after_unit k s.starts)
unfolding after_unit
unit-agrees {s} {k} agrees some = record {
  units = agrees.units ∙ ap (λ b. k.units + cond b 1 0) (agrees.sliced some) ∙ omega arith;
  ended = λ none. agrees.open_slice some;
  open_slice = λ more. absurd (omega arith);
  held = omega arith;
  group = agrees.group;
  sliced = λ more. absurd (omega arith);
}

-- in a head without slices
none-agrees : {s : Sums} {k : Count} → Agrees s k → s.slices ≡ 0 → Agrees (record s { slices = 0 }) k
none-agrees agrees none = record {
  units = agrees.units;
  ended = λ e. agrees.ended none;
  open_slice = λ more. absurd (omega arith);
  held = omega arith;
  group = agrees.group;
  sliced = λ more. absurd (omega arith);
}

-- a picture, and a group header, in a head without a picture
picture-agrees : {s : Sums} {k : Count} → Agrees s k → s.slices ≡ 0 → s.pictured ≡ false
    → Agrees (record s { pictures = s.pictures + 1; slices = 0; pictured = true }) k
picture-agrees {s} {k} agrees none bare = record {
  units = ap (λ n. n + 1) (agrees.units ∙ ap (λ b. k.units + cond b 1 0) bare) ∙ omega arith;
  ended = λ e. agrees.ended none;
  open_slice = λ more. absurd (omega arith);
  held = omega arith;
  group = agrees.group;
  sliced = λ more. refl;
}

group-agrees : {s : Sums} {k : Count} → Agrees s k → s.slices ≡ 0 → s.pictured ≡ false
    → Agrees (record s { slices = 0; before = s.pictures; starts = true }) k
group-agrees {s} {k} agrees none bare = record {
  units = agrees.units;
  ended = λ e. agrees.ended none;
  open_slice = λ more. absurd (omega arith);
  held = omega arith;
  group = agrees.units ∙ ap (λ b. k.units + cond b 1 0) bare ∙ omega arith;
  sliced = λ more. absurd (omega arith);
}

-- a slice
first-agrees : {s : Sums} {k : Count} → Agrees s k → s.slices ≡ 0 → s.pictured ≡ true
    → Agrees (record s { all = s.all + 1; slices = s.slices + 1 }) k
first-agrees agrees none with_picture = record {
  units = agrees.units;
  ended = λ e. absurd (omega arith);
  open_slice = λ more. omega (arith, agrees.ended none);
  held = omega (arith, agrees.held);
  group = agrees.group;
  sliced = λ more. with_picture;
}

later-agrees : {s : Sums} {k : Count} → Agrees s k → 0 < s.slices
    → Agrees (record s { all = s.all + 1; slices = s.slices + 1 }) (record k { slices = k.slices + 1 })
later-agrees agrees some = record {
  units = agrees.units;
  ended = λ e. absurd (omega arith);
  open_slice = λ more. omega (arith, agrees.open_slice some);
  held = omega (arith, agrees.held);
  group = agrees.group;
  sliced = λ more. agrees.sliced some;
}

-- ---- one code, over plain values: t0, t3, t8: it is a picture, a sequence header, a group header; t: a
-- slice; q: there were slices

-- the count after these calls agrees with those sums
record Counted (k : Count) (calls : List Call) (s : Sums) : Type 0 where
  count : Count
  count_is : counts_after (Some k) calls ≡ Some count
  agrees : Agrees s count

-- a code that fits what stands before it: s, h: it is a slice, a head code; q, has: the latest unit has slices, a
-- picture
pub record CodeFits (s h q has : Bool) : Type 0 where
  pub apart : s ≡ true → h ≡ false
  pub alone : h ≡ true → q ≡ false → has ≡ false
  pub with_picture : s ≡ true → q ≡ false → has ≡ true

-- the same of a code by all those tests, after codes of these sums
record NextCode (t0 t3 t8 t q : Bool) (s : Sums) : Type 0 where
  fits : CodeFits t (t0 || (t3 || t8)) q s.pictured
  other : t8 ≡ true → t0 ≡ false
  some : q ≡ true → 0 < s.slices
  none : q ≡ false → s.slices ≡ 0

-- the sums after such a code
abbrev sums_next : Bool → Bool → Bool → Bool → Bool → Sums → Sums
sums_next t0 t3 t8 t q s = record {
  pictures = cond t0 (s.pictures + 1) s.pictures;
  all = cond t (s.all + 1) s.all;
  slices = cond (t0 || (t3 || t8)) 0 (cond t (s.slices + 1) s.slices);
  before = cond t8 s.pictures s.before;
  pictured = cond t0 true (cond ((t0 || (t3 || t8)) && q) false s.pictured);
  starts = cond t8 true (cond ((t0 || (t3 || t8)) && q) false s.starts);
}

-- no call, and the calls at a code that ends a unit
no-calls : {s : Sums} {k : Count} → Agrees s k → Counted k [] s
no-calls {k} agrees = record { count = k; count_is = refl; agrees = agrees }

at-unit : {s after : Sums} {k : Count} (here : CodeEnds) → Agrees s k → 0 < s.slices → IsNext here.ended s
    → Agrees after (after_unit k s.starts)
    → Counted k (slice_call here.slice here.place ∷ unit_call here.ended ∷ []) after
at-unit {s} {k} here agrees some next later = record {
  count = after_unit k s.starts;
  count_is = unit-counted here.slice here.place agrees some next;
  agrees = later;
}

raw-count : {t0 t3 t8 t q : Bool} {s : Sums} {k : Count} (here : CodeEnds) → Agrees s k → NextCode t0 t3 t8 t q s
    → IsNext here.ended s
    → Counted k (raw_calls t (t0 || (t3 || t8)) q (not q) here) (sums_next t0 t3 t8 t q s)
raw-count {t0 = true} {t = true} here agrees code next = absurd (true≢false (code.fits.apart refl))
raw-count {t0 = false} {t3 = true} {t = true} here agrees code next = absurd (true≢false (code.fits.apart refl))
raw-count {t0 = false} {t3 = false} {t8 = true} {t = true} here agrees code next =
    absurd (true≢false (code.fits.apart refl))
raw-count {t0 = false} {t3 = false} {t8 = false} {t = true} {q = true} {k} here agrees code next = record {
  count = record k { slices = k.slices + 1 };
  count_is = refl;
  agrees = later-agrees agrees (code.some refl);
}
raw-count {t0 = false} {t3 = false} {t8 = false} {t = true} {q = false} {k} here agrees code next = record {
  count = k;
  count_is = refl;
  agrees = first-agrees agrees (code.none refl) (code.fits.with_picture refl refl);
}
raw-count {t0 = true} {t8 = true} {t = false} here agrees code next = absurd (true≢false (code.other refl))
raw-count {t0 = true} {t8 = false} {t = false} {q = true} here agrees code next =
    at-unit here agrees (code.some refl) next (picture-agrees (unit-agrees agrees (code.some refl)) refl refl)
raw-count {t0 = false} {t3 = true} {t8 = true} {t = false} {q = true} here agrees code next =
    at-unit here agrees (code.some refl) next (group-agrees (unit-agrees agrees (code.some refl)) refl refl)
raw-count {t0 = false} {t3 = false} {t8 = true} {t = false} {q = true} here agrees code next =
    at-unit here agrees (code.some refl) next (group-agrees (unit-agrees agrees (code.some refl)) refl refl)
raw-count {t0 = false} {t3 = true} {t8 = false} {t = false} {q = true} here agrees code next =
    at-unit here agrees (code.some refl) next (unit-agrees agrees (code.some refl))
raw-count {t0 = true} {t8 = false} {t = false} {q = false} here agrees code next =
    no-calls (picture-agrees agrees (code.none refl) (code.fits.alone refl refl))
raw-count {t0 = false} {t3 = true} {t8 = true} {t = false} {q = false} here agrees code next =
    no-calls (group-agrees agrees (code.none refl) (code.fits.alone refl refl))
raw-count {t0 = false} {t3 = false} {t8 = true} {t = false} {q = false} here agrees code next =
    no-calls (group-agrees agrees (code.none refl) (code.fits.alone refl refl))
raw-count {t0 = false} {t3 = true} {t8 = false} {t = false} {q = false} here agrees code next =
    no-calls (none-agrees agrees (code.none refl))
raw-count {t0 = false} {t3 = false} {t8 = false} {t = false} here agrees code next = no-calls agrees

-- ---- all codes

pub some-cond : (t b : Bool) (h : Header) (o : Option Header)
    → is_some (cond t (Some h) (cond b None o)) ≡ cond t true (cond b false (is_some o))
some-cond true b h o = refl
some-cond false true h o = refl
some-cond false false h o = refl

none-or-some : (n : ℕ) → eqb n 0 ≡ not (ltb 0 n)
none-or-some zero = refl
none-or-some (suc n) = ne_eqb (suc n) 0 (λ e. absurd (omega arith)) ∙ sym (ap not (lt-ltb 0 (suc n) (omega arith)))

no-picture : (o : Option Header) → option_map left_without_slices o ≡ None → is_some o ≡ false
no-picture None e = refl
no-picture (Some p) e = absurd (cc)

a-picture : (t : Tally) (place : ℕ) (o : Option Header) → head_fault t place o ≡ None → is_some o ≡ true
a-picture t place None e = absurd (cc)
a-picture t place (Some p) e = refl

pub second-none : (t : Tally) (value : ℕ) → second_fault t value ≡ None → is_head value ≡ true → t.slices ≡ 0
    → is_some t.picture ≡ false
second-none t value e head none =
    no-picture t.picture
    (sym (cond-true (is_head value && eqb t.slices 0) (option_map left_without_slices t.picture) None
    (and_from (is_head value) (eqb t.slices 0) head (eq-eqb t.slices 0 none))) ∙ e)

pub first-some : (t : Tally) (place value : ℕ) → first_slice_fault t place value ≡ None → is_slice value ≡ true
    → t.slices ≡ 0 → is_some t.picture ≡ true
first-some t place value e slice none =
    a-picture t place t.picture
    (sym (cond-true (is_slice value && eqb t.slices 0) (head_fault t place t.picture) None
    (and_from (is_slice value) (eqb t.slices 0) slice (eq-eqb t.slices 0 none))) ∙ e)

pub second-accepted : (t : Tally) (place value : ℕ) → code_fault t place value ≡ None → second_fault t value ≡ None
second-accepted t place value e =
    otherwise-first (second_fault t value) (first_refusal (first_slice_fault t place value) (count_fault t place value))
    (otherwise-second (value_fault t place value)
    (first_refusal (second_fault t value)
    (first_refusal (first_slice_fault t place value) (count_fault t place value))) e)

-- what these codes sum up to
abbrev sums_of : List Code → Sums
sums_of past = record {
  pictures = picture_count past;
  all = film_slice_count past;
  slices = slice_count past;
  before = before_group_of past;
  pictured = is_some (latest_picture past);
  starts = starts_group past;
}

pub empty-count : (n : ℕ) → ltb 0 n ≡ false → n ≡ 0
empty-count n h = let none = ltb-false 0 n h in omega arith

pub code-fits : (c d : Code) (past : List Code) → code_fault (tally_of (d ∷ past)) c.place c.value ≡ None
    → CodeFits (is_slice c.value) (is_head c.value) (ltb 0 (slice_count (d ∷ past)))
    (is_some (latest_picture (d ∷ past)))
code-fits c d past e =
    let t = tally_of (d ∷ past) in
    record {
      apart = slice-apart c.value;
      alone = λ head bare. second-none t c.value (second-accepted t c.place c.value e) head
          (empty-count (slice_count (d ∷ past)) bare);
      with_picture =
          λ slice bare. first-some t c.place c.value (first_slice-accepted t c.place c.value e) slice
          (empty-count (slice_count (d ∷ past)) bare);
    }

code-count : (c d : Code) (past : List Code) (k : Count)
    → code_fault (tally_of (d ∷ past)) c.place c.value ≡ None → Agrees (sums_of (d ∷ past)) k
    → Counted k (calls_at (tally_of (d ∷ past)) c.place c.value) (sums_of (c ∷ (d ∷ past)))
unfolding calls_at
code-count c d past k e agrees =
    let older : List Code = d ∷ past in
    let t = tally_of older in
    let n = slice_count older in
    let q = ltb 0 n in
    let u = unit_at t c.place in
    let s : Sums = sums_of (c ∷ older) in
    let code : NextCode (eqb c.value 0) (eqb c.value 0xb3) (eqb c.value 0xb8) (is_slice c.value) q (sums_of older) =
    record {
      fits = code-fits c d past e;
      other = λ group. ap (λ m. eqb m 0) (eqb-true c.value 0xb8 group);
      some = ltb-true 0 n;
      none = empty-count n;
    } in
    let next : IsNext u (sums_of older) = record { first = refl; slices = refl; group = refl; shown = refl } in
    let raw = raw-count (ends_at t c.place) agrees code next in
    let calls : List Call =
    cond (is_slice c.value) (cond (not q) (head_call t.unit c.place ∷ []) (slice_call t.slice c.place ∷ []))
    (cond (is_head c.value && q) (slice_call t.slice c.place ∷ unit_call u ∷ []) []) in
    let rest : Bool = cond (is_head c.value && q) false (starts_group older) in
    let with_picture =
    subst (λ b. Counted k calls (record s { pictured = b; starts = cond (eqb c.value 0xb8) true rest }))
    (sym (some-cond (eqb c.value 0) (is_head c.value && q) (header_of c) (latest_picture older))) raw in
    let with_starts =
    subst (λ b. Counted k calls (record s { starts = cond b true rest })) (sym (or-false (eqb c.value 0xb8)))
    with_picture in
    subst (λ b. Counted k
    (cond (is_slice c.value) (cond b (head_call t.unit c.place ∷ []) (slice_call t.slice c.place ∷ []))
    (cond (is_head c.value && q) (slice_call t.slice c.place ∷ unit_call u ∷ []) [])) s)
    (sym (none-or-some n)) with_starts

-- the sums of one code of a value
abbrev first_sums : Code → ℕ → Sums
first_sums c value = record {
  pictures = cond (eqb value 0) (0 + 1) 0;
  all = cond (is_slice value) (0 + 1) 0;
  slices = cond (is_head value) 0 (cond (is_slice value) (0 + 1) 0);
  before = cond (eqb value 0xb8) 0 0;
  pictured = is_some (cond (eqb value 0) (Some (header_of c)) (cond (true || (is_head value && ltb 0 0)) None None));
  starts = cond (eqb value 0xb8 || true) true (cond (true || (is_head value && ltb 0 0)) false false);
}

first-count : (c : Code) → c.value ≡ 0xb3
    → Counted no_count (calls_at (tally_of []) c.place c.value) (sums_of (c ∷ []))
unfolding calls_at
first-count c is =
    subst (λ m. Counted no_count
    (cond (is_slice m) (cond (eqb 0 0) (head_call 0 c.place ∷ []) (slice_call 0 c.place ∷ []))
    (cond (is_head m && ltb 0 0) (unit_end (tally_of []) c.place) [])) (first_sums c m)) (sym is)
    (record {
      count = no_count;
      count_is = refl;
      agrees = record {
        units = refl;
        ended = λ e. refl;
        open_slice = λ more. absurd (omega arith);
        held = omega arith;
        group = refl;
        sliced = λ more. absurd (omega arith);
      };
    })

calls-counted : (c : Code) (past : List Code) → first_fault (c ∷ past) ≡ None
    → Counted no_count (calls_of (c ∷ past)) (sums_of (c ∷ past))
calls-counted c [] accepted =
    let start = first-count c (first-is c accepted) in
    subst (λ (l : List Call). Counted no_count l (sums_of (c ∷ [])))
    (sym (calls-cons c [] ∙ ap (λ (l : List Call). l ++ calls_at (tally_of []) c.place c.value) calls-nil)) start
calls-counted c (d ∷ past) accepted =
    let before = calls-counted d past (accepted-older c (d ∷ past) accepted) in
    let more = code-count c d past before.count (code-accepted c (d ∷ past) accepted) before.agrees in record {
      count = more.count;
      count_is = ap (counts_after (Some no_count)) (calls-cons c (d ∷ past))
          ∙ after-append next_count (Some no_count) (calls_of (d ∷ past))
          (calls_at (tally_of (d ∷ past)) c.place c.value)
          ∙ ap (λ (o : Option Count). counts_after o (calls_at (tally_of (d ∷ past)) c.place c.value)) before.count_is
          ∙ more.count_is;
      agrees = more.agrees;
    }

-- after all reports of a film the count has a unit for each picture
pub record WholeCount (past : List Code) (end : ℕ) : Type 0 where
  pub last : Count
  pub counted : counts_after (Some no_count) (calls_of past ++ unit_end (tally_of past) end) ≡ Some last
  pub units : last.units ≡ picture_count past

whole-count : (past : List Code) (n : ℕ) → first_fault past ≡ None → end_fault past n ≡ None → WholeCount past n
unfolding end_fault after_unit
whole-count [] n accepted ended = absurd (omega (arith, ended-none (tally_of []) ended))
whole-count (c ∷ past) n accepted ended =
    let all : List Code = c ∷ past in
    let some = ended-none (tally_of all) (otherwise-second (latest_fault all n) (last_fault (tally_of all)) ended) in
    let k = calls-counted c past accepted in
    let next : IsNext (unit_at (tally_of all) n) (sums_of all) =
    record { first = refl; slices = refl; group = refl; shown = refl } in
    let end = unit-counted (latest_slice all) n k.agrees some next in record {
      last = after_unit k.count (starts_group all);
      counted = after-append next_count (Some no_count) (calls_of all) (unit_end (tally_of all) n)
          ∙ ap (λ (o : Option Count). counts_after o (unit_end (tally_of all) n)) k.count_is ∙ end;
      units = sym (k.agrees.units ∙ ap (λ b. k.count.units + cond b 1 0) (k.agrees.sliced some));
    }

pub film-count : (r : List ℕ) → refusal_of r ≡ None → WholeCount (codes_of r) (length r)
film-count r e =
    let none = accepted-whole r e in
    whole-count (codes_of r) (length r)
    (otherwise-first (first_fault (codes_of r)) (end_fault (codes_of r) (length r)) none)
    (otherwise-second (first_fault (codes_of r)) (end_fault (codes_of r) (length r)) none)

-- the units of an accepted film are numbered as they come
pub film-numbered : (r : List ℕ) → refusal_of r ≡ None → AreNumbered (all_calls r)
film-numbered r e = ap is_some (film-count r e).counted
