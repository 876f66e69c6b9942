-- The units of an accepted film lie one after another, and have their slices in order.
use Rattle.std.proofs.Common.{◌≡◌, ℕ, zero, suc, ◌+◌, ◌-◌, ◌<◌, ◌≤◌, Bool, true, false, cond, eqb, ltb, leb, ◌&&◌, List}
use Rattle.std.proofs.Common.{[], ◌∷◌, ◌++◌, append_assoc, Some, None, IsSome, length, take, drop, slice_get, refl, sym}
use Rattle.std.proofs.Common.{ap, subst, ◌∙◌, arith, length-append}
use Rattle.std.proofs.lemmas.List.{append-nil}
use Rattle.std.proofs.Math.Seq.{drop-append_seam, take-append_seam}
use Rattle.std.proofs.lemmas.Bool.{and_parts, eqb-true, ltb-true, leb-true}
use Rattle.mpeg_scan.specs.declared.units.TheConstants.{MAX_UNIT_HEAD_BYTES}
use Rattle.mpeg_scan.specs.declared.units.Unit.{Unit as PictureUnit}
use Rattle.mpeg_scan.specs.Calls.{Call, head_call, slice_call, unit_call, all_calls}
use Rattle.mpeg_scan.specs.StartCodes.{read_after, codes_of}
use Rattle.mpeg_scan.specs.UnitNumbering.{Count, counts_after, group_of, no_count}
use Rattle.mpeg_scan.specs.Films.{IsFilm, slices_in, units_in}
use Rattle.mpeg_scan.specs.PartTiling.{PartStart, between, within, first_of, parts_after}
use Rattle.mpeg_scan.proofs.FilmLemmas.{length-read}
use Rattle.mpeg_scan.proofs.UnitNumberingLemmas.{film-numbered}
use Rattle.mpeg_scan.proofs.PartTilingLemmas.{film-tiles}
use Rattle.mpeg_scan.specs.Layout.{AreChained, AreInOrder, IsLaid, AreLaid, unit_starts}

pub laid-at : {unit : PictureUnit} (end : ℕ) (starts : List ℕ) (units : List PictureUnit) (k : ℕ)
    → slice_get units k ≡ Some unit → AreLaid end starts units → (unit.to ≤ end) × IsLaid starts unit
laid-at end starts [] k is laid = cc
laid-at {unit} end starts (first ∷ units) zero is laid =
    let P : PictureUnit → Type 0 = λ u. (u.to ≤ end) × IsLaid starts u in
    let same : first ≡ unit = cc in subst P same laid.0
laid-at end starts (first ∷ units) (suc k) is laid = laid-at end starts units k is laid.1

-- one slice more
in_order-more : (cur : List ℕ) (head at b : ℕ) → AreInOrder head cur at → at + 4 ≤ b
    → AreInOrder head (cur ++ at ∷ []) b
in_order-more [] head at b order least = (sym order, (omega (arith, order, least), refl))
in_order-more (s ∷ []) head at b order least = (order.0, (order.1.0, (refl, (least, refl))))
in_order-more (s ∷ (next ∷ cur)) head at b order least =
    (order.0, (order.1.0, in_order-more (next ∷ cur) next at b order.1.1 least))

-- the slices of a unit, after those before it
pub own-slices : {cur : List ℕ} {first n : ℕ} (before rest : List ℕ) → first ≡ length before → n ≡ length cur
    → take n (drop first ((before ++ cur) ++ rest)) ≡ cur
own-slices {cur} {first} {n} before rest f m =
    ap (λ (l : List ℕ). take n (drop first l)) (append_assoc before cur rest)
    ∙ ap (λ i. take n (drop i (before ++ (cur ++ rest)))) f
    ∙ ap (λ (l : List ℕ). take n l) (drop-append_seam before (cur ++ rest))
    ∙ ap (λ i. take i (cur ++ rest)) m
    ∙ take-append_seam cur rest

-- a unit after its head and so many slices: the next part of it begins at a place
pub record BegunUnit : Type 0 where
  pub from : ℕ
  pub head_end : ℕ
  pub at : ℕ
  pub slices : ℕ

abbrev pub begun : ℕ → ℕ → ℕ → ℕ → BegunUnit
begun from head_end at n = record { from = from; head_end = head_end; at = at; slices = n }

-- what the parts so far say: `past` are the places of all slices so far
pub record Inside (u : BegunUnit) (past : List ℕ) : Type 0 where
  pub before : List ℕ
  pub cur : List ℕ
  pub past_is : past ≡ before ++ cur
  pub count : u.slices ≡ length cur
  pub head : u.from < u.head_end
  pub short : u.head_end ≤ u.from + MAX_UNIT_HEAD_BYTES
  pub in_order : AreInOrder u.head_end cur u.at

abbrev pub Stands : PartStart → List ℕ → Type 0
Stands (between at) past = Unit {0}
Stands (within from head_end at n) past = Inside (begun from head_end at n) past

nothing-fits : (calls : List Call) (to : ℕ) → parts_after None calls ≡ Some (between to) → ⊥
nothing-fits [] to e = cc
nothing-fits (call ∷ calls) to e = cc

-- where the parts go on to an end, the next one fits
pub part-fits : (b : Bool) (p : PartStart) (calls : List Call) (to : ℕ)
    → parts_after (cond b (Some p) None) calls ≡ Some (between to)
    → (b ≡ true) × (parts_after (Some p) calls ≡ Some (between to))
part-fits true p calls to e = (refl, e)
part-fits false p calls to e = absurd (nothing-fits calls to e)

-- a head of 1 to 1,380 bytes begins where the parts before it end, and the next part begins at its end
pub record HeadFits (from to at : ℕ) (calls : List Call) (end : ℕ) : Type 0 where
  pub here : from ≡ at
  pub some : from < to
  pub short : to - from ≤ MAX_UNIT_HEAD_BYTES
  pub rest : parts_after (Some (within from to to 0)) calls ≡ Some (between end)

pub head-fits : (from to at : ℕ) (calls : List Call) (end : ℕ)
    → parts_after (Some (between at)) (head_call from to ∷ calls) ≡ Some (between end) → HeadFits from to at calls end
head-fits from to at calls end parts =
    let few = leb (to - from) MAX_UNIT_HEAD_BYTES in
    let fits = part-fits (eqb from at && (ltb from to && few)) (within from to to 0) calls end parts in
    let first = and_parts (eqb from at) (ltb from to && few) fits.0 in
    let sizes = and_parts (ltb from to) few first.1 in
    record {
      here = eqb-true from at first.0;
      some = ltb-true from to sizes.0;
      short = leb-true (to - from) MAX_UNIT_HEAD_BYTES sizes.1;
      rest = fits.1;
    }

-- the parts end, from the first on
place_of : PartStart → ℕ
place_of (between at) = at
place_of (within from head_end at n) = at

part-below : (calls : List Call) (part : PartStart) (to : ℕ) → parts_after (Some part) calls ≡ Some (between to)
    → place_of part ≤ to
unfolding place_of
part-below [] (between at) to parts = let same : at ≡ to = cc in omega (arith, same)
part-below [] (within from head_end at n) to parts = cc
part-below (head_call a b ∷ calls) (between at) to parts =
    let fits = head-fits a b at calls to parts in
    omega (arith, fits.here, fits.some, part-below calls (within a b b 0) to fits.rest)
part-below (slice_call a b ∷ calls) (between at) to parts = absurd (nothing-fits calls to parts)
part-below (unit_call unit ∷ calls) (between at) to parts = absurd (nothing-fits calls to parts)
part-below (head_call a b ∷ calls) (within from head_end at n) to parts = absurd (nothing-fits calls to parts)
part-below (slice_call a b ∷ calls) (within from head_end at n) to parts =
    let fits = part-fits (eqb a at && leb (a + 4) b) (within from head_end b (n + 1)) calls to parts in
    let first = and_parts (eqb a at) (leb (a + 4) b) fits.0 in
    omega (
      arith,
      eqb-true a at first.0,
      leb-true (a + 4) b first.1,
      part-below calls
          (within from head_end b (n + 1)) to fits.1,
    )
part-below (unit_call unit ∷ calls) (within from head_end at n) to parts =
    let fits = part-fits
    ((eqb unit.from from && (eqb unit.head_end head_end && eqb unit.to at))
    && (eqb unit.slices n && ltb 0 n)) (between at) calls to parts in
    part-below calls (between at) to fits.1

count-fits : (b : Bool) (k : Count) (calls : List Call) → IsSome (counts_after (cond b (Some k) None) calls)
    → (b ≡ true) × IsSome (counts_after (Some k) calls)
count-fits true k calls e = (refl, e)
count-fits false k [] e = cc
count-fits false k (call ∷ calls) e = cc

pub record UnitFits (unit : PictureUnit) (from head_end at n : ℕ) : Type 0 where
  pub begin : unit.from ≡ from
  pub head : unit.head_end ≡ head_end
  pub end : unit.to ≡ at
  pub slices : unit.slices ≡ n
  pub some : 0 < n

unit-fits : (unit : PictureUnit) (from head_end at n : ℕ)
    → ((eqb unit.from from && (eqb unit.head_end head_end && eqb unit.to at)) && (eqb unit.slices n && ltb 0 n))
    ≡ true → UnitFits unit from head_end at n
unit-fits unit from head_end at n e =
    let both = and_parts (eqb unit.from from && (eqb unit.head_end head_end && eqb unit.to at))
    (eqb unit.slices n && ltb 0 n) e in
    let first = and_parts (eqb unit.from from) (eqb unit.head_end head_end && eqb unit.to at) both.0 in
    let places = and_parts (eqb unit.head_end head_end) (eqb unit.to at) first.1 in
    let counts = and_parts (eqb unit.slices n) (ltb 0 n) both.1 in
    record {
      begin = eqb-true unit.from from first.0;
      head = eqb-true unit.head_end head_end places.0;
      end = eqb-true unit.to at places.1;
      slices = eqb-true unit.slices n counts.0;
      some = ltb-true 0 n counts.1;
    }

-- a unit is reported where its parts end, and the next part begins there
pub reported-fits : (u : BegunUnit) (unit : PictureUnit) (calls : List Call) (to : ℕ)
    → parts_after (Some (within u.from u.head_end u.at u.slices)) (unit_call unit ∷ calls) ≡ Some (between to)
    → UnitFits unit u.from u.head_end u.at u.slices × (parts_after (Some (between u.at)) calls ≡ Some (between to))
reported-fits u unit calls to parts =
    let fits = part-fits
    ((eqb unit.from u.from && (eqb unit.head_end u.head_end && eqb unit.to u.at))
    && (eqb unit.slices u.slices && ltb 0 u.slices)) (between u.at) calls to parts in
    (unit-fits unit u.from u.head_end u.at u.slices fits.0, fits.1)

-- the parts of a unit fit where it is reported, and its slices are the latest of all
record Ends (unit : PictureUnit) (u : BegunUnit) (past : List ℕ) : Type 0 where
  fits : UnitFits unit u.from u.head_end u.at u.slices
  count : unit.first_slice + unit.slices ≡ length past

unit-laid : {unit : PictureUnit} {u : BegunUnit} {past : List ℕ} (rest : List ℕ) → Ends unit u past → Inside u past
    → IsLaid (past ++ rest) unit
unit-laid {unit} {u} {past} rest ends inside =
    let all : length past ≡ length inside.before + length inside.cur =
    ap length inside.past_is ∙ length-append inside.before inside.cur in
    let cur : unit.slices ≡ length inside.cur = fits.slices ∙ inside.count in
    let first : unit.first_slice ≡ length inside.before = omega (arith, all, cur, count) in
    let starts : inside.cur ≡ unit_starts (past ++ rest) unit =
    sym (ap (λ (l : List ℕ). take unit.slices (drop unit.first_slice (l ++ rest))) inside.past_is
    ∙ own-slices inside.before rest first cur) in
    let order : AreInOrder unit.head_end inside.cur unit.to =
    subst (λ h. AreInOrder h inside.cur unit.to) (sym fits.head)
    (subst (λ t. AreInOrder u.head_end inside.cur t) (sym fits.end) inside.in_order) in
    record {
      fits = omega (arith, count, length-append past rest);
      head = omega (arith, fits.begin, fits.head, inside.head);
      short = omega (arith, fits.begin, fits.head, inside.short);
      some = omega (arith, fits.slices, fits.some);
      in_order = subst (λ (l : List ℕ). AreInOrder unit.head_end l unit.to) starts order;
    }
  where
    open ends use {fits, count}

-- a unit whose head has ended
head-inside : {from to : ℕ} (past : List ℕ) → from < to → to - from ≤ MAX_UNIT_HEAD_BYTES
    → Inside (begun from to to 0) past
head-inside past less short = record {
  before = past;
  cur = [];
  past_is = sym (append-nil past);
  count = refl;
  head = less;
  short = omega (arith, less, short);
  in_order = refl;
}

-- a slice of at least 4 bytes goes on where the unit's parts so far end
record SliceFits (u : BegunUnit) (from to : ℕ) : Type 0 where
  here : from ≡ u.at
  least : from + 4 ≤ to

-- the same unit after that slice
slice-inside : {u : BegunUnit} {from to : ℕ} {past : List ℕ} → SliceFits u from to → Inside u past
    → Inside (record u { at = to; slices = u.slices + 1 }) (past ++ from ∷ [])
slice-inside {u} {from} {to} fits inside = record {
  before = inside.before;
  cur = inside.cur ++ from ∷ [];
  past_is = ap (λ (l : List ℕ). l ++ from ∷ []) inside.past_is ∙ append_assoc inside.before inside.cur (from ∷ []);
  count = omega (arith, inside.count, length-append inside.cur (from ∷ []));
  head = inside.head;
  short = inside.short;
  in_order = subst (λ s. AreInOrder u.head_end (inside.cur ++ s ∷ []) to) (sym fits.here)
      (in_order-more inside.cur u.head_end u.at to inside.in_order (omega (arith, fits.here, fits.least)));
}

-- the places of all slices so far, where the parts so far come to this one
record SoFar (part : PartStart) (k : Count) (past : List ℕ) : Type 0 where
  slices : k.slices ≡ length past
  stands : Stands part past

-- the count after a unit
abbrev pub count_with : Count → PictureUnit → Count
count_with k unit = record { units = k.units + 1; slices = k.slices; before_group = group_of k unit }

-- a unit's slices are the latest ones, and what comes after it agrees
pub unit-counts : (k : Count) (unit : PictureUnit) (calls : List Call)
    → IsSome (counts_after (Some k) (unit_call unit ∷ calls))
    → (unit.first_slice + unit.slices ≡ k.slices) × IsSome (counts_after (Some (count_with k unit)) calls)
unit-counts k unit calls counts =
    let slices = eqb (unit.first_slice + unit.slices) k.slices in
    let shown = eqb unit.presentation (group_of k unit + unit.temporal) in
    let agrees = count-fits (slices && shown) (count_with k unit) calls counts in
    (eqb-true (unit.first_slice + unit.slices) k.slices (and_parts slices shown agrees.0).0, agrees.1)

part-laid : (calls : List Call) {part : PartStart} {k : Count} {to : ℕ} {past : List ℕ} →
    parts_after (Some part) calls ≡ Some (between to) → IsSome (counts_after (Some k) calls) → SoFar part k past →
    AreLaid to (past ++ slices_in calls) (units_in calls)
unfolding place_of
part-laid [] parts counts so_far = tt
part-laid (head_call a b ∷ calls) {part = between at} {k} {to} {past} parts counts so_far =
    let fits = head-fits a b at calls to parts in
    let next : SoFar (within a b b 0) k past =
    record { slices = so_far.slices; stands = head-inside past fits.some fits.short } in
    part-laid calls fits.rest counts next
part-laid (slice_call a b ∷ calls) {part = between at} {to} parts counts so_far = absurd (nothing-fits calls to parts)
part-laid (unit_call unit ∷ calls) {part = between at} {to} parts counts so_far = absurd (nothing-fits calls to parts)
part-laid (head_call a b ∷ calls) {part = within from head_end at n} {to} parts counts so_far =
    absurd (nothing-fits calls to parts)
part-laid (slice_call a b ∷ calls) {part = within from head_end at n} {k} {to} {past} parts counts so_far =
    let fits = part-fits (eqb a at && leb (a + 4) b) (within from head_end b (n + 1)) calls to parts in
    let slice = and_parts (eqb a at) (leb (a + 4) b) fits.0 in
    let its : SliceFits (begun from head_end at n) a b =
    record { here = eqb-true a at slice.0; least = leb-true (a + 4) b slice.1 } in
    let next : SoFar (within from head_end b (n + 1)) (record k { slices = k.slices + 1 }) (past ++ a ∷ []) =
    record {
      slices = omega (arith, so_far.slices, length-append past (a ∷ []));
      stands = slice-inside its so_far.stands;
    } in
    subst (λ (l : List ℕ). AreLaid to l (units_in calls)) (append_assoc past (a ∷ []) (slices_in calls))
    (part-laid calls fits.1 counts next)
part-laid (unit_call unit ∷ calls) {part = within from head_end at n} {k} {to} {past} parts counts so_far =
    let fits = reported-fits (begun from head_end at n) unit calls to parts in
    let counted = unit-counts k unit calls counts in
    let ends : Ends unit (begun from head_end at n) past =
    record { fits = fits.0; count = counted.0 ∙ so_far.slices } in
    let next : SoFar (between at) (count_with k unit) past = record { slices = so_far.slices; stands = tt } in (
      (
        omega (arith, fits.0.end, part-below calls (between at) to fits.1),
        unit-laid (slices_in calls) ends so_far.stands,
      ),
      part-laid calls fits.1 counted.1 next,
    )

pub film-laid : (bytes : List ℕ) (rate : ℕ) (units : List PictureUnit) (starts : List ℕ)
    → IsFilm bytes rate units starts → AreLaid (length bytes) starts units
film-laid bytes rate units starts film =
    let calls = all_calls (read_after [] bytes) in
    let end : length (read_after [] bytes) ≡ length bytes = length-read bytes [] ∙ omega arith in
    let start : SoFar (between (first_of (codes_of (read_after [] bytes)))) no_count [] =
    record { slices = refl; stands = tt } in
    let laid =
    part-laid calls (film-tiles (read_after [] bytes) film.accepted)
    (film-numbered (read_after [] bytes) film.accepted) start in
    subst (λ e. AreLaid e starts units) end
    (subst (λ (l : List ℕ). AreLaid (length (read_after [] bytes)) l units) (sym film.slices)
    (subst (λ (l : List PictureUnit). AreLaid (length (read_after [] bytes)) (slices_in calls) l)
    (sym film.units) laid))

-- ---- units lie one after another

begin_of_part : PartStart → ℕ
begin_of_part (between at) = at
begin_of_part (within from head_end at n) = from

parts-chained : (calls : List Call) (part : PartStart) (to : ℕ) → parts_after (Some part) calls ≡ Some (between to)
    → AreChained (begin_of_part part) (units_in calls) to
unfolding begin_of_part
parts-chained [] (between at) to parts = cc
parts-chained [] (within from head_end at n) to parts = cc
parts-chained (head_call a b ∷ calls) (between at) to parts =
    let fits = head-fits a b at calls to parts in
    subst (λ f. AreChained f (units_in calls) to) fits.here (parts-chained calls (within a b b 0) to fits.rest)
parts-chained (slice_call a b ∷ calls) (between at) to parts = absurd (nothing-fits calls to parts)
parts-chained (unit_call unit ∷ calls) (between at) to parts = absurd (nothing-fits calls to parts)
parts-chained (head_call a b ∷ calls) (within from head_end at n) to parts = absurd (nothing-fits calls to parts)
parts-chained (slice_call a b ∷ calls) (within from head_end at n) to parts =
    let fits = part-fits (eqb a at && leb (a + 4) b) (within from head_end b (n + 1)) calls to parts in
    parts-chained calls (within from head_end b (n + 1)) to fits.1
parts-chained (unit_call unit ∷ calls) (within from head_end at n) to parts =
    let fits = reported-fits (begun from head_end at n) unit calls to parts in (
      fits.0.begin,
      subst (λ f. AreChained f (units_in calls) to) (sym fits.0.end) (parts-chained calls (between at) to fits.1),
    )

pub film-chained : (bytes : List ℕ) (rate : ℕ) (units : List PictureUnit) (starts : List ℕ)
    → IsFilm bytes rate units starts → AreChained (first_of (codes_of (read_after [] bytes))) units (length bytes)
unfolding begin_of_part
film-chained bytes rate units starts film =
    let r = read_after [] bytes in
    let end : length r ≡ length bytes = length-read bytes [] ∙ omega arith in
    let chained =
    parts-chained (all_calls r) (between (first_of (codes_of r))) (length r) (film-tiles r film.accepted) in
    let P : List PictureUnit → Type 0 = λ l. AreChained (first_of (codes_of r)) l (length bytes) in
    subst P (sym film.units) (subst (λ e. AreChained (first_of (codes_of r)) (units_in (all_calls r)) e) end chained)
