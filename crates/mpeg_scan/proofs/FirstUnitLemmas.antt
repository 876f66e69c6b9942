-- The first unit of an accepted film: it starts a group, and begins with the sequence header of its rate.
use Rattle.std.proofs.Common.{ℕ, Bool, true, false, cond, eqb, ltb, ◌&&◌, ◌||◌, ◌+◌, ◌-◌, ◌%◌, ◌<◌}
use Rattle.std.proofs.Common.{◌≤◌, ◌≡◌, List, [], ◌∷◌, ◌++◌, Some, None, length, get_or, slice_get}
use Rattle.std.proofs.Common.{sym, ◌∙◌, ap, refl, subst, inl, inr, arith, Option}
use Rattle.std.specs.Prelude.{unwrap_or}
use Rattle.std.proofs.lemmas.Bool.{true≢false, eq-eqb, ltb-false}
use Rattle.mpeg_scan.specs.declared.codes.Code.{Code}
use Rattle.mpeg_scan.specs.declared.units.Unit.{Unit as PictureUnit}
use Rattle.mpeg_scan.specs.StartCodes.{read_after, codes_of}
use Rattle.mpeg_scan.specs.CodeFacts.{is_head, is_slice, first_rate, rate_after, rate_code, rate_of}
use Rattle.mpeg_scan.specs.CodeFacts.{slice_count, starts_group, tally_of}
use Rattle.mpeg_scan.specs.FilmFaults.{end_fault, first_fault, header_fault, last_fault, latest_fault}
use Rattle.mpeg_scan.specs.Calls.{Call, head_call, slice_call, calls_at, calls_of, unit_at, unit_end}
use Rattle.mpeg_scan.specs.Layout.{OfUnit, AreChained, BeginsSequence}
use Rattle.mpeg_scan.specs.Films.{IsFilm, units_in}
use Rattle.mpeg_scan.specs.PartTiling.{first_of}
use Rattle.mpeg_scan.specs.CodePlaces.{HasCode, IsCodeAt}
use Rattle.mpeg_scan.specs.StandardUnits.{AnyValue, IsFirstCode, StandsThere}
use Rattle.mpeg_scan.proofs.ScanStepLemmas.{accepted-older, otherwise-first, otherwise-second, calls-cons}
use Rattle.mpeg_scan.proofs.ScanStepLemmas.{accepted-whole}
use Rattle.mpeg_scan.proofs.PartTilingLemmas.{CodeEnds, ended-none, first-is, raw_calls}
use Rattle.mpeg_scan.proofs.PartTilingLemmas.{slice-apart, calls-nil, ends_at}
use Rattle.mpeg_scan.proofs.CodeSpacingLemmas.{Spaced, all-below, placed-codes}
use Rattle.mpeg_scan.proofs.FilmBoundLemmas.{older-judged, sequence-judged}
use Rattle.mpeg_scan.proofs.FilmLemmas.{length-read, units_in-append}
use Rattle.mpeg_scan.proofs.CodePlaceLemmas.{at-bytes, codes-stand}
use Rattle.mpeg_scan.proofs.HeaderByteLemmas.{Same, HeaderIs, HeadersAre, codes-headers, header-byte}
use Rattle.mpeg_scan.proofs.UnitLayoutLemmas.{film-chained}

-- ---- the first unit starts a group

-- the first of these units starts a group; where there is none, the next one does
abbrev pub FirstStarts : List PictureUnit → Bool → Type 0
FirstStarts [] starts = starts ≡ true
FirstStarts (unit ∷ units) starts = unit.starts_group ≡ true

first-more : (units : List PictureUnit) (unit : PictureUnit) (s t : Bool) → FirstStarts units s
    → unit.starts_group ≡ s → FirstStarts (units ++ unit ∷ []) t
first-more [] unit s t first is = is ∙ first
first-more (u ∷ units) unit s t first is = first

first-same : (units : List PictureUnit) (s : Bool) → FirstStarts units s → FirstStarts (units ++ []) s
first-same [] s first = first
first-same (u ∷ units) s first = first

first-true : (units : List PictureUnit) (s : Bool) → FirstStarts units s → FirstStarts (units ++ []) true
first-true [] s first = refl
first-true (u ∷ units) s first = first

-- a slice's code is no head's and no group's: s, h, b8: it is a slice, a head code, a group header
record SliceApart (s h b8 : Bool) : Type 0 where
  no_head : s ≡ true → h ≡ false
  no_group : s ≡ true → b8 ≡ false

-- one code more, by those tests; q, e: there were slices, there were none
raw-first : {s h b8 : Bool} (q e : Bool) (units : List PictureUnit) (here : CodeEnds) → SliceApart s h b8
    → FirstStarts units here.ended.starts_group
    → FirstStarts (units ++ units_in (raw_calls s h q e here))
    (cond (b8 || false) true (cond (h && q) false here.ended.starts_group))
raw-first {s = true} {h = true} q e units here apart first = absurd (true≢false (apart.no_head refl))
raw-first {s = true} {h = false} {b8 = true} q e units here apart first = absurd (true≢false (apart.no_group refl))
raw-first {s = true} {h = false} {b8 = false} q true units here apart first =
    first-same units here.ended.starts_group first
raw-first {s = true} {h = false} {b8 = false} q false units here apart first =
    first-same units here.ended.starts_group first
raw-first {s = false} {h = true} {b8} true e units here apart first =
    first-more units here.ended here.ended.starts_group (cond (b8 || false) true false) first refl
raw-first {s = false} {h = true} {b8 = true} false e units here apart first =
    first-true units here.ended.starts_group first
raw-first {s = false} {h = true} {b8 = false} false e units here apart first =
    first-same units here.ended.starts_group first
raw-first {s = false} {h = false} {b8 = true} q e units here apart first =
    first-true units here.ended.starts_group first
raw-first {s = false} {h = false} {b8 = false} q e units here apart first =
    first-same units here.ended.starts_group first

head-other : (a b c : Bool) → (a || (b || c)) ≡ false → c ≡ false
head-other true b c e = absurd (true≢false e)
head-other false true c e = absurd (true≢false e)
head-other false false c e = e

slice-other : (value : ℕ) → is_slice value ≡ true → eqb value 0xb8 ≡ false
slice-other value slice = head-other (eqb value 0) (eqb value 0xb3) (eqb value 0xb8) (slice-apart value slice)

first-step : (c d : Code) (past : List Code) (units : List PictureUnit) → FirstStarts units (starts_group (d ∷ past))
    → FirstStarts (units ++ units_in (calls_at (tally_of (d ∷ past)) c.place c.value)) (starts_group (c ∷ (d ∷ past)))
unfolding calls_at
first-step c d past units first =
    let older : List Code = d ∷ past in
    let t = tally_of older in
    let apart : SliceApart (is_slice c.value) (is_head c.value) (eqb c.value 0xb8) =
    record { no_head = slice-apart c.value; no_group = slice-other c.value } in
    raw-first (ltb 0 (slice_count older)) (eqb (slice_count older) 0) units (ends_at t c.place) apart first

first-code : (c : Code) → c.value ≡ 0xb3 → FirstStarts (units_in (calls_at (tally_of []) c.place c.value))
    (starts_group (c ∷ []))
unfolding calls_at
first-code c is =
    subst (λ m. FirstStarts
    (units_in (cond (is_slice m) (cond (eqb 0 0) (head_call 0 c.place ∷ []) (slice_call 0 c.place ∷ []))
    (cond (is_head m && ltb 0 0) (unit_end (tally_of []) c.place) [])))
    (cond (eqb m 0xb8 || true) true (cond (true || (is_head m && ltb 0 0)) false false))) (sym is) refl

calls-first : (c : Code) (past : List Code) → first_fault (c ∷ past) ≡ None
    → FirstStarts (units_in (calls_of (c ∷ past))) (starts_group (c ∷ past))
calls-first c [] accepted =
    subst (λ (l : List Call). FirstStarts (units_in l) (starts_group (c ∷ [])))
    (sym (calls-cons c [] ∙ ap (λ (l : List Call). l ++ calls_at (tally_of []) c.place c.value) calls-nil))
    (first-code c (first-is c accepted))
calls-first c (d ∷ past) accepted =
    let calls = calls_at (tally_of (d ∷ past)) c.place c.value in
    subst (λ (l : List PictureUnit). FirstStarts l (starts_group (c ∷ (d ∷ past))))
    (sym (ap units_in (calls-cons c (d ∷ past)) ∙ units_in-append (calls_of (d ∷ past)) calls))
    (first-step c d past (units_in (calls_of (d ∷ past))) (calls-first d past (accepted-older c (d ∷ past) accepted)))

-- there is a first unit, and it starts a group
abbrev pub StartsGroup : List PictureUnit → Type 0
StartsGroup [] = ⊥
StartsGroup (unit ∷ units) = unit.starts_group ≡ true

first-last : (units : List PictureUnit) (unit : PictureUnit) (s : Bool) → FirstStarts units s
    → unit.starts_group ≡ s → StartsGroup (units ++ unit ∷ [])
first-last [] unit s first is = is ∙ first
first-last (u ∷ units) unit s first is = first

whole-first : (past : List Code) (n : ℕ) → first_fault past ≡ None → end_fault past n ≡ None
    → StartsGroup (units_in (calls_of past ++ unit_end (tally_of past) n))
unfolding end_fault
whole-first [] n accepted ended = absurd (omega (arith, ended-none (tally_of []) ended))
whole-first (c ∷ past) n accepted ended =
    let all : List Code = c ∷ past in
    subst (λ (l : List PictureUnit). StartsGroup l) (sym (units_in-append (calls_of all) (unit_end (tally_of all) n)))
    (first-last (units_in (calls_of all)) (unit_at (tally_of all) n) (starts_group all)
    (calls-first c past accepted) refl)

starts-some : (units : List PictureUnit) → StartsGroup units → 0 < length units
starts-some [] starts = absurd starts
starts-some (unit ∷ units) starts = omega arith

starts-first : (units : List PictureUnit) → StartsGroup units → (unit : PictureUnit)
    → slice_get units 0 ≡ Some unit → unit.starts_group ≡ true
starts-first [] starts unit is = cc
starts-first (u ∷ units) starts unit is =
    let same : u ≡ unit = cc in ap (λ (v : PictureUnit). v.starts_group) (sym same) ∙ starts

film-starts : (bytes : List ℕ) (rate : ℕ) (units : List PictureUnit) (starts : List ℕ)
    → IsFilm bytes rate units starts → StartsGroup units
film-starts bytes rate units starts film =
    let r = read_after [] bytes in
    let none = accepted-whole r film.accepted in
    subst (λ (l : List PictureUnit). StartsGroup l) (sym film.units)
    (whole-first (codes_of r) (length r)
    (otherwise-first (first_fault (codes_of r)) (end_fault (codes_of r) (length r)) none)
    (otherwise-second (first_fault (codes_of r)) (end_fault (codes_of r) (length r)) none))

pub film-some : (bytes : List ℕ) (rate : ℕ) (units : List PictureUnit) (starts : List ℕ)
    → IsFilm bytes rate units starts → 0 < length units
film-some bytes rate units starts film = starts-some units (film-starts bytes rate units starts film)

pub film-group : {bytes : List ℕ} {rate : ℕ} {units : List PictureUnit} {starts : List ℕ}
    → IsFilm bytes rate units starts → OfUnit units 0 (λ u. u.starts_group ≡ true)
film-group {bytes} {rate} {units} {starts} film = starts-first units (film-starts bytes rate units starts film)

-- ---- the first sequence header

-- the first of codes that are given the latest first
pub first_in : Code → List Code → Code
first_in c [] = c
first_in c (d ∷ past) = first_in d past

first_in-place : (c : Code) (past : List Code) → first_of (c ∷ past) ≡ (first_in c past).place
unfolding first_in
first_in-place c [] = refl
first_in-place c (d ∷ past) = first_in-place d past

pub first_in-has : (c : Code) (past : List Code) → HasCode (first_in c past).place (first_in c past).value (c ∷ past)
unfolding first_in
first_in-has c [] = inl (refl, refl)
first_in-has c (d ∷ past) = inr (first_in-has d past)

pub first-least : (c : Code) (past : List Code) (place value : ℕ) → Spaced (c ∷ past)
    → HasCode place value (c ∷ past) → (first_in c past).place ≤ place
unfolding first_in
first-least c [] place value spaced (inl new) = omega (arith, new.0)
first-least c [] place value spaced (inr old) = absurd old
first-least c (d ∷ past) place value spaced (inl new) =
    omega (
      arith,
      new.0,
      first-least d past d.place d.value spaced.1 (inl (refl, refl)),
      all-below (d ∷ past) spaced.1 spaced.0 d.place d.value (inl (refl, refl)),
    )
first-least c (d ∷ past) place value spaced (inr old) = first-least d past place value spaced.1 old

pub first_in-value : (c : Code) (past : List Code) → first_fault (c ∷ past) ≡ None → (first_in c past).value ≡ 0xb3
unfolding first_in
first_in-value c [] accepted = first-is c accepted
first_in-value c (d ∷ past) accepted = first_in-value d past (accepted-older c (d ∷ past) accepted)

pub first_in-rate : (c : Code) (past : List Code) → first_fault (c ∷ past) ≡ None
    → first_rate (c ∷ past) ≡ Some (rate_code (first_in c past))
unfolding first_in
first_in-rate c [] accepted = ap (λ b. cond b (Some (rate_code c)) None) (eq-eqb c.value 0xb3 (first-is c accepted))
first_in-rate c (d ∷ past) accepted =
    ap (λ (rate : Option ℕ). rate_after rate c) (first_in-rate d past (accepted-older c (d ∷ past) accepted))

pub long-header : (rate : Option ℕ) (c : Code) (end : ℕ) → c.value ≡ 0xb3 → header_fault rate c end ≡ None
    → c.place + 12 ≤ end
long-header rate c end is e = omega (arith, ltb-false (end - c.place) 12 (sequence-judged rate c end is e).0)

first-there : (bytes : List ℕ) (past : List Code) → codes_of (read_after [] bytes) ≡ past → Spaced past
    → end_fault past (length (read_after [] bytes)) ≡ None
    → StandsThere (IsCodeAt bytes) (first_of past) AnyValue × IsFirstCode (IsCodeAt bytes) (first_of past)
unfolding end_fault
first-there bytes [] codes spaced ended = absurd (omega (arith, ended-none (tally_of []) ended))
first-there bytes (c ∷ past) codes spaced ended =
    let f = first_in c past in
    subst (λ p. StandsThere (IsCodeAt bytes) p AnyValue × IsFirstCode (IsCodeAt bytes) p)
    (sym (first_in-place c past)) (
      (
        f.value,
        (
          (codes-stand bytes f.place f.value).0
              (subst (λ (l : List Code). HasCode f.place f.value l) (sym codes) (first_in-has c past)),
          tt,
        ),
      ),
      λ place value has. first-least c past place value spaced
          (subst (λ (l : List Code). HasCode place value l) codes ((codes-stand bytes place value).1 has)),
    )

-- the first unit begins at the first code
pub film-first : (bytes : List ℕ) (rate : ℕ) (units : List PictureUnit) (starts : List ℕ)
    → IsFilm bytes rate units starts
    → StandsThere (IsCodeAt bytes) (first_of (codes_of (read_after [] bytes))) AnyValue
    × IsFirstCode (IsCodeAt bytes) (first_of (codes_of (read_after [] bytes)))
film-first bytes rate units starts film =
    let r = read_after [] bytes in
    first-there bytes (codes_of r) refl (placed-codes r).spaced
    (otherwise-second (first_fault (codes_of r)) (end_fault (codes_of r) (length r)) (accepted-whole r film.accepted))

-- the header bytes of the first code, and how many they are at least
pub record FirstHeader (r : List ℕ) (c : Code) : Type 0 where
  pub stop : ℕ
  pub is : HeaderIs r stop c
  pub long : c.place + 12 ≤ stop

-- codes that are accepted up to an end, and their headers in so many bytes
pub record AreJudged (r : List ℕ) (c : Code) (past : List Code) : Type 0 where
  pub end : ℕ
  pub stop : ℕ
  pub accepted : first_fault (c ∷ past) ≡ None
  pub judged : latest_fault (c ∷ past) end ≡ None
  pub far : end ≤ stop
  pub headers : HeadersAre r stop (c ∷ past)

-- so those before the latest
pub older-are_judged : {r : List ℕ} {c d : Code} {past : List Code}
    → AreJudged r c (d ∷ past) → AreJudged r d past
older-are_judged {c} {d} {past} are = record {
  end = c.place;
  stop = c.place + 4;
  accepted = accepted-older c (d ∷ past) are.accepted;
  judged = older-judged c (d ∷ past) are.accepted;
  far = omega arith;
  headers = are.headers.1;
}

pub first_in-header : {r : List ℕ} {c : Code} {past : List Code} → AreJudged r c past
    → FirstHeader r (first_in c past)
unfolding first_in
first_in-header {c} {past = []} are =
    record {
      stop = are.stop;
      is = are.headers.0;
      long = omega (arith, are.far, long-header None c are.end (first-is c are.accepted) are.judged);
    }
first_in-header {past = d ∷ past} are = first_in-header {c = d} {past = past} (older-are_judged are)

record Begins (bytes : List ℕ) (past : List Code) : Type 0 where
  begins : BeginsSequence bytes (rate_of past) (first_of past)

codes-begin : (bytes : List ℕ) (past : List Code) → codes_of (read_after [] bytes) ≡ past → first_fault past ≡ None
    → end_fault past (length (read_after [] bytes)) ≡ None
    → HeadersAre (read_after [] bytes) (length (read_after [] bytes)) past → Begins bytes past
unfolding end_fault
codes-begin bytes [] codes accepted ended headers = absurd (omega (arith, ended-none (tally_of []) ended))
codes-begin bytes (c ∷ past) codes accepted ended headers =
    let r = read_after [] bytes in
    let n = length r in
    let judged = otherwise-first (latest_fault (c ∷ past) n) (last_fault (tally_of (c ∷ past))) ended in
    let f = first_in c past in
    let are : AreJudged r c past =
    record { end = n; stop = n; accepted = accepted; judged = judged; far = omega arith; headers = headers } in
    let header = first_in-header are in
    let long : length r ≡ length bytes = length-read bytes [] ∙ omega arith in
    let place : first_of (c ∷ past) ≡ f.place = first_in-place c past in
    let has : HasCode f.place 0xb3 (codes_of r) =
    subst (λ (l : List Code). HasCode f.place 0xb3 l) (sym codes)
    (subst (λ k. HasCode f.place k (c ∷ past)) (first_in-value c past accepted) (first_in-has c past)) in
    let same : Same bytes r = record { byte = at-bytes bytes; long = long } in
    let byte : get_or f.header 3 0 ≡ get_or bytes (f.place + 4 + 3) 0 =
    header-byte 3 same (omega arith) (omega (arith, header.long)) header.is in
    let here : f.place + 4 + 3 ≡ f.place + 7 = omega arith in
    let rate : rate_of (c ∷ past) ≡ get_or bytes (f.place + 7) 0 % 16 =
    ap (λ (o : Option ℕ). unwrap_or o 0) (first_in-rate c past accepted)
    ∙ ap (λ b. b % 16) (byte ∙ ap (λ i. get_or bytes i 0) here) in
    record {
      begins = subst (λ p. BeginsSequence bytes (rate_of (c ∷ past)) p) (sym place) (record {
        code = (codes-stand bytes f.place 0xb3).0 has;
        fits = omega (arith, header.long, header.is.within, long);
        rate_is = sym rate;
      });
    }

pub chained-first : (from to : ℕ) (units : List PictureUnit) (unit : PictureUnit) → slice_get units 0 ≡ Some unit
    → AreChained from units to → unit.from ≡ from
chained-first from to [] unit is chained = cc
chained-first from to (u ∷ units) unit is chained = let same : u ≡ unit =
    cc in ap (λ (v : PictureUnit). v.from) (sym same) ∙ chained.0

-- the first unit begins with the sequence header of the film's rate
pub film-begins : {bytes : List ℕ} {rate : ℕ} {units : List PictureUnit} {starts : List ℕ}
    → IsFilm bytes rate units starts → OfUnit units 0 (λ u. BeginsSequence bytes rate u.from)
film-begins {bytes} {rate} {units} {starts} film unit is =
    let r = read_after [] bytes in
    let none = accepted-whole r film.accepted in
    let begins =
    codes-begin bytes (codes_of r) refl
    (otherwise-first (first_fault (codes_of r)) (end_fault (codes_of r) (length r)) none)
    (otherwise-second (first_fault (codes_of r)) (end_fault (codes_of r) (length r)) none) (codes-headers r) in
    let from : unit.from ≡ first_of (codes_of r) =
    chained-first (first_of (codes_of r)) (length bytes) units unit is (film-chained bytes rate units starts film) in
    subst (λ p. BeginsSequence bytes rate p) (sym from)
    (subst (λ v. BeginsSequence bytes v (first_of (codes_of r))) (sym film.rate) begins.begins)
