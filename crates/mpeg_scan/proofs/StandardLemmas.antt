-- The units of an accepted film are those of the standard's words: from the codes to the bytes.
use Rattle.std.proofs.Common.{ℕ, Bool, true, false, cond, eqb, ltb, leb, ◌&&◌, ◌||◌, ◌+◌, ◌-◌, ◌*◌}
use Rattle.std.proofs.Common.{◌/◌, ◌%◌, ◌<◌, ◌≤◌, ◌≡◌, ◌⊎◌, ◌↔◌, List, [], ◌∷◌, Option, Some, None}
use Rattle.std.proofs.Common.{length, get_or, sym, ◌∙◌, ap, refl, subst, inl, inr, arith}
use Rattle.std.proofs.lemmas.Bool.{cond-true, cond-false, or_right, cases_lt, eq-eqb, ne_eqb, leb-true, ltb-false}
use Rattle.std.proofs.lemmas.Bool.{or_parts, and_parts, false≢true}
use Rattle.mpeg_scan.specs.declared.codes.Code.{Code}
use Rattle.mpeg_scan.specs.declared.faults.FilmFault.{FilmFault}
use Rattle.mpeg_scan.specs.declared.faults.FilmFault.TheVariants.{BadType, ShortHeader}
use Rattle.mpeg_scan.specs.declared.units.Kind.{Kind}
use Rattle.mpeg_scan.specs.declared.units.Unit.{Unit as PictureUnit}
use Rattle.mpeg_scan.specs.StartCodes.{read_after, codes_of, latest_prefix}
use Rattle.mpeg_scan.specs.CodeFacts.{first_rate, kind_of, tally_of, type_of, vectors_by}
use Rattle.mpeg_scan.specs.FilmFaults.{end_fault, first_fault, header_fault, last_fault, latest_fault}
use Rattle.mpeg_scan.specs.FilmFaults.{picture_fault, rate_fault}
use Rattle.mpeg_scan.specs.Layout.{OfUnit}
use Rattle.mpeg_scan.specs.Films.{IsFilm}
use Rattle.mpeg_scan.specs.CodePlaces.{HasCode, IsCodeAt}
use Rattle.mpeg_scan.specs.StandardUnits.{HasFields, IsUnitOf, type_number, vector_fields}
use Rattle.mpeg_scan.proofs.ScanStepLemmas.{otherwise-first, otherwise-second, none-cond, some-cond-none}
use Rattle.mpeg_scan.proofs.ScanStepLemmas.{accepted-whole}
use Rattle.mpeg_scan.proofs.CodeSpacingLemmas.{placed-codes, room-after}
use Rattle.mpeg_scan.proofs.FilmLemmas.{length-read}
use Rattle.mpeg_scan.proofs.FirstUnitLemmas.{AreJudged, older-are_judged}
use Rattle.mpeg_scan.proofs.CodePlaceLemmas.{at-bytes, codes-stand}
use Rattle.mpeg_scan.proofs.HeaderByteLemmas.{Same, HeaderIs, HeadersAre, codes-headers, header-byte}
use Rattle.mpeg_scan.proofs.LatestUnitLemmas.{Member}
use Rattle.mpeg_scan.proofs.CodeCountLemmas.{unit-same}
use Rattle.mpeg_scan.proofs.EndedUnitLemmas.{AllClosed, Closed, CodeFields, all-at, whole-closed}

-- a code's header bytes, and how many they are at least
record CodeHeader (r : List ℕ) (c : Code) : Type 0 where
  stop : ℕ
  end : ℕ
  rate : Option ℕ
  is : HeaderIs r stop c
  judged : header_fault rate c end ≡ None
  far : end ≤ stop

code-header : {r : List ℕ} {c its : Code} {past : List Code} → AreJudged r c past
    → Member its (c ∷ past) → CodeHeader r its
code-header {r} {c} {past} are (inl same) =
    subst (λ (v : Code). CodeHeader r v) same
    (record {
      stop = are.stop;
      end = are.end;
      rate = first_rate past;
      is = are.headers.0;
      judged = are.judged;
      far = are.far;
    })
code-header {past = []} are (inr m) = absurd m
code-header {past = d ∷ past} are (inr m) = code-header {c = d} {past = past} (older-are_judged are) m

-- of each of these codes
abbrev AreHeaders : List ℕ → List Code → Type 0
AreHeaders r past = (c : Code) → Member c past → CodeHeader r c

record PictureLong (c : Code) (end : ℕ) : Type 0 where
  eight : c.place + 8 ≤ end
  nine : (type_of c ≡ 2) ⊎ (type_of c ≡ 3) → c.place + 9 ≤ end
  low : 1 ≤ type_of c
  high : type_of c ≤ 4

or-set : (t : ℕ) → (t ≡ 2) ⊎ (t ≡ 3) → (eqb t 2 || eqb t 3) ≡ true
or-set t (inl e) = ap (λ b. b || eqb t 3) (eq-eqb t 2 e)
or-set t (inr e) = or_right (eqb t 2) (eqb t 3) (eq-eqb t 3 e)

nine-by : (a b : Bool) → (a && b) ≡ false → a ≡ true → b ≡ false
nine-by true b none is = none
nine-by false b none is = absurd (false≢true is)

picture-long : (rate : Option ℕ) (c : Code) (end : ℕ) → c.value ≡ 0 → header_fault rate c end ≡ None → PictureLong c end
picture-long rate c end is e =
    let none : Option FilmFault = None in
    let short = λ (n : ℕ). cond (ltb (end - c.place) n) (Some (ShortHeader c.place)) in
    let picture = cond (eqb c.value 0) (picture_fault c end) none in
    let group = cond (eqb c.value 0xb8) (short 8 none) picture in
    let judged : picture_fault c end ≡ None =
    sym (cond-true (eqb c.value 0) (picture_fault c end) none (eq-eqb c.value 0 is))
    ∙ sym (cond-false (eqb c.value 0xb8) (short 8 none) picture
    (ne_eqb c.value 0xb8 (λ k. absurd (omega (arith, is, k)))))
    ∙ sym (cond-false (eqb c.value 0xb3) (short 12 (rate_fault rate c)) group
    (ne_eqb c.value 0xb3 (λ k. absurd (omega (arith, is, k))))) ∙ e in
    let parts = some-cond-none
    (ltb (end - c.place) 8 || ((eqb (type_of c) 2 || eqb (type_of c) 3) && ltb (end - c.place) 9))
    (ShortHeader c.place) (cond (leb 1 (type_of c) && leb (type_of c) 4) None (Some (BadType c.place))) judged in
    let lengths =
    or_parts (ltb (end - c.place) 8) ((eqb (type_of c) 2 || eqb (type_of c) 3) && ltb (end - c.place) 9) parts.0 in
    let types = and_parts (leb 1 (type_of c)) (leb (type_of c) 4)
    (none-cond (leb 1 (type_of c) && leb (type_of c) 4) (BadType c.place) parts.1) in
    record {
      eight = omega (arith, ltb-false (end - c.place) 8 lengths.0);
      nine = λ two.
          omega (
            arith,
            ltb-false (end - c.place) 9
                (nine-by (eqb (type_of c) 2 || eqb (type_of c) 3) (ltb (end - c.place) 9) lengths.1
                (or-set (type_of c) two)),
          );
      low = leb-true 1 (type_of c) types.0;
      high = leb-true (type_of c) 4 types.1;
    }

-- the kind of a type
data FourTypes (t : ℕ) : Type 0 where
  one_type : t ≡ 1 → FourTypes t
  two_type : t ≡ 2 → FourTypes t
  three_type : t ≡ 3 → FourTypes t
  four_type : t ≡ 4 → FourTypes t

four-types : (t : ℕ) → 1 ≤ t → t ≤ 4 → FourTypes t
four-types t low high = elim (cases_lt t 2) [
  | inl a ↦ one_type (omega arith)
  | inr a ↦ elim (cases_lt t 3) [
    | inl b ↦ two_type (omega arith)
    | inr b ↦ elim (cases_lt t 4) [
      | inl d ↦ three_type (omega arith)
      | inr d ↦ four_type (omega arith)
    ]
  ]
]

record TypeFits (t : ℕ) (bytes : List ℕ) (place forward backward : ℕ) : Type 0 where
  number : type_number (kind_of t) ≡ t
  vectors : vectors_by (kind_of t) forward backward ≡ vector_fields bytes place (kind_of t)

type-fits : {t : ℕ} {bytes : List ℕ} {place forward backward : ℕ} → FourTypes t
    → ((t ≡ 2) ⊎ (t ≡ 3)
    → (forward ≡ get_or bytes (place + 7) 0 % 8 * 2 + get_or bytes (place + 8) 0 / 128)
    × (backward ≡ get_or bytes (place + 8) 0 / 8 % 16)) → TypeFits t bytes place forward backward
type-fits {bytes} {place} {forward} {backward} (one_type e) both =
    subst (λ m. TypeFits m bytes place forward backward) (sym e) (record { number = refl; vectors = refl })
type-fits {bytes} {place} {forward} {backward} (two_type e) both =
    subst (λ m. TypeFits m bytes place forward backward) (sym e) (record { number = refl; vectors = (both (inl e)).0 })
type-fits {bytes} {place} {forward} {backward} (three_type e) both =
    let its = both (inr e) in subst (λ m. TypeFits m bytes place forward backward) (sym e)
    (record {
      number = refl;
      vectors = ap (λ b. b * 16 + forward) its.1 ∙ ap (λ f. (get_or bytes (place + 8) 0 / 8 % 16) * 16 + f) its.0;
    })
type-fits {bytes} {place} {forward} {backward} (four_type e) both =
    subst (λ m. TypeFits m bytes place forward backward) (sym e) (record { number = refl; vectors = refl })

-- the fields of a picture's code are those of its header's bytes
fields-fit : {past : List Code} {place : ℕ} {unit : PictureUnit} (bytes : List ℕ)
    (f : CodeFields past place unit) → CodeHeader (read_after [] bytes) f.code → HasFields bytes place unit
fields-fit {place} bytes f header =
    let r = read_after [] bytes in
    let c = f.code in
    let at = f.place_is in
    let long = picture-long header.rate c header.end f.zero_is header.judged in
    let same : Same bytes r = record { byte = at-bytes bytes; long = length-read bytes [] ∙ omega arith } in
    let here = λ (k p : ℕ) (small : k < 5) (far : c.place + 4 + k < header.stop) (where_ : c.place + 4 + k ≡ p).
    header-byte k same small far header.is ∙ ap (λ i. get_or bytes i 0) where_ in
    let b0 : get_or c.header 0 0 ≡ get_or bytes (place + 4) 0 =
    here 0 (place + 4) (omega arith) (omega (arith, long.eight, header.far)) (omega (arith, at)) in
    let b1 : get_or c.header 1 0 ≡ get_or bytes (place + 5) 0 =
    here 1 (place + 5) (omega arith) (omega (arith, long.eight, header.far)) (omega (arith, at)) in
    let b3 : get_or c.header 3 0 ≡ get_or bytes (place + 7) 0 =
    here 3 (place + 7) (omega arith) (omega (arith, long.eight, header.far)) (omega (arith, at)) in
    let type_is : type_of c ≡ get_or bytes (place + 5) 0 / 8 % 8 = ap (λ b. b / 8 % 8) b1 in
    let fits = type-fits {bytes = bytes} {place = place} (four-types (type_of c) long.low long.high)
    (λ two. let b4 : get_or c.header 4 0 ≡ get_or bytes (place + 8) 0 =
    here 4 (place + 8) (omega arith) (omega (arith, long.nine two, header.far)) (omega (arith, at)) in (
      ap (λ b. b % 8 * 2 + get_or c.header 4 0 / 128) b3
          ∙ ap (λ b. get_or bytes (place + 7) 0 % 8 * 2 + b / 128) b4,
      ap (λ b. b / 8 % 16) b4,
    )) in
    record {
      temporal =
          f.temporal ∙ ap (λ b. b * 4 + get_or c.header 1 0 / 64) b0
          ∙ ap (λ b. get_or bytes (place + 4) 0 * 4 + b / 64) b1;
      kind = ap type_number f.kind ∙ fits.number ∙ type_is;
      vectors = f.vectors ∙ fits.vectors ∙ ap (λ (v : Kind). vector_fields bytes place v) (sym f.kind);
    }

-- a unit over these codes is one over the bytes
unit-bytes : (bytes : List ℕ) (past : List Code) (unit : PictureUnit)
    → ((place value : ℕ) → HasCode place value past ↔ IsCodeAt bytes place value)
    → AreHeaders (read_after [] bytes) past → Closed past unit → IsUnitOf bytes unit
unit-bytes bytes past unit both headers closed =
    unit-same (λ place value before. both place value) (λ place f. fields-fit bytes f (headers f.code f.member))
    closed.unit_is

whole-headers : (r : List ℕ) (past : List Code) (n : ℕ) → first_fault past ≡ None → end_fault past n ≡ None
    → HeadersAre r n past → AreHeaders r past
unfolding end_fault
whole-headers r [] n accepted ended headers c m = absurd m
whole-headers r (d ∷ past) n accepted ended headers c m =
    let are : AreJudged r d past = record {
      end = n;
      stop = n;
      accepted = accepted;
      judged = otherwise-first (latest_fault (d ∷ past) n) (last_fault (tally_of (d ∷ past))) ended;
      far = omega arith;
      headers = headers;
    } in
    code-header are m

pub film-standard : {bytes : List ℕ} {rate : ℕ} {units : List PictureUnit} {starts : List ℕ}
    → IsFilm bytes rate units starts → (k : ℕ) → OfUnit units k (λ u. IsUnitOf bytes u)
film-standard {bytes} {units} {starts} film k unit is =
    let r = read_after [] bytes in
    let past = codes_of r in
    let none = accepted-whole r film.accepted in
    let accepted = otherwise-first (first_fault past) (end_fault past (length r)) none in
    let ended = otherwise-second (first_fault past) (end_fault past (length r)) none in
    let placed = placed-codes r in
    let all = whole-closed past (length r) accepted ended placed.spaced
    (room-after past (latest_prefix r) (length r) placed.room) in
    let mine : AllClosed past (length r) units =
    subst (λ (l : List PictureUnit). AllClosed past (length r) l) (sym film.units) all in
    unit-bytes bytes past unit (codes-stand bytes)
    (whole-headers r past (length r) accepted ended (codes-headers r)) (all-at (length r) units k mine unit is)
