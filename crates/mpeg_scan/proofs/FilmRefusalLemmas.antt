-- A film is refused exactly where the standard's words say, and for what they say.
use Rattle.std.proofs.Common.{ℕ, ltb, ◌^◌, ◌<◌, ◌≤◌, ◌≡◌, ◌↔◌, List}
use Rattle.std.proofs.Common.{[], ◌∷◌, Option, Some, None, length, sym, ◌∙◌, ap, refl, subst, inl, inr, arith}
use Rattle.std.proofs.lemmas.Bool.{eqb-true, eq-eqb, ltb-true, ltb-false, lt-ltb}
use Rattle.mpeg_scan.specs.declared.codes.Code.{Code}
use Rattle.mpeg_scan.specs.declared.faults.FilmFault.{FilmFault}
use Rattle.mpeg_scan.specs.declared.faults.FilmFault.TheVariants.{NoSequence, HeadWithoutPicture}
use Rattle.mpeg_scan.specs.declared.tallies.Header.{Header}
use Rattle.mpeg_scan.specs.StartCodes.{read_after, codes_of, latest_prefix}
use Rattle.mpeg_scan.specs.CodeFacts.{latest_picture, slice_count, tally_of, latest_unit}
use Rattle.mpeg_scan.specs.FilmFaults.{end_fault, fault_at, first_fault, last_fault, latest_fault}
use Rattle.mpeg_scan.specs.FilmFaults.{left_without_slices, open_fault, first_refusal, refusal_of}
use Rattle.mpeg_scan.specs.Films.{refusal}
use Rattle.mpeg_scan.specs.CodePlaces.{IsCodeAt}
use Rattle.mpeg_scan.specs.StandardRefusals.{CodeRefusal, EndRefusal, FirstRefusal, HeaderRefusal, IsOpenHead}
use Rattle.mpeg_scan.specs.StandardRefusals.{IsRefusedFor, LacksCodes, LacksPicture, LacksSlices, Otherwise}
use Rattle.mpeg_scan.specs.StandardUnits.{AnyValue, StandsThere}
use Rattle.mpeg_scan.proofs.FilmLemmas.{length-read}
use Rattle.mpeg_scan.proofs.ScanStepLemmas.{accepted-older, otherwise-second}
use Rattle.mpeg_scan.proofs.CodePlaceLemmas.{at-bytes, codes-stand}
use Rattle.mpeg_scan.proofs.HeaderByteLemmas.{codes-headers}
use Rattle.mpeg_scan.proofs.CodeSpacingLemmas.{all-below, placed-codes, room-after}
use Rattle.std.proofs.lemmas.Option.{same_Some}
use Rattle.mpeg_scan.proofs.DecisionLemmas.{Decides, both, both-cond, by-test, neither, no-more, none-of}
use Rattle.mpeg_scan.proofs.DecisionLemmas.{only-first, only-second}
use Rattle.mpeg_scan.proofs.CodesBeforeLemmas.{Knows, PictureThere, earlier, has-new, here, known, new-below, not-open}
use Rattle.mpeg_scan.proofs.CodesBeforeLemmas.{one-head, open-head, picture-there, slice-there, where-is}
use Rattle.mpeg_scan.proofs.HeaderLemmas.{Film, film-older, latest-decides}
use Rattle.mpeg_scan.proofs.RefusalLemmas.{begins-after, code-decides, picture-slices}

-- where the codes before a place are accepted, none of them is refused
abbrev Clear : List ℕ → ℕ → Type 0
Clear bytes end = (other : ℕ) → StandsThere (IsCodeAt bytes) other AnyValue → other < end → (g : FilmFault) →
    CodeRefusal (IsCodeAt bytes) bytes other g → ⊥

all-clear : {bytes : List ℕ} {past : List Code} {end : ℕ} → Film bytes past end → first_fault past ≡ None
    → Clear bytes end
unfolding first_fault
all-clear {past = []} film accepted other code before g refused = film.knows.back other code.0 code.1.0 before
all-clear {bytes} {past = c ∷ past} film accepted other code before g refused =
    let before_that = accepted-older c past accepted in
    let Refusal = CodeRefusal (IsCodeAt bytes) bytes in
    elim (where-is (known film.knows) code.1.0 before) [
      | here e m ↦ no-more (Refusal c.place) (fault_at past c.place c.value) (code-decides film before_that)
          (otherwise-second (first_fault past) (fault_at past c.place c.value) accepted) g
          (subst (λ v. Refusal v g) (sym e) refused)
      | earlier far ↦ all-clear {past = past} (film-older film) before_that other code far g refused
    ]

-- the first of the codes before a place that is refused
record FirstBefore (bytes : List ℕ) (end : ℕ) (f : FilmFault) : Type 0 where
  at : ℕ
  code : StandsThere (IsCodeAt bytes) at AnyValue
  before : at < end
  refused : CodeRefusal (IsCodeAt bytes) bytes at f
  first : Clear bytes at

accepted-by : (P : FilmFault → Type 0) (o : Option FilmFault) → Decides P o →
    ((f : FilmFault) → P f → ⊥) → o ≡ None
accepted-by P None is none = refl
accepted-by P (Some f) is none = absurd (none f ((is f).0 refl))

first-decides : {bytes : List ℕ} {past : List Code} {end : ℕ} → Film bytes past end
    → Decides (FirstBefore bytes end) (first_fault past)
unfolding first_fault
first-decides {bytes} {past = []} {end} film =
    none-of (FirstBefore bytes end) (λ f p. film.knows.back p.at p.code.0 p.code.1.0 p.before)
first-decides {bytes} {past = c ∷ past} film =
    let s = known film.knows in
    let Refusal = CodeRefusal (IsCodeAt bytes) bytes in
    let older = first-decides {past = past} (film-older film) in
    let clear = λ (never : (g : FilmFault) → FirstBefore bytes c.place g → ⊥).
    all-clear (film-older film) (accepted-by (FirstBefore bytes c.place) (first_fault past) older never) in
    let step = both (FirstBefore bytes c.place) (Refusal c.place) (first_fault past) (fault_at past c.place c.value)
    older (λ none. code-decides film none) in
    λ f. (
      λ e. elim ((step f).0 e) [
        | inl it ↦ record {
          at = it.at;
          code = it.code;
          before = omega (arith, it.before, new-below s);
          refused = it.refused;
          first = it.first;
        }
        | inr new ↦ record {
          at = c.place;
          code = (c.value, (has-new s, tt));
          before = new-below s;
          refused = new.1;
          first = clear new.0;
        }
      ],
      λ p. (step f).1 (elim (where-is s p.code.1.0 p.before) [
        | here e m ↦ inr (
          (λ g it. p.first it.at it.code (omega (arith, it.before, e)) g it.refused),
          subst (λ v. Refusal v f) (sym e) p.refused,
        )
        | earlier far ↦ inl (record { at = p.at; code = p.code; before = far; refused = p.refused; first = p.first })
      ]),
    )

-- ---- the end

open-decides : {Has : ℕ → ℕ → Type 0} {end : ℕ} (past : List Code) (o : Option Header)
    → IsOpenHead Has (latest_unit past) end → PictureThere Has (latest_unit past) end o
    → Decides (Otherwise (LacksSlices Has end) (LacksPicture Has end)) (Some (open_fault (tally_of past) o))
open-decides {Has} {end} past None head none =
    let unit = latest_unit past in
    only-second (LacksSlices Has end) (LacksPicture Has end) (Some (HeadWithoutPicture unit))
    (no-more (LacksSlices Has end) None (picture-slices {unit = unit} None head none) refl)
    (λ f. (
      λ e. record { unit = unit; open_head = head; none = none; is = sym (same_Some (HeadWithoutPicture unit) f e) },
      λ p. ap (λ u. Some (HeadWithoutPicture u)) (one-head head p.open_head) ∙ ap Some (sym p.is),
    ))
open-decides {Has} {end} past (Some h) head picture =
    only-first (LacksSlices Has end) (LacksPicture Has end) (Some (left_without_slices h))
    (picture-slices (Some h) head picture)
    (λ f p. p.none h.place 0 picture.code
    (subst (λ u. u ≤ h.place) (one-head head p.open_head) picture.after) picture.before refl)

last-decides : {Has : ℕ → ℕ → Type 0} {past : List Code} {end : ℕ} → Knows Has past end
    → ((place value : ℕ) → Has place value → place < end)
    → Decides (Otherwise (LacksCodes Has) (Otherwise (LacksSlices Has end) (LacksPicture Has end)))
    (last_fault (tally_of past))
last-decides {Has} {past = []} {end} k all =
    only-first (LacksCodes Has) (Otherwise (LacksSlices Has end) (LacksPicture Has end))
    (Some NoSequence)
    (λ f. (
      λ e. ((λ place value has. k.back place value has (all place value has)), sym (same_Some NoSequence f e)),
      λ p. ap Some (sym p.1),
    ))
    (neither (LacksSlices Has end) (LacksPicture Has end)
    (λ f p. begins-after k p.open_head) (λ f p. begins-after k p.open_head))
last-decides {Has} {past = c ∷ past} {end} k all =
    let n = slice_count (c ∷ past) in
    only-second (LacksCodes Has) (Otherwise (LacksSlices Has end) (LacksPicture Has end))
    (last_fault (tally_of (c ∷ past))) (λ f p. p.0 c.place c.value (has-new (known k)))
    (by-test (ltb 0 n)
    (λ some. let s = slice-there k (ltb-true 0 n some) in
    none-of (Otherwise (LacksSlices Has end) (LacksPicture Has end))
    (neither (LacksSlices Has end) (LacksPicture Has end)
    (λ f p. not-open s p.open_head) (λ f p. not-open s p.open_head)))
    (λ none. open-decides (c ∷ past) (latest_picture (c ∷ past))
    (open-head k (omega (arith, ltb-false 0 n none))) (picture-there k)))

end-decides : {bytes : List ℕ} {past : List Code} {end : ℕ} → Film bytes past end
    → ((place value : ℕ) → IsCodeAt bytes place value → place < end) → first_fault past ≡ None
    → Decides (EndRefusal (IsCodeAt bytes) bytes end) (end_fault past end)
unfolding end_fault
end-decides {bytes} {past} {end} film all accepted =
    let Has = IsCodeAt bytes in
    both (HeaderRefusal Has bytes end)
    (Otherwise (LacksCodes Has) (Otherwise (LacksSlices Has end) (LacksPicture Has end)))
    (latest_fault past end) (last_fault (tally_of past)) (latest-decides film accepted)
    (λ _. last-decides film.knows all)

-- ---- a film

first-anywhere : {bytes : List ℕ} {end : ℕ} {o : Option FilmFault}
    → ((place value : ℕ) → IsCodeAt bytes place value → place < end) → Decides (FirstBefore bytes end) o
    → Decides (FirstRefusal (IsCodeAt bytes) bytes) o
first-anywhere all is f = (
  λ e. let it = (is f).0 e in record { at = it.at; code = it.code; refused = it.refused; first = it.first },
  λ p. (is f).1 (record {
    at = p.at;
    code = p.code;
    before = all p.at p.code.0 p.code.1.0;
    refused = p.refused;
    first = p.first;
  }),
)

code-below : (bytes : List ℕ) (n place value : ℕ) → n ≡ length bytes → IsCodeAt bytes place value →
    place < n
code-below bytes n place value long has = omega (arith, has.fits, long)

codes-decide : (bytes : List ℕ) →
    Decides (Otherwise (FirstRefusal (IsCodeAt bytes) bytes)
    (EndRefusal (IsCodeAt bytes) bytes (length bytes)))
    (first_refusal (first_fault (codes_of (read_after [] bytes)))
    (end_fault (codes_of (read_after [] bytes)) (length (read_after [] bytes))))
codes-decide bytes =
    let r = read_after [] bytes in
    let n = length r in
    let past = codes_of r in
    let Has = IsCodeAt bytes in
    let long : n ≡ length bytes = length-read bytes [] ∙ omega arith in
    let placed = placed-codes r in
    let all = λ (place value : ℕ)
    (has : IsCodeAt bytes place value). code-below bytes n place value long has in
    let film : Film bytes past n = record {
      read = r;
      stop = n;
      same = record { byte = at-bytes bytes; long = long };
      knows = record {
        there = λ place value has. (codes-stand bytes place value).0 has;
        below = all-below past placed.spaced (room-after past (latest_prefix r) n placed.room);
        back = λ place value has before. (codes-stand bytes place value).1 has;
        spaced = placed.spaced;
      };
      headers = codes-headers r;
      far = omega arith;
    } in
    subst (λ m. Decides (Otherwise (FirstRefusal Has bytes) (EndRefusal Has bytes m))
    (first_refusal (first_fault past) (end_fault past n))) long
    (both (FirstRefusal Has bytes) (EndRefusal Has bytes n) (first_fault past) (end_fault past n)
    (first-anywhere all (first-decides film))
    (λ none. end-decides film all none))

film-decides : (bytes : List ℕ) → Decides (IsRefusedFor bytes) (refusal_of (read_after [] bytes))
unfolding refusal_of
film-decides bytes =
    let r = read_after [] bytes in
    let long : length r ≡ length bytes = length-read bytes [] ∙ omega arith in
    let judged = first_refusal (first_fault (codes_of r)) (end_fault (codes_of r) (length r)) in
    let Codes = Otherwise (FirstRefusal (IsCodeAt bytes) bytes)
    (EndRefusal (IsCodeAt bytes) bytes (length bytes)) in
    both-cond
    (λ e. (sym long ∙ eqb-true (length r) 0 e, refl))
    (λ g p. (eq-eqb (length r) 0 (long ∙ p.0), p.1))
    (λ _. both-cond
    (λ e. (subst (λ n. 2 ^ 40 < n) long (ltb-true (2 ^ 40) (length r) e), refl))
    (λ g p. (lt-ltb (2 ^ 40) (length r) (subst (λ n. 2 ^ 40 < n) (sym long) p.0), p.1))
    (λ _. codes-decide bytes))

pub film-refused : (bytes : List ℕ) (f : FilmFault) →
    (refusal bytes ≡ Some f) ↔ IsRefusedFor bytes f
film-refused bytes f = film-decides bytes f

pub film-accepted : (bytes : List ℕ) →
    (refusal bytes ≡ None) ↔ ((f : FilmFault) → IsRefusedFor bytes f → ⊥)
film-accepted bytes = (
  λ none f p. no-more (IsRefusedFor bytes) (refusal bytes) (film-decides bytes) none f p,
  λ none. accepted-by (IsRefusedFor bytes) (refusal bytes) (film-decides bytes) none,
)
