-- The codes of an accepted film stand in their order.
use Rattle.std.proofs.Common.{ℕ, Bool, true, false, cond, eqb, ltb, ◌&&◌, ◌||◌, ◌+◌, ◌≡◌, List, []}
use Rattle.std.proofs.Common.{◌∷◌, Option, Some, None, length, sym, ◌∙◌, ap, refl, subst, arith}
use Rattle.std.specs.Option.{is_some}
use Rattle.std.proofs.lemmas.Bool.{lt-ltb, false≢true, true≢false}
use Rattle.mpeg_scan.specs.declared.codes.Code.{Code}
use Rattle.mpeg_scan.specs.StartCodes.{codes_of}
use Rattle.mpeg_scan.specs.CodeFacts.{is_head, is_slice, tally_of, slice_count, latest_picture, header_of}
use Rattle.mpeg_scan.specs.FilmFaults.{code_fault, first_fault, end_fault, last_fault, latest_fault, refusal_of}
use Rattle.mpeg_scan.specs.Grammar.{Phase, nowhere, in_head, after_picture, in_slices, next_phase}
use Rattle.mpeg_scan.specs.Grammar.{then_phase, phase_after, IsGrammatical}
use Rattle.mpeg_scan.proofs.ScanStepLemmas.{accepted-older, code-accepted, otherwise-first, otherwise-second}
use Rattle.mpeg_scan.proofs.ScanStepLemmas.{accepted-whole}
use Rattle.mpeg_scan.proofs.PartTilingLemmas.{first-is, ended-none}
use Rattle.mpeg_scan.proofs.UnitNumberingLemmas.{CodeFits, code-fits, some-cond}

-- the phase by the words on codes. q: there are slices, has: there is a picture
abbrev pub phase_by : Bool → Bool → Phase
phase_by q has = cond q in_slices (cond has after_picture in_head)

-- a code after these, by the tests on its value
abbrev pub raw_next : Phase → Bool → Bool → Bool → Option Phase
raw_next nowhere t0 h s = None
raw_next in_head t0 h s = cond t0 (Some after_picture) (cond s None (Some in_head))
raw_next after_picture t0 h s = cond h None (cond s (Some in_slices) (Some after_picture))
raw_next in_slices t0 h s = cond t0 (Some after_picture) (cond h (Some in_head) (Some in_slices))

-- next_phase at a phase that isn't the first, by those tests
next-raw : (q has : Bool) (value : ℕ)
    → next_phase (phase_by q has) value ≡ raw_next (phase_by q has) (eqb value 0) (is_head value) (is_slice value)
next-raw true has value = refl
next-raw false true value = refl
next-raw false false value = refl

raw-phase : {s q has : Bool} (t0 x : Bool) (n : ℕ) → ltb 0 n ≡ q → CodeFits s (t0 || x) q has
    → raw_next (phase_by q has) t0 (t0 || x) s
    ≡ Some (phase_by (ltb 0 (cond (t0 || x) 0 (cond s (n + 1) n))) (cond t0 true (cond ((t0 || x) && q) false has)))
raw-phase {s = true} true x n is fits = absurd (true≢false (fits.apart refl))
raw-phase {s = true} false true n is fits = absurd (true≢false (fits.apart refl))
raw-phase {s = true} {q = true} {has} false false n is fits =
    ap (λ b. Some (phase_by b has)) (sym (lt-ltb 0 (n + 1) (omega arith)))
raw-phase {s = true} {q = false} {has = true} false false n is fits =
    ap (λ b. Some (phase_by b true)) (sym (lt-ltb 0 (n + 1) (omega arith)))
raw-phase {s = true} {q = false} {has = false} false false n is fits = absurd (false≢true (fits.with_picture refl refl))
raw-phase {s = false} {q = true} true x n is fits = refl
raw-phase {s = false} {q = false} {has = true} true x n is fits = absurd (true≢false (fits.alone refl refl))
raw-phase {s = false} {q = false} {has = false} true x n is fits = refl
raw-phase {s = false} {q = true} false true n is fits = refl
raw-phase {s = false} {q = false} {has = true} false true n is fits = absurd (true≢false (fits.alone refl refl))
raw-phase {s = false} {q = false} {has = false} false true n is fits = refl
raw-phase {s = false} {q = true} {has} false false n is fits = ap (λ b. Some (phase_by b has)) (sym is)
raw-phase {s = false} {q = false} {has = true} false false n is fits = ap (λ b. Some (phase_by b true)) (sym is)
raw-phase {s = false} {q = false} {has = false} false false n is fits = ap (λ b. Some (phase_by b false)) (sym is)

abbrev pub phase_of : List Code → Phase
phase_of past = phase_by (ltb 0 (slice_count past)) (is_some (latest_picture past))

phase-step : (c d : Code) (past : List Code) → code_fault (tally_of (d ∷ past)) c.place c.value ≡ None
    → next_phase (phase_of (d ∷ past)) c.value ≡ Some (phase_of (c ∷ (d ∷ past)))
phase-step c d past e =
    let older : List Code = d ∷ past in
    let t = tally_of older in
    let n = slice_count older in
    let q = ltb 0 n in
    next-raw q (is_some (latest_picture older)) c.value
    ∙ raw-phase (eqb c.value 0) (eqb c.value 0xb3 || eqb c.value 0xb8) n refl (code-fits c d past e)
    ∙ ap (λ b. Some (phase_by (ltb 0 (slice_count (c ∷ older))) b))
    (sym (some-cond (eqb c.value 0) (is_head c.value && q) (header_of c) (latest_picture older)))

first-phase : (c : Code) → c.value ≡ 0xb3 → next_phase nowhere c.value ≡ Some (phase_of (c ∷ []))
first-phase c is =
    subst (λ m. next_phase nowhere m
    ≡ Some (phase_by (ltb 0 (cond (is_head m) 0 (cond (is_slice m) (0 + 1) 0)))
    (is_some (cond (eqb m 0) (Some (header_of c)) (cond (true || (is_head m && ltb 0 0)) None None))))) (sym is) refl

phase-is : (c : Code) (past : List Code) → first_fault (c ∷ past) ≡ None
    → phase_after (c ∷ past) ≡ Some (phase_of (c ∷ past))
phase-is c [] accepted = first-phase c (first-is c accepted)
phase-is c (d ∷ past) accepted =
    ap (λ (o : Option Phase). then_phase o c.value) (phase-is d past (accepted-older c (d ∷ past) accepted))
    ∙ phase-step c d past (code-accepted c (d ∷ past) accepted)

whole-phase : (past : List Code) (n : ℕ) → first_fault past ≡ None → end_fault past n ≡ None
    → phase_after past ≡ Some in_slices
unfolding end_fault
whole-phase [] n accepted ended = absurd (omega (arith, ended-none (tally_of []) ended))
whole-phase (c ∷ past) n accepted ended =
    let some = ended-none (tally_of (c ∷ past))
    (otherwise-second (latest_fault (c ∷ past) n) (last_fault (tally_of (c ∷ past))) ended) in
    phase-is c past accepted
    ∙ ap (λ b. Some (phase_by b (is_some (latest_picture (c ∷ past))))) (lt-ltb 0 (slice_count (c ∷ past)) some)

-- the codes of an accepted film stand in their order
pub film-grammatical : (r : List ℕ) → refusal_of r ≡ None → IsGrammatical r
film-grammatical r e =
    let none = accepted-whole r e in
    whole-phase (codes_of r) (length r)
    (otherwise-first (first_fault (codes_of r)) (end_fault (codes_of r) (length r)) none)
    (otherwise-second (first_fault (codes_of r)) (end_fault (codes_of r) (length r)) none)
