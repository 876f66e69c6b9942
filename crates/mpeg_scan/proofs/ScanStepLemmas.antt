-- After one more byte, and one more code, the scanner's state still matches the bytes.
use Rattle.std.proofs.Common.{ℕ, Bool, true, false, cond, eqb, ltb, leb, ◌+◌, ◌-◌, ◌^◌, ◌<◌, ◌≤◌, ◌≡◌, List, [], ◌∷◌}
use Rattle.std.proofs.Common.{◌++◌, Option, Some, None, length, sym, ◌∙◌, ap, refl, subst, arith}
use Rattle.std.specs.Option.{option_map}
use Rattle.std.proofs.lemmas.Bool.{eqb-false, leb-false, ne_eqb, eq-eqb, le-ltb, lt-ltb, cond-true, cond-false}
use Rattle.std.proofs.lemmas.List.{append_assoc}
use Rattle.mpeg_scan.specs.declared.codes.Code.{Code}
use Rattle.mpeg_scan.specs.declared.faults.FilmFault.{FilmFault}
use Rattle.mpeg_scan.specs.declared.faults.FilmFault.TheVariants.{Empty, GroupTooLong, TooLong}
use Rattle.mpeg_scan.specs.declared.progress.Progress.{Progress}
use Rattle.mpeg_scan.specs.Tallies.{Tally}
use Rattle.mpeg_scan.specs.StartCodes.{latest_prefix, next_prefix, is_whole, note, note_latest, codes_of}
use Rattle.mpeg_scan.specs.CodeFacts.{tally_of, picture_count, before_group_of}
use Rattle.mpeg_scan.specs.FilmFaults.{first_refusal, latest_fault, value_fault, second_fault}
use Rattle.mpeg_scan.specs.FilmFaults.{first_slice_fault, count_fault, code_fault, fault_at}
use Rattle.mpeg_scan.specs.FilmFaults.{first_fault, end_fault, last_fault, refusal_of}
use Rattle.mpeg_scan.specs.Calls.{Call, calls_at, calls_of}
use Rattle.mpeg_scan.specs.CodeSteps.{next, tally_with, code_judgement, end_judgement, latest_of, older_of}
use Rattle.mpeg_scan.specs.ScannerState.{HasReadBytes, scan_with_byte, scan_with_code}
use Rattle.mpeg_scan.proofs.CodeLemmas.{matched-more}

pub positive : (n : ℕ) → eqb n 0 ≡ false → 0 < n
positive n e = omega (arith, eqb-false n 0 e)

-- a choice that came to no fault
pub some-cond-none : (b : Bool) (f : FilmFault) (rest : Option FilmFault) → cond b (Some f) rest ≡ None
    → (b ≡ false) × (rest ≡ None)
some-cond-none true f rest e = absurd (cc)
some-cond-none false f rest e = (refl, e)

pub none-cond : (b : Bool) (f : FilmFault) → cond b None (Some f) ≡ None → b ≡ true
none-cond true f e = refl
none-cond false f e = absurd (cc)

-- ---- the codes of a byte more

pub codes-plain : (x : ℕ) (r : List ℕ) → is_whole (latest_prefix r) ≡ false
    → codes_of (x ∷ r) ≡ note_latest (codes_of r) x
unfolding codes_of
codes-plain x r e =
    let new : List Code = record { place = length r - 3; value = x; header = [] } ∷ note_latest (codes_of r) x in
    cond-false (is_whole (latest_prefix r)) new (note_latest (codes_of r) x) e

pub codes-code : (x : ℕ) (r : List ℕ) → is_whole (latest_prefix r) ≡ true
    → codes_of (x ∷ r) ≡ record { place = length r - 3; value = x; header = [] } ∷ note_latest (codes_of r) x
unfolding codes_of
codes-code x r e =
    let new : List Code = record { place = length r - 3; value = x; header = [] } ∷ note_latest (codes_of r) x in
    cond-true (is_whole (latest_prefix r)) new (note_latest (codes_of r) x) e

pub latest-note : (past : List Code) (x : ℕ)
    → latest_of (note_latest past x) ≡ option_map (λ c. note c x) (latest_of past)
latest-note [] x = refl
latest-note (c ∷ past) x = refl

pub older-note : (past : List Code) (x : ℕ) → older_of (note_latest past x) ≡ older_of past
older-note [] x = refl
older-note (c ∷ past) x = refl

pub first_fault-note : (past : List Code) (x : ℕ) → first_fault (note_latest past x) ≡ first_fault past
unfolding first_fault
first_fault-note [] x = refl
first_fault-note (c ∷ past) x = refl

pub calls-note : (past : List Code) (x : ℕ) → calls_of (note_latest past x) ≡ calls_of past
unfolding calls_of
calls-note [] x = refl
calls-note (c ∷ past) x = refl

pub codes-none : codes_of [] ≡ []
unfolding codes_of
codes-none = refl

-- ---- bounds

pub otherwise-first : (f g : Option FilmFault) → first_refusal f g ≡ None → f ≡ None
otherwise-first None g e = refl
otherwise-first (Some f) g e = e

pub otherwise-second : (f g : Option FilmFault) → first_refusal f g ≡ None → g ≡ None
otherwise-second None g e = e
otherwise-second (Some f) g e = absurd (cc)

pub accepted-older : (c : Code) (past : List Code) → first_fault (c ∷ past) ≡ None → first_fault past ≡ None
unfolding first_fault
accepted-older c past e = otherwise-first (first_fault past) (fault_at past c.place c.value) e

-- a code of an accepted list is refused by none of its points
pub code-accepted : (c : Code) (past : List Code) → first_fault (c ∷ past) ≡ None
    → code_fault (tally_of past) c.place c.value ≡ None
unfolding first_fault fault_at
code-accepted c past e =
    let t = tally_of past in
    let at_code =
    otherwise-second (first_fault past) (first_refusal (latest_fault past c.place) (code_fault t c.place c.value)) e in
    otherwise-second (latest_fault past c.place) (code_fault t c.place c.value) at_code

pub count-accepted : (t : Tally) (place value : ℕ) → code_fault t place value ≡ None
    → count_fault t place value ≡ None
count-accepted t place value e =
    let first = first_slice_fault t place value in
    let count = count_fault t place value in
    otherwise-second first count
    (otherwise-second (second_fault t value) (first_refusal first count)
    (otherwise-second (value_fault t place value)
    (first_refusal (second_fault t value) (first_refusal first count)) e))

pub counted : {q : Bool} {p : ℕ} (b g : Bool) (place : ℕ) → leb 4194304 p ≡ q
    → cond b (cond g (Some (GroupTooLong place)) (cond q (Some TooLong) None)) None ≡ None → p ≤ 4194304
    → cond b (p + 1) p ≤ 4194304
counted false g place test none bound = bound
counted true true place test none bound = absurd (cc)
counted {q = true} true false place test none bound = absurd (cc)
counted {q = false} {p} true false place test none bound = omega (arith, leb-false 4194304 p test)

pub pictures-bound : (past : List Code) → first_fault past ≡ None → picture_count past ≤ 4194304
pictures-bound [] e = omega arith
pictures-bound (c ∷ past) e =
    counted {p = picture_count past} (eqb c.value 0) (leb 1024 (picture_count past - before_group_of past)) c.place
    refl (count-accepted (tally_of past) c.place c.value (code-accepted c past e))
    (pictures-bound past (accepted-older c past e))

-- ---- the tally with the latest code

pub next-tally : (past : List Code) (c : Code) → next (tally_of past) c ≡ tally_of (c ∷ past)
unfolding next
next-tally [] c = refl
next-tally (d ∷ past) c = refl

pub tally_now-is : (past : List Code) → tally_with (latest_of past) (tally_of (older_of past)) ≡ tally_of past
tally_now-is [] = refl
tally_now-is (c ∷ past) = next-tally past c

pub code_judgement-is : (past : List Code) (place value : ℕ)
    → code_judgement (latest_of past) (tally_of (older_of past)) place value ≡ fault_at past place value
unfolding code_judgement fault_at
code_judgement-is [] place value = refl
code_judgement-is (c ∷ past) place value =
    ap (λ (t : Tally). first_refusal (latest_fault (c ∷ past) place) (code_fault t place value)) (next-tally past c)

-- ---- a byte

-- the codes before the latest one are as many, and the scanner's are accepted too
pub note-accepted : (r : List ℕ) (x : ℕ) → first_fault (codes_of r) ≡ None
    → first_fault (note_latest (codes_of r) x) ≡ None
note-accepted r x accepted = first_fault-note (codes_of r) x ∙ accepted

pub fed-plain : (s : Progress) (r : List ℕ) (x : ℕ) → HasReadBytes s r → is_whole (latest_prefix r) ≡ false
    → HasReadBytes (scan_with_byte s x) (x ∷ r)
fed-plain s r x kept plain =
    let codes = codes-plain x r plain in record {
      fed = omega (arith, kept.fed);
      prefix = ap (λ p. next_prefix p x) kept.prefix ∙ sym (matched-more x r);
      latest =
          ap (option_map (λ c. note c x)) kept.latest ∙ sym (latest-note (codes_of r) x) ∙ ap latest_of (sym codes);
      tally = kept.tally ∙ ap tally_of (sym (older-note (codes_of r) x) ∙ ap older_of (sym codes));
      accepted = ap first_fault codes ∙ note-accepted r x kept.accepted;
    }

-- what the scanner judges a code by, once its byte is noted
pub code_judgement-next : {s : Progress} {r : List ℕ} (x place value : ℕ) → HasReadBytes s r
    → code_judgement (scan_with_byte s x).latest s.tally place value ≡ fault_at (note_latest (codes_of r) x) place value
code_judgement-next {s} {r} x place value kept =
    let past = note_latest (codes_of r) x in
    ap (λ (l : Option Code). code_judgement l s.tally place value)
    (ap (option_map (λ c. note c x)) kept.latest ∙ sym (latest-note (codes_of r) x))
    ∙ ap (λ (t : Tally). code_judgement (latest_of past) t place value)
    (kept.tally ∙ ap tally_of (sym (older-note (codes_of r) x)))
    ∙ code_judgement-is past place value

pub tally-noted : (s : Progress) (r : List ℕ) (x : ℕ) → HasReadBytes s r
    → tally_with (scan_with_byte s x).latest s.tally ≡ tally_of (note_latest (codes_of r) x)
tally-noted s r x kept =
    let past = note_latest (codes_of r) x in
    ap (λ (l : Option Code). tally_with l s.tally)
    (ap (option_map (λ c. note c x)) kept.latest ∙ sym (latest-note (codes_of r) x))
    ∙ ap (λ (t : Tally). tally_with (latest_of past) t) (kept.tally ∙ ap tally_of (sym (older-note (codes_of r) x)))
    ∙ tally_now-is past

first_fault-code : (past : List Code) (place value : ℕ) → first_fault past ≡ None
    → first_fault (record { place = place; value = value; header = [] } ∷ past) ≡ fault_at past place value
unfolding first_fault
first_fault-code past place value accepted =
    ap (λ (f : Option FilmFault). first_refusal f (fault_at past place value)) accepted

-- the refusal at a code, and that there is none
pub first_fault-at : (s : Progress) (r : List ℕ) (x : ℕ) → HasReadBytes s r
    → is_whole (latest_prefix r) ≡ true
    → first_fault (codes_of (x ∷ r)) ≡ code_judgement (scan_with_byte s x).latest s.tally (s.fed - 3) x
first_fault-at s r x kept whole =
    let past = note_latest (codes_of r) x in
    ap first_fault (codes-code x r whole) ∙ first_fault-code past (length r - 3) x (note-accepted r x kept.accepted)
    ∙ ap (λ n. fault_at past (n - 3) x) (sym kept.fed) ∙ sym (code_judgement-next x (s.fed - 3) x kept)

pub fed-code : {s : Progress} {r : List ℕ} {x : ℕ} → HasReadBytes s r
    → is_whole (latest_prefix r) ≡ true
    → code_judgement (scan_with_byte s x).latest s.tally (s.fed - 3) x ≡ None
    → HasReadBytes (scan_with_code (scan_with_byte s x) (s.fed - 3) x) (x ∷ r)
fed-code {s} {r} {x} kept whole none =
    let codes = codes-code x r whole in
    let past = note_latest (codes_of r) x in record {
      fed = omega (arith, kept.fed);
      prefix = ap (λ p. next_prefix p x) kept.prefix ∙ sym (matched-more x r);
      latest =
          ap (λ n. latest_of (record { place = n - 3; value = x; header = [] } ∷ past)) kept.fed
          ∙ ap latest_of (sym codes);
      tally = tally-noted s r x kept ∙ ap (λ (l : List Code). tally_of (older_of l)) (sym codes);
      accepted = first_fault-at s r x kept whole ∙ none;
    }

pub calls-cons : (c : Code) (past : List Code)
    → calls_of (c ∷ past) ≡ calls_of past ++ calls_at (tally_of past) c.place c.value
unfolding calls_of
calls-cons c past = refl

-- what is reported at a byte
pub calls-plain : (x : ℕ) (r : List ℕ) → is_whole (latest_prefix r) ≡ false
    → calls_of (codes_of (x ∷ r)) ≡ calls_of (codes_of r)
calls-plain x r plain = ap calls_of (codes-plain x r plain) ∙ calls-note (codes_of r) x

pub calls-at_code : (s : Progress) (r : List ℕ) (x : ℕ) → HasReadBytes s r
    → is_whole (latest_prefix r) ≡ true
    → calls_of (codes_of (x ∷ r))
    ≡ calls_of (codes_of r) ++ calls_at (tally_with (scan_with_byte s x).latest s.tally) (s.fed - 3) x
calls-at_code s r x kept whole =
    let past = note_latest (codes_of r) x in
    ap calls_of (codes-code x r whole) ∙ calls-cons (record { place = length r - 3; value = x; header = [] }) past
    ∙ ap (λ (l : List Call). l ++ calls_at (tally_of past) (length r - 3) x) (calls-note (codes_of r) x)
    ∙ ap (λ (t : Tally). calls_of (codes_of r) ++ calls_at t (length r - 3) x) (sym (tally-noted s r x kept))
    ∙ ap (λ n. calls_of (codes_of r) ++ calls_at (tally_with (scan_with_byte s x).latest s.tally) (n - 3) x)
    (sym kept.fed)

-- ---- as the code takes a byte

whole-read : {s : Progress} {r : List ℕ} {b : Bool} → HasReadBytes s r → is_whole s.prefix ≡ b
    → is_whole (latest_prefix r) ≡ b
whole-read kept is = sym (ap is_whole kept.prefix) ∙ is

pub taken-plain : {s : Progress} {r : List ℕ} {x : ℕ} → is_whole s.prefix ≡ false → HasReadBytes s r
    → HasReadBytes (scan_with_byte s x) (x ∷ r)
taken-plain {s} {r} {x} plain kept = fed-plain s r x kept (whole-read kept plain)

-- the byte that ends a start code is noted
pub record NotedCode : Type 0 where
  pub before : Progress
  pub noted : Progress
  pub byte : ℕ
  pub whole : is_whole before.prefix ≡ true
  pub is : noted ≡ scan_with_byte before byte

abbrev pub code-noted : {n : Progress} (s : Progress) (x : ℕ) → true ≡ is_whole s.prefix → n ≡ scan_with_byte s x
    → NotedCode
code-noted {n} s x whole is = record { before = s; noted = n; byte = x; whole = sym whole; is = is }

abbrev pub judged_at : NotedCode → Progress → Option FilmFault
judged_at c n = code_judgement n.latest n.tally (c.before.fed - 3) c.byte

pub taken-code : {m : Progress} {r : List ℕ} (c : NotedCode) → HasReadBytes c.before r
    → (judged_at c c.noted ≡ None) × (m ≡ scan_with_code c.noted (c.before.fed - 3) c.byte)
    → HasReadBytes m (c.byte ∷ r)
taken-code {r} c kept h =
    let none = ap (judged_at c) (sym c.is) ∙ h.0 in
    let became = h.1 ∙ ap (λ (v : Progress). scan_with_code v (c.before.fed - 3) c.byte) c.is in
    subst (λ (v : Progress). HasReadBytes v (c.byte ∷ r)) (sym became) (fed-code kept (whole-read kept c.whole) none)

pub taken-fault : {r : List ℕ} {f : FilmFault} (c : NotedCode) → HasReadBytes c.before r
    → judged_at c c.noted ≡ Some f → first_fault (codes_of (c.byte ∷ r)) ≡ Some f
taken-fault {r} c kept h =
    first_fault-at c.before r c.byte kept (whole-read kept c.whole) ∙ ap (judged_at c) (sym c.is) ∙ h

pub taken-calls : {r : List ℕ} (c : NotedCode) → HasReadBytes c.before r → (calls : List Call)
    → (calls ++ calls_of (codes_of r)) ++ calls_at (tally_with c.noted.latest c.noted.tally) (c.before.fed - 3) c.byte
    ≡ calls ++ calls_of (codes_of (c.byte ∷ r))
taken-calls {r} c kept calls =
    let place = c.before.fed - 3 in
    append_assoc calls (calls_of (codes_of r)) (calls_at (tally_with c.noted.latest c.noted.tally) place c.byte)
    ∙ ap (λ (v : Progress). calls ++ (calls_of (codes_of r) ++ calls_at (tally_with v.latest v.tally) place c.byte))
    c.is
    ∙ ap (λ (l : List Call). calls ++ l) (sym (calls-at_code c.before r c.byte kept (whole-read kept c.whole)))

pub taken-none : {s : Progress} {r : List ℕ} (x : ℕ) → is_whole s.prefix ≡ false → HasReadBytes s r
    → (calls : List Call) → calls ++ calls_of (codes_of r) ≡ calls ++ calls_of (codes_of (x ∷ r))
taken-none {s} {r} x plain kept calls =
    ap (λ (l : List Call). calls ++ l) (sym (calls-plain x r (whole-read kept plain)))

-- ---- the film's end

end_fault-is : (past : List Code) (end : ℕ)
    → end_judgement (latest_of past) (tally_of (older_of past)) end ≡ end_fault past end
unfolding end_judgement end_fault
end_fault-is [] end = refl
end_fault-is (c ∷ past) end =
    ap (λ (t : Tally). first_refusal (latest_fault (c ∷ past) end) (last_fault t))
    (next-tally past c)

end_judgement-is : (s : Progress) (r : List ℕ) → HasReadBytes s r
    → end_judgement s.latest s.tally s.fed ≡ end_fault (codes_of r) (length r)
end_judgement-is s r kept =
    ap (λ (l : Option Code). end_judgement l s.tally s.fed) kept.latest
    ∙ ap (λ (t : Tally). end_judgement (latest_of (codes_of r)) t s.fed) kept.tally
    ∙ ap (end_judgement (latest_of (codes_of r)) (tally_of (older_of (codes_of r)))) kept.fed
    ∙ end_fault-is (codes_of r) (length r)

-- the refusal of a film by its size, and else that of its codes
abbrev codes_refusal : List ℕ → Option FilmFault
codes_refusal r = first_refusal (first_fault (codes_of r)) (end_fault (codes_of r) (length r))

abbrev sized_refusal : List ℕ → Option FilmFault
sized_refusal r = cond (ltb (2 ^ 40) (length r)) (Some TooLong) (codes_refusal r)

refusal-of_none : (r : List ℕ) → length r ≡ 0 → refusal_of r ≡ Some Empty
unfolding refusal_of
refusal-of_none r none = cond-true (eqb (length r) 0) (Some Empty) (sized_refusal r) (eq-eqb (length r) 0 none)

refusal-of_some : (r : List ℕ) → 0 < length r → refusal_of r ≡ sized_refusal r
unfolding refusal_of
refusal-of_some r some =
    cond-false (eqb (length r) 0) (Some Empty) (sized_refusal r) (ne_eqb (length r) 0 (λ none. absurd (omega arith)))

pub refusal-of_many : (r : List ℕ) → 2 ^ 40 < length r → refusal_of r ≡ Some TooLong
refusal-of_many r many =
    refusal-of_some r (omega (arith, many))
    ∙ cond-true (ltb (2 ^ 40) (length r)) (Some TooLong) (codes_refusal r) (lt-ltb (2 ^ 40) (length r) many)

pub refusal-of_codes : (r : List ℕ) → 0 < length r → length r ≤ 2 ^ 40
    → refusal_of r ≡ first_refusal (first_fault (codes_of r)) (end_fault (codes_of r) (length r))
refusal-of_codes r some short =
    refusal-of_some r some
    ∙ cond-false (ltb (2 ^ 40) (length r)) (Some TooLong) (codes_refusal r) (le-ltb (2 ^ 40) (length r) short)

-- that of an accepted film
pub accepted-whole : (r : List ℕ) → refusal_of r ≡ None
    → first_refusal (first_fault (codes_of r)) (end_fault (codes_of r) (length r)) ≡ None
unfolding refusal_of
accepted-whole r e =
    (some-cond-none (ltb (2 ^ 40) (length r)) TooLong (codes_refusal r)
    (some-cond-none (eqb (length r) 0) Empty (sized_refusal r) e).1).1

refusal-by : (r : List ℕ) → 0 < length r → length r ≤ 2 ^ 40 → first_fault (codes_of r) ≡ None
    → refusal_of r ≡ end_fault (codes_of r) (length r)
refusal-by r some short accepted =
    refusal-of_codes r some short
    ∙ ap (λ (f : Option FilmFault). first_refusal f (end_fault (codes_of r) (length r))) accepted

pub refusal-empty : (s : Progress) (r : List ℕ) → s.fed ≡ 0 → HasReadBytes s r → refusal_of r ≡ Some Empty
refusal-empty s r none kept = refusal-of_none r (sym kept.fed ∙ none)

pub refusal-long : (s : Progress) (r : List ℕ) → 2 ^ 40 < s.fed → HasReadBytes s r → refusal_of r ≡ Some TooLong
refusal-long s r long kept = refusal-of_many r (omega (arith, kept.fed, long))

pub refusal-is : (s : Progress) (r : List ℕ) → 0 < s.fed → s.fed ≤ 2 ^ 40 → HasReadBytes s r
    → refusal_of r ≡ end_judgement s.latest s.tally s.fed
refusal-is s r some short kept =
    refusal-by r (omega (arith, kept.fed)) (omega (arith, kept.fed)) kept.accepted ∙ sym (end_judgement-is s r kept)

pub tally-ended : (s : Progress) (r : List ℕ) → HasReadBytes s r → tally_with s.latest s.tally ≡ tally_of (codes_of r)
tally-ended s r kept =
    ap (λ (l : Option Code). tally_with l s.tally) kept.latest
    ∙ ap (λ (t : Tally). tally_with (latest_of (codes_of r)) t) kept.tally
    ∙ tally_now-is (codes_of r)
