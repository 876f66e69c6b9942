-- Which line of a text that is no certificate is the bad one.
use Rattle.std.proofs.Common.{◌≡◌, ◌≢◌, ◌<◌, ◌≤◌, ◌+◌, ◌⊎◌, ℕ, List, [], ◌∷◌, ◌++◌, All, length, get_or}
use Rattle.std.proofs.Common.{decimal, codes, flat_map, not, inl, inr, arith, refl, sym, ap, subst, ◌∙◌}
use Rattle.std.proofs.Common.{length-append, ne_eqb, add-one, drop, zero, suc}
use Rattle.std.proofs.lemmas.Bool.{and_from, cases_lt}
use Rattle.std.proofs.lemmas.List.{append_assoc, drop_all, drop_more}
use Rattle.std.proofs.lemmas.List.Elements.{All-append, All-cons, All-get_or, All-head, All-nil, All-tail}
use Rattle.std.proofs.lemmas.List.Sums.{sum_by-cons}
use Rattle.std.proofs.Math.ListN.{get_or-eq_default}
use Rattle.plan_cert.specs.declared.cert_reader.TheConstants.{MAX_NUMBER}
use Rattle.vod_base.specs.Splits.{IsSplitAtFirst}
use Rattle.vod_base.proofs.SplitLemmas.{none_is}
use Rattle.plan_cert.specs.declared.Segment.{Segment}
use Rattle.plan_cert.specs.PlanSlots.{total_bytes, total_slots}
use Rattle.plan_cert.specs.Plan.{IsPlan}
use Rattle.plan_cert.specs.CertFormat.{cert_head, cert_text, segment_line, segment_words}
use Rattle.plan_cert.specs.CertGrammar.{BreaksAt, HasReadLines, HasWrongSum, IsAfterEnd, IsBadLine}
use Rattle.plan_cert.specs.CertGrammar.{IsCertificate, IsOneLine, Lines, MayEnd}
use Rattle.plan_cert.specs.CertGrammar.{MayStand, begun_text, line_at, lines_of}
use Rattle.plan_cert.specs.CertGrammar.MayStand.{Bytes, SegmentLine, Slots, Title}
use Rattle.plan_cert.proofs.CertUniqueness.{Contents, IsSame, end_is_no_segment, lines_are, lines-certificate, no_break}
use Rattle.plan_cert.proofs.CertUniqueness.{nothing_after, number_clean, one_text, contents, words_clean}
use Rattle.plan_cert.proofs.GrammarLemmas.{breaks_here, breaks_missing, goes_after_end, head_joined, next_is, not_bytes}
use Rattle.plan_cert.proofs.GrammarLemmas.{not_one_more, not_segment, not_slots, not_title, read_more, read_none}

-- ---- the certificate of a plan

few-segments : (segments : List Segment) → All (λ s. 1 ≤ s.slots) segments → length segments ≤ total_slots segments
few-segments [] some = omega arith
few-segments (s ∷ rest) some =
    omega (
      arith,
      All-head (λ (x : Segment). 1 ≤ x.slots) s rest some,
      few-segments rest (All-tail (λ (x : Segment). 1 ≤ x.slots) s rest some),
      sum_by-cons (λ (x : Segment). x.slots) s rest,
    )

small-segments : (segments : List Segment) → total_slots segments ≤ MAX_NUMBER → total_bytes segments ≤ MAX_NUMBER
    → All (λ s. (s.slots ≤ MAX_NUMBER) × (s.bytes ≤ MAX_NUMBER)) segments
small-segments [] few_slots few_bytes = All-nil (λ (s : Segment). (s.slots ≤ MAX_NUMBER) × (s.bytes ≤ MAX_NUMBER))
small-segments (s ∷ rest) few_slots few_bytes =
    let slots = sum_by-cons (λ (x : Segment). x.slots) s rest in
    let bytes = sum_by-cons (λ (x : Segment). x.bytes) s rest in
    All-cons (λ (x : Segment). (x.slots ≤ MAX_NUMBER) × (x.bytes ≤ MAX_NUMBER)) s rest
    (omega (arith, slots, few_slots), omega (arith, bytes, few_bytes))
    (small-segments rest (omega (arith, slots, few_slots)) (omega (arith, bytes, few_bytes)))

pub plan-certificate : (segments : List Segment) → IsPlan segments
    → IsCertificate (cert_text segments) (total_slots segments) (total_bytes segments) segments
plan-certificate segments plan = record {
  text_is = refl;
  slots_are = refl;
  bytes_are = refl;
  small_slots = omega (arith, plan.few_slots);
  small_bytes = plan.few_bytes;
  small = record {
    few = omega (arith, few-segments segments plan.no_empty, plan.few_slots);
    small = small-segments segments (omega (arith, plan.few_slots)) plan.few_bytes;
  };
}

-- ---- the lines before the bad one

-- a line, and what follows it
cut-off : (line rest : List ℕ) → IsOneLine line → IsSplitAtFirst 10 (line ++ 10 ∷ rest) line rest
cut-off line rest is = record { parts = refl; first = is }

title-line : (rest : List ℕ) → HasReadLines (codes "smooth 1" ++ 10 ∷ rest) 1 rest
title-line rest =
    read_more (next_is (read_none (codes "smooth 1" ++ 10 ∷ rest)) (cut-off (codes "smooth 1") rest refl))
    (Title refl refl)

pub bad-title : (line rest : List ℕ) → IsOneLine line → line ≢ codes "smooth 1" → IsBadLine (line ++ 10 ∷ rest) 1
bad-title line rest is other =
    let text = line ++ 10 ∷ rest in (
      0,
      refl,
      inl (breaks_here (next_is (read_none text) (cut-off line rest is))
          (not_title line other, λ ends. omega (arith, ends.after_head))),
    )

pub bad-slots : (line rest : List ℕ) → IsOneLine line
    → ((n : ℕ) → n ≤ MAX_NUMBER → line ≢ codes "slots " ++ decimal n)
    → IsBadLine (codes "smooth 1" ++ 10 ∷ (line ++ 10 ∷ rest)) 2
bad-slots line rest is other = (
  1,
  refl,
  inl (breaks_here (next_is (title-line (line ++ 10 ∷ rest)) (cut-off line rest is))
      (not_slots line (λ n number. other n number.small number.words), λ ends. omega (arith, ends.after_head))),
)

-- bytes that aren't LF make one line
one-line : (line : List ℕ) → All (λ b. b ≢ 10) line → IsOneLine line
one-line [] none = refl
one-line (x ∷ line) none =
    and_from _ _ (ap not (ne_eqb x 10 (All-head (λ b. b ≢ 10) x line none)))
    (one-line line (All-tail (λ b. b ≢ 10) x line none))

number-line : (word : List ℕ) (n : ℕ) → n ≤ MAX_NUMBER → IsOneLine word → IsOneLine (word ++ decimal n)
number-line word n small clean =
    one-line (word ++ decimal n)
    (All-append (λ b. b ≢ 10) word (decimal n) (none_is 10 word clean) (number_clean n small))

slots-line : (slots : ℕ) (rest : List ℕ) → slots ≤ MAX_NUMBER
    → HasReadLines (codes "smooth 1" ++ 10 ∷ ((codes "slots " ++ decimal slots) ++ 10 ∷ rest)) 2 rest
slots-line slots rest small =
    let line = codes "slots " ++ decimal slots in
    read_more
    (next_is (title-line (line ++ 10 ∷ rest)) (cut-off line rest (number-line (codes "slots ") slots small refl)))
    (Slots slots refl (record { small = small; words = refl }))

pub bad-bytes : (slots : ℕ) (line rest : List ℕ) → slots ≤ MAX_NUMBER → IsOneLine line
    → ((n : ℕ) → n ≤ MAX_NUMBER → line ≢ codes "bytes " ++ decimal n)
    → IsBadLine (codes "smooth 1" ++ 10 ∷ ((codes "slots " ++ decimal slots) ++ 10 ∷ (line ++ 10 ∷ rest))) 3
bad-bytes slots line rest small is other = (
  2,
  refl,
  inl (breaks_here (next_is (slots-line slots (line ++ 10 ∷ rest) small) (cut-off line rest is))
      (not_bytes line (λ n number. other n number.small number.words), λ ends. omega (arith, ends.after_head))),
)

head-lines : (slots bytes : ℕ) (rest : List ℕ) → slots ≤ MAX_NUMBER → bytes ≤ MAX_NUMBER
    → HasReadLines (cert_head slots bytes ++ rest) 3 rest
head-lines slots bytes rest few_slots few_bytes =
    let line = codes "bytes " ++ decimal bytes in
    let third = line ++ 10 ∷ rest in
    subst (λ text. HasReadLines text 3 rest) (head_joined slots bytes rest)
    (read_more
    (next_is (slots-line slots third few_slots) (cut-off line rest (number-line (codes "bytes ") bytes few_bytes refl)))
    (Bytes bytes refl (record { small = few_bytes; words = refl })))

-- after the head and k segments
segment-lines : (begun : Contents) (rest : List ℕ) (k : ℕ) → k ≤ length begun.segments
    → HasReadLines (begun_text begun.slots begun.bytes begun.segments rest) (3 + k)
    (flat_map segment_line (drop k begun.segments) ++ rest)
segment-lines begun rest zero within =
    head-lines begun.slots begun.bytes (flat_map segment_line begun.segments ++ rest) begun.few_slots begun.few_bytes
segment-lines begun rest (suc k) within =
    let none : Segment = record { slots = 0; bytes = 0 } in
    let inside : k < length begun.segments = omega (arith, within) in
    let s = get_or begun.segments k none in
    let one = All-get_or (λ (x : Segment). (x.slots ≤ MAX_NUMBER) × (x.bytes ≤ MAX_NUMBER)) begun.segments k none inside
    begun.small.small in
    let words = segment_words s in
    let after = drop (k + 1) begun.segments in
    let more = flat_map segment_line after ++ rest in
    let shape : flat_map segment_line (drop k begun.segments) ++ rest ≡ words ++ 10 ∷ more =
    ap (λ l. flat_map segment_line l ++ rest) (drop_more begun.segments k none inside)
    ∙ append_assoc (segment_line s) (flat_map segment_line after) rest ∙ append_assoc words (10 ∷ []) more in
    let place : 3 + k + 1 ≡ 3 + (k + 1) = omega arith in
    rw (← add-one k) (subst (λ n. HasReadLines (begun_text begun.slots begun.bytes begun.segments rest) n more) place
    (read_more (next_is (subst (λ l. HasReadLines (begun_text begun.slots begun.bytes begun.segments rest) (3 + k) l)
    shape (segment-lines begun rest k (omega (arith, within))))
    (cut-off words more (one-line words (words_clean s one.0 one.1))))
    (SegmentLine s (omega arith) (omega (arith, inside, begun.small.few))
    (record { few_slots = one.0; few_bytes = one.1; words = refl }))))

begun-lines : (begun : Contents) (rest : List ℕ)
    → HasReadLines (begun_text begun.slots begun.bytes begun.segments rest) (3 + length begun.segments) rest
begun-lines begun rest =
    let count = length begun.segments in
    subst (λ l. HasReadLines (begun_text begun.slots begun.bytes begun.segments rest) (3 + count)
    (flat_map segment_line l ++ rest)) (drop_all count begun.segments (omega arith))
    (segment-lines begun rest count (omega arith))

pub bad-segment : (begun : Contents) (line rest : List ℕ) → IsOneLine line → line ≢ codes "end"
    → (length begun.segments ≡ 1000000)
    ⊎ ((s : Segment) → s.slots ≤ MAX_NUMBER → s.bytes ≤ MAX_NUMBER → line ≢ segment_words s)
    → IsBadLine (begun_text begun.slots begun.bytes begun.segments (line ++ 10 ∷ rest)) (length begun.segments + 4)
bad-segment begun line rest is other wrong =
    let count = length begun.segments in (
      3 + count,
      omega arith,
      inl (breaks_here (next_is (begun-lines begun (line ++ 10 ∷ rest)) (cut-off line rest is)) (
        (λ stands. elim wrong [
          | inl full ↦ not_one_more count line full stands
          | inr never ↦ not_segment count line
              (λ s segment. never s segment.few_slots segment.few_bytes segment.words) stands
        ]),
        (λ ends. other ends.words),
      )),
    )

pub cut-short : (begun : Contents) (line : List ℕ) → IsOneLine line
    → IsBadLine (begun_text begun.slots begun.bytes begun.segments line) (length begun.segments + 4)
cut-short begun line is =
    let text = begun_text begun.slots begun.bytes begun.segments line in
    let count = length begun.segments in
    (3 + count, omega arith, inl (breaks_missing text (3 + count) line (begun-lines begun line) is))

pub behind-end : (begun : Contents) (rest : List ℕ) → rest ≢ []
    → IsBadLine (begun_text begun.slots begun.bytes begun.segments (codes "end" ++ 10 ∷ rest))
    (length begun.segments + 5)
behind-end begun rest some =
    let count = length begun.segments in (
      3 + count + 1,
      omega arith,
      inr (inl (goes_after_end
          (next_is (begun-lines begun (codes "end" ++ 10 ∷ rest)) (cut-off (codes "end") rest refl))
          (record { after_head = omega arith; words = refl }, some))),
    )

-- ---- wrong sums

wrong-sum : (begun : Contents) (i : ℕ)
    → ((i ≡ 1) × (total_slots begun.segments ≢ begun.slots))
    ⊎ ((i ≡ 2) × (total_slots begun.segments ≡ begun.slots) × (total_bytes begun.segments ≢ begun.bytes))
    → HasWrongSum (begun_text begun.slots begun.bytes begun.segments (codes "end\n")) i
wrong-sum begun i wrong = record {
  slots = begun.slots;
  bytes = begun.bytes;
  segments = begun.segments;
  small_slots = begun.few_slots;
  small_bytes = begun.few_bytes;
  small = begun.small;
  text_is =
      sym (append_assoc (cert_head begun.slots begun.bytes) (flat_map segment_line begun.segments) (codes "end\n"));
  wrong = wrong;
}

pub wrong-slots : (begun : Contents) → total_slots begun.segments ≢ begun.slots
    → IsBadLine (begun_text begun.slots begun.bytes begun.segments (codes "end\n")) 2
wrong-slots begun other = (1, refl, inr (inr (wrong-sum begun 1 (inl (refl, other)))))

pub wrong-bytes : (begun : Contents) → total_slots begun.segments ≡ begun.slots
    → total_bytes begun.segments ≢ begun.bytes
    → IsBadLine (begun_text begun.slots begun.bytes begun.segments (codes "end\n")) 3
wrong-bytes begun same other = (2, refl, inr (inr (wrong-sum begun 2 (inr (refl, same, other)))))

-- ---- one bad line

nothing-stands : (i : ℕ) → MayStand i [] → ⊥
nothing-stands i (Title at title) = absurd (omega (arith, ap (λ (l : List ℕ). length l) title))
nothing-stands i (Slots n at number) =
    omega (arith, ap (λ (l : List ℕ). length l) number.words, length-append (codes "slots ") (decimal n))
nothing-stands i (Bytes n at number) =
    omega (arith, ap (λ (l : List ℕ). length l) number.words, length-append (codes "bytes ") (decimal n))
nothing-stands i (SegmentLine s from few segment) =
    let first : 0 ≡ 115 = ap (λ l. get_or l 0 0) segment.words in omega (arith, first)

-- a line that breaks the format may not stand in its place
broken : {lines : Lines} {i : ℕ} → BreaksAt lines i → MayStand i (line_at lines i) → ⊥
broken {lines} {i} breaks stands =
    elim breaks.here [
      | inl over ↦ nothing-stands i (subst (λ l. MayStand i l)
          (get_or-eq_default lines.whole [] (omega (arith, over))) stands)
      | inr bad ↦ bad.1 stands
    ]

ended : {lines : Lines} {j : ℕ} (after : IsAfterEnd lines j) → MayStand after.last (line_at lines after.last) → ⊥
ended {lines} after stands =
    end_is_no_segment after.last (line_at lines after.last) after.ends.after_head after.ends.words stands

one-break : {lines : Lines} {i j : ℕ} → BreaksAt lines i → BreaksAt lines j → i ≡ j
one-break {i} {j} one other =
    elim (cases_lt i j) [
      | inl less ↦ absurd (broken one (other.before i less))
      | inr more ↦ elim (cases_lt j i) [
        | inl less ↦ absurd (broken other (one.before j less))
        | inr same ↦ omega (arith, more, same)
      ]
    ]

no-both : {lines : Lines} {i j : ℕ} → BreaksAt lines i → IsAfterEnd lines j → ⊥
no-both {lines} {i} breaks after =
    elim (cases_lt i after.last) [
      | inl less ↦ broken breaks (after.before i less)
      | inr more ↦ elim (cases_lt after.last i) [
        | inl less ↦ ended after (breaks.before after.last less)
        | inr least ↦ (
            let here : i ≡ after.last = omega (arith, more, least) in
            elim breaks.here [
              | inl over ↦ omega (arith, over, here, after.inside)
              | inr bad ↦ bad.2 (subst (λ n. MayEnd n (line_at lines n)) (sym here) after.ends)
            ]
            )
      ]
    ]

one-end : {lines : Lines} {i j : ℕ} → IsAfterEnd lines i → IsAfterEnd lines j → i ≡ j
one-end one other =
    elim (cases_lt one.last other.last) [
      | inl less ↦ absurd (ended one (other.before one.last less))
      | inr more ↦ elim (cases_lt other.last one.last) [
        | inl less ↦ absurd (ended other (one.before other.last less))
        | inr least ↦ omega (arith, more, least, one.last_is, other.last_is)
      ]
    ]

-- well formed lines have no break and nothing behind their end
well-formed : {text : List ℕ} {i : ℕ} (wrong : HasWrongSum text i)
    → lines_of text ≡ lines_are (contents wrong)
well-formed wrong = ap lines_of wrong.text_is ∙ lines-certificate (contents wrong)

no-break-there : {text : List ℕ} {i j : ℕ} → HasWrongSum text i → BreaksAt (lines_of text) j → ⊥
no-break-there {j} wrong breaks = no_break (contents wrong) (subst (λ ls. BreaksAt ls j) (well-formed wrong) breaks)

no-end-there : {text : List ℕ} {i j : ℕ} → HasWrongSum text i → IsAfterEnd (lines_of text) j → ⊥
no-end-there {j} wrong after = nothing_after (contents wrong) (subst (λ ls. IsAfterEnd ls j) (well-formed wrong) after)

one-sum : {text : List ℕ} {i j : ℕ} → HasWrongSum text i → HasWrongSum text j → i ≡ j
one-sum one other =
    let same : IsSame (contents one) (contents other) =
    one_text (contents one) (contents other) (sym one.text_is ∙ other.text_is) in
    elim one.wrong [
      | inl slots ↦ elim other.wrong [
        | inl slots' ↦ slots.0 ∙ sym slots'.0
        | inr bytes ↦ absurd (slots.1 (ap total_slots same.segments_are ∙ bytes.1 ∙ sym same.slots_are))
      ]
      | inr bytes ↦ elim other.wrong [
        | inl slots ↦ absurd (slots.1 (sym (ap total_slots same.segments_are) ∙ bytes.1 ∙ same.slots_are))
        | inr bytes' ↦ bytes.0 ∙ sym bytes'.0
      ]
    ]

same-place : {text : List ℕ} {i j : ℕ}
    → BreaksAt (lines_of text) i ⊎ (IsAfterEnd (lines_of text) i ⊎ HasWrongSum text i)
    → BreaksAt (lines_of text) j ⊎ (IsAfterEnd (lines_of text) j ⊎ HasWrongSum text j) → i ≡ j
same-place (inl one) (inl other) = one-break one other
same-place (inl one) (inr (inl other)) = absurd (no-both one other)
same-place (inl one) (inr (inr other)) = absurd (no-break-there other one)
same-place (inr (inl one)) (inl other) = absurd (no-both other one)
same-place (inr (inl one)) (inr (inl other)) = one-end one other
same-place (inr (inl one)) (inr (inr other)) = absurd (no-end-there other one)
same-place (inr (inr one)) (inl other) = absurd (no-break-there one other)
same-place (inr (inr one)) (inr (inl other)) = absurd (no-end-there one other)
same-place (inr (inr one)) (inr (inr other)) = one-sum one other

pub one-bad_line : (text : List ℕ) (line other : ℕ) → IsBadLine text line → IsBadLine text other → line ≡ other
one-bad_line text line other one two = omega (arith, one.1, two.1, same-place one.2 two.2)
