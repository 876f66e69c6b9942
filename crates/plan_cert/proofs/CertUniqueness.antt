-- A certificate is the text of one list of segments, and has no bad line.
use Rattle.std.proofs.Common.{◌≡◌, ◌≢◌, ◌<◌, ◌≤◌, ◌+◌, ℕ, zero, suc, List, [], ◌∷◌, ◌++◌, All, length, get_or}
use Rattle.std.proofs.Common.{drop, map, decimal, codes, flat_map, Result, Ok, Err, MatchResult, IfOk, IfErr, inl}
use Rattle.std.proofs.Common.{inr, arith, refl, sym, ap, subst, ◌∙◌}
use Rattle.std.proofs.lemmas.Bool.{cases_lt}
use Rattle.std.proofs.lemmas.Fmt.{decimal_injective}
use Rattle.std.proofs.lemmas.List.{append_assoc, append_cancel_left, append_cancel_right, length-append, length-map}
use Rattle.std.proofs.lemmas.List.{get_or_append_left, get_or-map, get_or_at}
use Rattle.std.proofs.lemmas.List.Elements.{All-head, All-tail, All-append, All-get_or}
use Rattle.plan_cert.specs.declared.cert_reader.TheConstants.{MAX_NUMBER}
use Rattle.plan_cert.specs.declared.Segment.{Segment}
use Rattle.plan_cert.specs.declared.cert_reader.CertText.{CertText}
use Rattle.plan_cert.specs.declared.cert_reader.CertRead.{CertRead}
use Rattle.plan_cert.specs.declared.cert_reader.CertRead.TheVariants.{BadCert, NoMemory}
use Rattle.plan_cert.specs.PlanSlots.{total_slots, total_bytes}
use Rattle.plan_cert.specs.CertFormat.{segment_words, segment_line, cert_head}
use Rattle.plan_cert.specs.CertGrammar.{Lines, lines_of, line_at, MayStand, BreaksAt, IsAfterEnd, AreSmall, HasWrongSum}
use Rattle.plan_cert.specs.CertGrammar.{IsCertificate, IsBadLine, IsCertRefusal}
use Rattle.plan_cert.specs.CertGrammar.MayStand.{Title, Slots, Bytes, SegmentLine}
use Rattle.vod_base.proofs.SplitLemmas.{none_is, split_once}
use Rattle.plan_cert.proofs.DecimalLemmas.{not_in_decimal}
use Rattle.plan_cert.proofs.GrammarLemmas.{lines-cut, head_joined}

-- ---- lines without LF
pub number_clean : (n : ℕ) → n ≤ MAX_NUMBER → All (λ b. b ≢ 10) (decimal n)
number_clean n small = not_in_decimal 10 n (omega arith) (λ within. omega (arith, within.0))

pub words_clean : (s : Segment) → s.slots ≤ MAX_NUMBER → s.bytes ≤ MAX_NUMBER → All (λ b. b ≢ 10) (segment_words s)
words_clean s few_slots few_bytes =
    All-append (λ b. b ≢ 10) (codes "segment " ++ decimal s.slots ++ codes " ") (decimal s.bytes)
    (All-append (λ b. b ≢ 10) (codes "segment " ++ decimal s.slots) (codes " ")
    (All-append (λ b. b ≢ 10) (codes "segment ") (decimal s.slots) (none_is 10 (codes "segment ") refl)
    (number_clean s.slots few_slots))
    (none_is 10 (codes " ") refl))
    (number_clean s.bytes few_bytes)

-- what a certificate contains: the two numbers at its head and its segments
pub record Contents : Type 0 where
  pub slots : ℕ
  pub bytes : ℕ
  pub segments : List Segment
  pub few_slots : slots ≤ MAX_NUMBER
  pub few_bytes : bytes ≤ MAX_NUMBER
  pub small : AreSmall segments

abbrev pub begun_of : (slots bytes : ℕ) (segments : List Segment) → slots ≤ MAX_NUMBER → bytes ≤ MAX_NUMBER
    → AreSmall segments → Contents
begun_of slots bytes segments few_slots few_bytes small = record {
  slots = slots;
  bytes = bytes;
  segments = segments;
  few_slots = few_slots;
  few_bytes = few_bytes;
  small = small;
}

-- ---- the lines of a certificate
abbrev body_of : List Segment → List (List ℕ)
body_of segments = map segment_words segments ++ codes "end" ∷ []

abbrev pub lines_are : Contents → Lines
lines_are told =
    record {
      whole =
          codes "smooth 1" ∷ (codes "slots " ++ decimal told.slots) ∷ (codes "bytes " ++ decimal told.bytes)
          ∷ body_of told.segments;
      rest = [];
    }

abbrev IsFew : Segment → Type 0
IsFew s = (s.slots ≤ MAX_NUMBER) × (s.bytes ≤ MAX_NUMBER)

lines-body : (segments : List Segment) → All IsFew segments
    → lines_of (flat_map segment_line segments ++ codes "end\n") ≡ record { whole = body_of segments; rest = [] }
lines-body [] small = refl
lines-body (s ∷ rest) small =
    let few : IsFew s = All-head IsFew s rest small in
    let others = lines-body rest (All-tail IsFew s rest small) in
    let shape : (segment_line s ++ flat_map segment_line rest) ++ codes "end\n"
    ≡ segment_words s ++ 10 ∷ (flat_map segment_line rest ++ codes "end\n") =
    append_assoc (segment_line s) (flat_map segment_line rest) (codes "end\n")
    ∙ append_assoc (segment_words s) (10 ∷ []) (flat_map segment_line rest ++ codes "end\n") in
    ap lines_of shape ∙ lines-cut (segment_words s) (flat_map segment_line rest ++ codes "end\n")
    (words_clean s few.0 few.1)
    ∙ ap (λ ls. record { whole = segment_words s ∷ ls.whole; rest = ls.rest }) others

pub lines-certificate : (told : Contents)
    → lines_of (cert_head told.slots told.bytes ++ flat_map segment_line told.segments ++ codes "end\n")
    ≡ lines_are told
lines-certificate told =
    let body = flat_map segment_line segments ++ codes "end\n" in
    let third = (codes "bytes " ++ decimal bytes) ++ 10 ∷ body in
    let second = (codes "slots " ++ decimal slots) ++ 10 ∷ third in
    let whole : cert_head slots bytes ++ flat_map segment_line segments ++ codes "end\n"
    ≡ codes "smooth 1" ++ 10 ∷ second =
    append_assoc (cert_head slots bytes) (flat_map segment_line segments) (codes "end\n")
    ∙ sym (head_joined slots bytes body) in
    let clean_slots =
    All-append (λ b. b ≢ 10) (codes "slots ") (decimal slots) (none_is 10 (codes "slots ") refl)
    (number_clean slots told.few_slots) in
    let clean_bytes =
    All-append (λ b. b ≢ 10) (codes "bytes ") (decimal bytes) (none_is 10 (codes "bytes ") refl)
    (number_clean bytes told.few_bytes) in
    ap lines_of whole
    ∙ lines-cut (codes "smooth 1") second (none_is 10 (codes "smooth 1") refl)
    ∙ ap (λ ls. record { whole = codes "smooth 1" ∷ ls.whole; rest = ls.rest })
    (lines-cut (codes "slots " ++ decimal slots) third clean_slots
    ∙ ap (λ ls. record { whole = (codes "slots " ++ decimal slots) ∷ ls.whole; rest = ls.rest })
    (lines-cut (codes "bytes " ++ decimal bytes) body clean_bytes
    ∙ ap (λ ls. record { whole = (codes "bytes " ++ decimal bytes) ∷ ls.whole; rest = ls.rest })
    (lines-body segments told.small.small)))
  where
    open told use {slots, bytes, segments}

-- ---- one text, one list
abbrev pair : ℕ → ℕ → Segment
pair n b = record { slots = n; bytes = b }

same_words : (s t : Segment) → IsFew s → IsFew t → segment_words s ≡ segment_words t → s ≡ t
same_words s t few few' e =
    let shape : (x : Segment)
    → segment_words x ≡ codes "segment " ++ (decimal x.slots ++ 32 ∷ decimal x.bytes) =
    λ (x : Segment). simp append_assoc in
    let rest : decimal s.slots ++ 32 ∷ decimal s.bytes ≡ decimal t.slots ++ 32 ∷ decimal t.bytes =
    append_cancel_left (codes "segment ") (decimal s.slots ++ 32 ∷ decimal s.bytes)
    (decimal t.slots ++ 32 ∷ decimal t.bytes) (sym (shape s) ∙ e ∙ shape t) in
    let no_space : (n : ℕ) → n ≤ MAX_NUMBER → All (λ b. b ≢ 32) (decimal n) =
    λ (n : ℕ) small. not_in_decimal 32 n (omega arith) (λ within. omega (arith, within.0)) in
    let parts = split_once {after = decimal s.bytes} {after' = decimal t.bytes} 32 (decimal s.slots) (decimal t.slots)
    rest (no_space s.slots few.0) (no_space t.slots few'.0) in
    let slots : s.slots ≡ t.slots =
    decimal_injective s.slots t.slots (omega (arith, few.0)) (omega (arith, few'.0)) parts.0 in
    let bytes : s.bytes ≡ t.bytes =
    decimal_injective s.bytes t.bytes (omega (arith, few.1)) (omega (arith, few'.1)) parts.1 in
    ap (λ n. pair n s.bytes) slots ∙ ap (λ b. pair t.slots b) bytes

same_list : (xs ys : List Segment) → All IsFew xs → All IsFew ys → map segment_words xs ≡ map segment_words ys → xs ≡ ys
same_list [] [] few few' e = refl
same_list [] (y ∷ ys) few few' e = cc
same_list (x ∷ xs) [] few few' e = cc
same_list (x ∷ xs) (y ∷ ys) few few' e =
    let first : segment_words x ≡ segment_words y = cc in
    let others : map segment_words xs ≡ map segment_words ys = cc in
    let same : x ≡ y = same_words x y (All-head IsFew x xs few) (All-head IsFew y ys few') first in
    let rest : xs ≡ ys = same_list xs ys (All-tail IsFew x xs few) (All-tail IsFew y ys few') others in
    cc

pub record IsSame (one other : Contents) : Type 0 where
  pub slots_are : one.slots ≡ other.slots
  pub bytes_are : one.bytes ≡ other.bytes
  pub segments_are : one.segments ≡ other.segments

pub one_text : (one other : Contents)
    → cert_head one.slots one.bytes ++ flat_map segment_line one.segments ++ codes "end\n"
    ≡ cert_head other.slots other.bytes ++ flat_map segment_line other.segments ++ codes "end\n"
    → IsSame one other
one_text one other e =
    let lines : lines_are one ≡ lines_are other =
    sym (lines-certificate one) ∙ ap lines_of e ∙ lines-certificate other in
    let second : codes "slots " ++ decimal slots ≡ codes "slots " ++ decimal slots' =
    ap (λ ls. get_or ls.whole 1 []) lines in
    let third : codes "bytes " ++ decimal bytes ≡ codes "bytes " ++ decimal bytes' =
    ap (λ ls. get_or ls.whole 2 []) lines in
    let rest : body_of xs ≡ body_of ys = ap (λ ls. drop 3 ls.whole) lines in
    record {
      slots_are = decimal_injective slots slots' (omega (arith, few_slots)) (omega (arith, few_slots'))
          (append_cancel_left (codes "slots ") (decimal slots) (decimal slots') second);
      bytes_are = decimal_injective bytes bytes' (omega (arith, few_bytes)) (omega (arith, few_bytes'))
          (append_cancel_left (codes "bytes ") (decimal bytes) (decimal bytes') third);
      segments_are =
          same_list xs ys small.small small'.small (append_cancel_right (map segment_words xs) (map segment_words ys)
          (codes "end" ∷ []) rest);
    }
  where
    open one use {slots, bytes, segments as xs, few_slots, few_bytes, small}
    open other use {
      slots as slots',
      bytes as bytes',
      segments as ys,
      few_slots as few_slots',
      few_bytes as few_bytes',
      small as small',
    }

abbrev contents_of : {text : List ℕ} {slots bytes : ℕ} {segments : List Segment}
    → IsCertificate text slots bytes segments → Contents
contents_of {segments} certificate = begun_of (total_slots segments) (total_bytes segments) segments
    (omega (arith, certificate.slots_are, certificate.small_slots))
    (omega (arith, certificate.bytes_are, certificate.small_bytes)) certificate.small

-- what a text with a wrong sum contains
abbrev pub contents : {text : List ℕ} {i : ℕ} → HasWrongSum text i → Contents
contents wrong = begun_of wrong.slots wrong.bytes wrong.segments wrong.small_slots wrong.small_bytes wrong.small

-- a text is the certificate of one list of segments
pub one_certificate : {text : List ℕ} {slots bytes slots' bytes' : ℕ} {xs ys : List Segment}
    → IsCertificate text slots bytes xs → IsCertificate text slots' bytes' ys → xs ≡ ys
one_certificate one other = (one_text (contents_of one) (contents_of other)
    (sym one.text_is ∙ other.text_is)).segments_are

-- ---- no bad line
pub end_is_no_segment : (i : ℕ) (line : List ℕ) → 3 ≤ i → line ≡ codes "end" → MayStand i line → ⊥
end_is_no_segment i line after words (Title at title) = omega (arith, at, after)
end_is_no_segment i line after words (Slots n at number) = omega (arith, at, after)
end_is_no_segment i line after words (Bytes n at number) = omega (arith, at, after)
end_is_no_segment i line after words (SegmentLine s from few segment) =
    let e : codes "end" ≡ segment_words s = sym words ∙ segment.words in
    let first : 101 ≡ 115 = ap (λ l. get_or l 0 0) e in
    omega (arith, first)

length-body : (segments : List Segment) → length (body_of segments) ≡ length segments + 1
length-body segments =
    length-append (map segment_words segments) (codes "end" ∷ []) ∙ ap (λ n. n + 1) (length-map segments segment_words)

stands : (told : Contents) {i : ℕ} → i < 3 + length told.segments → MayStand i (line_at (lines_are told) i)
stands told {i = zero} few = Title refl refl
stands told {i = suc zero} few = Slots told.slots refl (record { small = told.few_slots; words = refl })
stands told {i = suc (suc zero)} few = Bytes told.bytes refl (record { small = told.few_bytes; words = refl })
stands told {i = suc (suc (suc j))} few =
    let segments = told.segments in
    let s : Segment = get_or segments j (pair 0 0) in
    let inside : j < length segments = omega (arith, few) in
    let inside' : j < length (map segment_words segments) = omega (arith, inside, length-map segments segment_words) in
    let words : get_or (body_of segments) j [] ≡ segment_words s =
    get_or_append_left (map segment_words segments) (codes "end" ∷ []) [] j inside'
    ∙ get_or-map segment_words segments j (pair 0 0) [] inside in
    let one : IsFew s = All-get_or IsFew segments j (pair 0 0) inside told.small.small in
    SegmentLine s (omega arith) (omega (arith, inside, told.small.few))
    (record { few_slots = one.0; few_bytes = one.1; words = words })

ends : (told : Contents) (i : ℕ) → i ≡ 3 + length told.segments → line_at (lines_are told) i ≡ codes "end"
ends told i is =
    let front = codes "smooth 1" ∷ (codes "slots " ++ decimal told.slots) ∷ (codes "bytes " ++ decimal told.bytes)
    ∷ map segment_words told.segments in
    let count : length front ≡ i = omega (arith, is, length-map told.segments segment_words) in
    get_or_at front (codes "end") [] [] i count

pub no_break : (told : Contents) {i : ℕ} → BreaksAt (lines_are told) i → ⊥
no_break told {i} breaks =
    let last = 3 + length told.segments in
    elim breaks.here [
      | inl over ↦
          end_is_no_segment last (line_at (lines_are told) last) (omega arith) (ends told last refl)
          (breaks.before last (omega (arith, over, length-body told.segments)))
      | inr bad ↦ elim (cases_lt i last) [
        | inl inside ↦ bad.1 (stands told inside)
        | inr after ↦ (
            let is : i ≡ last = omega (arith, after, bad.0, length-body told.segments) in
            bad.2 (record { after_head = omega (arith, is); words = ends told i is })
            )
      ]
    ]

pub nothing_after : (told : Contents) {i : ℕ} → IsAfterEnd (lines_are told) i → ⊥
nothing_after told after =
    elim (cases_lt after.last (3 + length told.segments)) [
      | inl inside ↦
          end_is_no_segment after.last (line_at (lines_are told) after.last) after.ends.after_head after.ends.words
          (stands told inside)
      | inr over ↦ elim after.more [
        | inl more ↦ omega (arith, more, over, after.last_is, length-body told.segments)
        | inr some ↦ some refl
      ]
    ]

pub certificate_has_no_bad_line : {text : List ℕ} {slots bytes : ℕ} {segments : List Segment} (line : ℕ)
    → IsCertificate text slots bytes segments → IsBadLine text line → ⊥
certificate_has_no_bad_line {text} line cert bad =
    let told : Contents = contents_of cert in
    let lines : lines_of text ≡ lines_are told = ap lines_of cert.text_is ∙ lines-certificate told in
    elim bad.2 [
      | inl breaks ↦ no_break told (subst (λ ls. BreaksAt ls bad.0) lines breaks)
      | inr other ↦ elim other [
        | inl after ↦ nothing_after told (subst (λ ls. IsAfterEnd ls bad.0) lines after)
        | inr wrong ↦ (
            let same : IsSame (contents wrong) told =
            one_text (contents wrong) told (sym wrong.text_is ∙ cert.text_is) in
            let slots_are : total_slots wrong.segments ≡ wrong.slots = ap total_slots same.segments_are
            ∙ sym same.slots_are in
            let bytes_are : total_bytes wrong.segments ≡ wrong.bytes = ap total_bytes same.segments_are
            ∙ sym same.bytes_are in
            elim wrong.wrong [ inl slots ↦ slots.1 slots_are | inr bytes ↦ bytes.2 bytes_are ]
            )
      ]
    ]

-- so a certificate is read, and as its own segments
pub exact_reading : {text : List ℕ} (read : Result CertText CertRead) →
    IfOk read (λ cert. IsCertificate text cert.slots cert.bytes cert.segments.items) →
    IfErr read (IsCertRefusal text) → {slots bytes : ℕ} {segments : List Segment}
    → IsCertificate text slots bytes segments →
    MatchResult read (λ cert. cert.segments.items ≡ segments) (λ refusal. refusal ≡ NoMemory)
exact_reading (Ok cert) good bad certificate = one_certificate good certificate
exact_reading (Err (BadCert line)) good bad certificate = absurd (certificate_has_no_bad_line line certificate bad)
exact_reading (Err NoMemory) good bad certificate = refl
