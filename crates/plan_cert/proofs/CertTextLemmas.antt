-- A certificate by its lines, what a segment has sent, and what is sent above a rate.
use Rattle.std.proofs.Common.{◌≡◌, ℕ, ◌+◌, ◌-◌, ◌*◌, ◌/◌, ◌<◌, ◌≤◌, ◌↔◌, List, [], ◌∷◌, ◌++◌, All, map, decimal}
use Rattle.std.proofs.Common.{codes, flat_map, sum, sum_by, take, min, arith, refl, sym, ap, ◌∙◌}
use Rattle.std.proofs.Math.Nat.{div-mul-le_self, lt-div-mul-add}
use Rattle.std.proofs.lemmas.List.{append_assoc}
use Rattle.std.proofs.lemmas.List.Elements.{All-nil, All-cons, All-head, All-tail}
use Rattle.std.proofs.lemmas.List.Sums.{sum_by-cons}
use Rattle.plan_cert.specs.declared.Segment.{Segment}
use Rattle.plan_cert.specs.PlanSlots.{slots_of, total_slots, total_bytes}
use Rattle.plan_cert.specs.CertFormat.{cert_text, cert_head, segment_words, segment_line}
use Rattle.plan_cert.specs.CertGrammar.{FitCertLimits}
use Rattle.plan_cert.specs.Feasibility.{excess}
use Rattle.plan_cert.proofs.SlotSums.{sum-take-slots_of}
use Rattle.plan_cert.proofs.GrammarLemmas.{head_text}
use Rattle.plan_cert.proofs.CertUniqueness.{begun_of, one_text}

abbrev with_line_end : List ℕ → List ℕ
with_line_end line = line ++ codes "\n"

body_lines : (segments : List Segment) → flat_map segment_line segments ++ codes "end\n"
    ≡ flat_map with_line_end (map segment_words segments ++ codes "end" ∷ [])
body_lines [] = refl
body_lines (s ∷ rest) =
    append_assoc (segment_line s) (flat_map segment_line rest) (codes "end\n")
    ∙ ap (λ l. segment_line s ++ l) (body_lines rest)

pub text_lines : (segments : List Segment) → cert_text segments ≡ flat_map with_line_end
    (codes "smooth 1" ∷ (codes "slots " ++ decimal (total_slots segments))
    ∷ (codes "bytes " ++ decimal (total_bytes segments))
    ∷ map segment_words segments ++ codes "end" ∷ [])
text_lines segments =
    let slots = codes "slots " ++ decimal (total_slots segments) in
    let bytes = codes "bytes " ++ decimal (total_bytes segments) in
    let body = flat_map with_line_end (map segment_words segments ++ codes "end" ∷ []) in
    let third = with_line_end bytes ++ body in
    let second = with_line_end slots ++ third in
    let whole : cert_text segments ≡ cert_head (total_slots segments) (total_bytes segments) ++ body =
    append_assoc (cert_head (total_slots segments) (total_bytes segments)) (flat_map segment_line segments)
    (codes "end\n")
    ∙ ap (λ l. cert_head (total_slots segments) (total_bytes segments) ++ l) (body_lines segments) in
    whole ∙ sym (head_text (total_slots segments) (total_bytes segments) body (record {
      title = codes "smooth 1";
      after_title = second;
      slots_line = slots;
      after_slots = third;
      bytes_line = bytes;
      title_cut = refl;
      title_is = refl;
      slots_cut = append_assoc slots (codes "\n") third;
      slots_is = refl;
      bytes_cut = append_assoc bytes (codes "\n") body;
      bytes_is = refl;
    }))

pub one_list : (segments others : List Segment) → FitCertLimits segments → FitCertLimits others
    → cert_text segments ≡ cert_text others → segments ≡ others
one_list segments others one other e =
    let contents = λ (list : List Segment) (is : FitCertLimits list).
    begun_of (total_slots list) (total_bytes list) list is.few_slots is.few_bytes is.small in
    (one_text (contents segments one) (contents others other) e).segments_are

pub excess_parts : (x : List ℕ) (p q : ℕ) → excess x p q + sum_by (λ b. min (q * b) p) x ≡ q * sum x
excess_parts [] p q = omega arith
excess_parts (b ∷ rest) p q =
    let others = excess_parts rest p q in
    let all : q * sum (b ∷ rest) ≡ q * (b + sum rest) = ap (λ s. q * s) (sum_by-cons (λ c. c) b rest) in
    omega (arith, others, all, sum_by-cons (λ c. q * c - p) b rest, sum_by-cons (λ c. min (q * c) p) b rest)

none_within : (x : List ℕ) (p q : ℕ) → excess x p q ≡ 0 → All (λ b. q * b ≤ p) x
none_within [] p q none = All-nil (λ b. q * b ≤ p)
none_within (b ∷ rest) p q none =
    let split = sum_by-cons (λ c. q * c - p) b rest in
    All-cons (λ b. q * b ≤ p) b rest (omega (arith, none, split)) (none_within rest p q (omega (arith, none, split)))

within_none : (x : List ℕ) (p q : ℕ) → All (λ b. q * b ≤ p) x → excess x p q ≡ 0
within_none [] p q all = refl
within_none (b ∷ rest) p q all =
    let first = All-head (λ b. q * b ≤ p) b rest all in
    let others = within_none rest p q (All-tail (λ b. q * b ≤ p) b rest all) in
    omega (arith, first, others, sum_by-cons (λ c. q * c - p) b rest)

pub excess_none : (x : List ℕ) (p q : ℕ) → (excess x p q ≡ 0) ↔ All (λ b. q * b ≤ p) x
excess_none x p q = (none_within x p q, within_none x p q)

pub sent_is_floor : (s : Segment) (j : ℕ) → 1 ≤ s.slots → j ≤ s.slots
    → (sum (take j (slots_of s)) * s.slots ≤ j * s.bytes) × (j * s.bytes < (sum (take j (slots_of s)) + 1) * s.slots)
sent_is_floor s j some within =
    let pos : 0 < s.slots = omega (arith, some) in
    let is = sum-take-slots_of s j pos within in
    let same : sum (take j (slots_of s)) * s.slots ≡ j * s.bytes / s.slots * s.slots = ap (λ n. n * s.slots) is in
    let under = div-mul-le_self (j * s.bytes) s.slots in
    let over = lt-div-mul-add {a = j * s.bytes} {b = s.slots} pos in
    (omega (arith, same, under), omega (arith, same, over))
