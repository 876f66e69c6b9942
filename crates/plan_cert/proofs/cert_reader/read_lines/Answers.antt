use Rattle.std.proofs.lemmas.Grind.{common_steps}
use Rattle.std.proofs.Common.{◌≡◌, ◌++◌, ℕ, List, codes, flat_map, sym, ap, subst, ◌∙◌, arith}
use Rattle.std.proofs.lemmas.Bool.{both_ways}
use Rattle.plan_cert.specs.PlanSlots.{total_slots, total_bytes}
use Rattle.plan_cert.specs.CertFormat.{cert_head, segment_line}
use Rattle.plan_cert.specs.CertGrammar.{IsBadLine, begun_text}
use Rattle.plan_cert.proofs.BadLines.{wrong-bytes, wrong-slots}
use Rattle.plan_cert.proofs.CertUniqueness.{Contents, begun_of}
use Rattle.plan_cert.proofs.cert_reader.read_lines.Goals as goal

-- the text of a head and a body that are read
sums_of : {text rest : List ℕ} (told : Contents) → text ≡ cert_head told.slots told.bytes ++ rest
    → rest ≡ flat_map segment_line told.segments ++ codes "end\n"
    → begun_text told.slots told.bytes told.segments (codes "end\n") ≡ text
sums_of told head body = sym (head ∙ ap (λ r. cert_head told.slots told.bytes ++ r) body)

pub returns-then-not-has_slots-clause-refused : goal.returns-then-not-has_slots-clause-refused
returns-then-not-has_slots-clause-refused c =
    let wrong = λ (e : total_slots c.in_ok-segments.segments.items ≡ c.in_ok-head.head.slots).
    both_ways c.has_slots.result c.if-not-has_slots.true
    (c.has_slots.ensures.1 (ap total_slots c.as_slice.ensures.value ∙ e)) in
    let told = begun_of c.in_ok-head.head.slots c.in_ok-head.head.bytes c.in_ok-segments.segments.items
    c.in_ok-head.ensures.small_slots c.in_ok-head.ensures.small_bytes c.in_ok-segments.ensures.read.small in
    subst (λ t. IsBadLine t 2) (sums_of told c.in_ok-head.ensures.text_is c.in_ok-segments.ensures.read.text_is)
    (wrong-slots told wrong)

pub returns-then-not-has_bytes-clause-refused : goal.returns-then-not-has_bytes-clause-refused
returns-then-not-has_bytes-clause-refused c =
    let same = sym (ap total_slots c.as_slice.ensures.value) ∙ c.has_slots.ensures.0 c.if-not-has_slots.false in
    let wrong = λ (e : total_bytes c.in_ok-segments.segments.items ≡ c.in_ok-head.head.bytes).
    both_ways c.has_bytes.result c.if-not-has_bytes.true
    (c.has_bytes.ensures.1 (ap total_bytes c.as_slice-2.ensures.value ∙ e)) in
    let told = begun_of c.in_ok-head.head.slots c.in_ok-head.head.bytes c.in_ok-segments.segments.items
    c.in_ok-head.ensures.small_slots c.in_ok-head.ensures.small_bytes c.in_ok-segments.ensures.read.small in
    subst (λ t. IsBadLine t 3) (sums_of told c.in_ok-head.ensures.text_is c.in_ok-segments.ensures.read.text_is)
    (wrong-bytes told same wrong)

pub returns-clause-read : goal.returns-clause-read
returns-clause-read c = grind (arith, common_steps)
