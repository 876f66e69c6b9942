use Rattle.std.proofs.lemmas.Grind.{common_steps}
use Rattle.std.proofs.Common.{◌≡◌, ◌≢◌, ◌<◌, ◌≤◌, ◌+◌, ◌++◌, [], ◌∷◌, length, arith, ap, subst, ◌∙◌, inl, inr, flat_map}
use Rattle.std.proofs.Common.{eq-eqb}
use Rattle.std.proofs.lemmas.Bool.{both_ways}
use Rattle.std.proofs.lemmas.List.{length_push}
use Rattle.std.proofs.lemmas.List.Elements.{All-push}
use Rattle.plan_cert.specs.declared.cert_reader.TheConstants.{MAX_NUMBER}
use Rattle.plan_cert.specs.CertFormat.{segment_line}
use Rattle.plan_cert.specs.CertGrammar.{HasReadLines, MayEnd}
use Rattle.plan_cert.specs.CertGrammar.MayStand.{SegmentLine}
use Rattle.plan_cert.proofs.GrammarLemmas.{read_more, breaks_missing, breaks_here, goes_after_end, not_segment}
use Rattle.plan_cert.proofs.GrammarLemmas.{next_is, not_one_more, segment_text}
use Rattle.plan_cert.proofs.cert_reader.read_body.Goals as goal

pub returns-clause-refused : goal.returns-clause-refused
returns-clause-refused c = λ whole read. (
  3 + c.loop-line.count,
  omega arith,
  inl (breaks_missing whole (3 + c.loop-line.count) c.loop-line.rest.now (c.loop-line.invariant.read whole read)
      c.in_default.ensures),
)

pub returns-then-is_text-clause-refused : goal.returns-then-is_text-clause-refused
returns-then-is_text-clause-refused c = λ whole read.
    let k = 3 + c.loop-line.count in
    let ends : MayEnd k c.in-Some.line.now =
    record { after_head = omega arith; words = c.is_text.ensures.0 c.if-is_text.true } in
    let some : c.in-Some.after.now ≢ [] =
    λ e. both_ways c.is_empty.result c.if-is_empty.false
    (c.is_empty.ensures ∙ eq-eqb (length c.in-Some.after.now) 0 (ap length e)) in (
      k + 1,
      omega arith,
      inr (inl (goes_after_end (next_is (c.loop-line.invariant.read whole read) c.in-Some.ensures) (ends, some))),
    )

pub returns-in_default-segment_in-clause-refused : goal.returns-in_default-segment_in-clause-refused
returns-in_default-segment_in-clause-refused c = λ whole read. (
  3 + c.loop-line.count,
  omega arith,
  inl (breaks_here (next_is (c.loop-line.invariant.read whole read) c.in-Some.ensures) (
    not_segment c.loop-line.count c.in-Some.line.now c.in_default-segment_in.ensures,
    λ ends. both_ways c.is_text.result c.if-is_text.false (c.is_text.ensures.1 ends.words),
  )),
)

pub returns-then-count-eq-MAX_SEGMENTS-clause-refused : goal.returns-then-count-eq-MAX_SEGMENTS-clause-refused
returns-then-count-eq-MAX_SEGMENTS-clause-refused c = λ whole read. (
  3 + c.loop-line.count,
  omega arith,
  inl (breaks_here (next_is (c.loop-line.invariant.read whole read) c.in-Some.ensures) (
    not_one_more c.loop-line.count c.in-Some.line.now c.if-count-eq-MAX_SEGMENTS.true,
    λ ends. both_ways c.is_text.result c.if-is_text.false (c.is_text.ensures.1 ends.words),
  )),
)

pub loop-line-preserved : goal.loop-line-preserved
loop-line-preserved c =
    let inv = c.loop-line.invariant in
    let s = c.in-Some-segment_in.segment in
    let more : c.loop-line.count < 1000000 = omega (arith, inv.few) in
    let items : c.push.new.self.items ≡ c.loop-line.segments.items ++ s ∷ [] = c.in_ok-push.ensures.items in
    record {
      few = omega arith;
      counted = ap length items ∙ length_push c.loop-line.segments.items s ∙ ap (λ n. n + 1) inv.counted;
      small = rw items (All-push (λ x. (x.slots ≤ MAX_NUMBER) × (x.bytes ≤ MAX_NUMBER)) c.loop-line.segments.items s
          inv.small (c.in-Some-segment_in.ensures.few_slots, c.in-Some-segment_in.ensures.few_bytes));
      text_is = rw items (inv.text_is ∙ ap (λ r. flat_map segment_line c.loop-line.segments.items ++ r)
          (c.in-Some.ensures.parts ∙ ap (λ l. l ++ 10 ∷ c.in-Some.after.now) c.in-Some-segment_in.ensures.words)
          ∙ segment_text c.in-Some.after.now c.loop-line.segments.items s);
      read = λ whole read.
          subst (λ n. HasReadLines whole n c.in-Some.after.now) (omega arith)
          (read_more (next_is (inv.read whole read) c.in-Some.ensures)
          (SegmentLine s (omega arith) (omega arith) c.in-Some-segment_in.ensures));
    }

pub returns-then-is_empty-clause-read : goal.returns-then-is_empty-clause-read
returns-then-is_empty-clause-read c = grind (arith, common_steps)
