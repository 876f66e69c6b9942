use Rattle.plan_cert.proofs.BadLines.{bad-bytes, bad-segment, bad-slots, bad-title, behind-end, cut-short}
use Rattle.plan_cert.proofs.BadLines.{one-bad_line, wrong-bytes, wrong-slots}
use Rattle.plan_cert.proofs.CertUniqueness.{begun_of}
use Rattle.plan_cert.proofs.laws.law_bad_line_is_the_first.Goals as goal

pub returns : goal.returns
returns c = record {
  title = bad-title;
  slots = bad-slots;
  bytes = bad-bytes;
  segment = λ slots bytes segments few_slots few_bytes small.
      bad-segment (begun_of slots bytes segments few_slots few_bytes small);
  short = λ slots bytes segments few_slots few_bytes small.
      cut-short (begun_of slots bytes segments few_slots few_bytes small);
  after = λ slots bytes segments few_slots few_bytes small.
      behind-end (begun_of slots bytes segments few_slots few_bytes small);
  sums = λ slots bytes segments few_slots few_bytes small.
      let begun = begun_of slots bytes segments few_slots few_bytes small in (wrong-slots begun, wrong-bytes begun);
  one = one-bad_line;
}
