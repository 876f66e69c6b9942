use Rattle.std.proofs.Common.{◌≡◌, ◌≤◌, ◌+◌, ◌++◌, ℕ, List, All, length, flat_map}
use Rattle.plan_cert.specs.declared.cert_reader.TheConstants.{MAX_NUMBER, MAX_SEGMENTS}
use Rattle.plan_cert.specs.CertFormat.{segment_line}
use Rattle.plan_cert.specs.CertGrammar.{HasReadLines}
use Rattle.plan_cert.proofs.cert_reader.read_body.Given as goal

abbrev pub invariant-loop-line : goal.invariant-loop-line
invariant-loop-line l = record {
  few : l.count ≤ MAX_SEGMENTS;
  counted : length l.segments.items ≡ l.count;
  small : All (λ s. (s.slots ≤ MAX_NUMBER) × (s.bytes ≤ MAX_NUMBER)) l.segments.items;
  text_is : l.text ≡ flat_map segment_line l.segments.items ++ l.rest;
  read : (whole : List ℕ) → HasReadLines whole 3 l.text → HasReadLines whole (3 + l.count) l.rest;
}

abbrev pub decreases-loop-line : goal.decreases-loop-line
decreases-loop-line l = length l.rest
