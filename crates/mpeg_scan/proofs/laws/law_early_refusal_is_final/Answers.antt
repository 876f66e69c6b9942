use Rattle.std.proofs.Common.{ℕ, List, [], Some, ◌++◌, ◌≡◌, ap, ◌∙◌}
use Rattle.mpeg_scan.specs.StartCodes.{codes_of, read_after}
use Rattle.mpeg_scan.specs.FilmFaults.{first_fault}
use Rattle.mpeg_scan.proofs.ByteReadLemmas.{fault-stays, read-append}
use Rattle.mpeg_scan.proofs.FilmLemmas.{refusal-at_code, refusal-too_long}
use Rattle.mpeg_scan.proofs.laws.law_early_refusal_is_final.Goals as goal

pub returns : goal.returns
returns c = record {
  code = λ front rest f short is.
      let whole : first_fault (codes_of (read_after [] (front ++ rest))) ≡ Some f =
      ap (λ (l : List ℕ). first_fault (codes_of l)) (read-append [] front rest)
      ∙ fault-stays rest (read_after [] front) f is in
      refusal-at_code (front ++ rest) f short whole;
  long = λ bytes far. refusal-too_long bytes far;
}
