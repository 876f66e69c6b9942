use Rattle.std.proofs.Common.{◌≡◌, ◌∙◌, ℕ, List, [], ◌++◌, Err, inl, inr, sym, ap}
use Rattle.std.proofs.lemmas.List.{append-nil}
use Rattle.mpeg_scan.specs.declared.faults.ScanRefused.TheVariants.{Fault as FaultAnswer}
use Rattle.mpeg_scan.specs.StartCodes.{codes_of, read_after}
use Rattle.mpeg_scan.specs.FilmFaults.{first_fault}
use Rattle.mpeg_scan.proofs.ByteReadLemmas.{read-append}
use Rattle.inputs.proofs.ScanLemmas.{more_told}
use Rattle.inputs.proofs.StreamLemmas.{refused_more}
use Rattle.inputs.proofs.streams.take_video.Goals as goal

pub returns-in-Ok-clause-taken : goal.returns-in-Ok-clause-taken
returns-in-Ok-clause-taken g c = λ seen taken. elim taken [
  | inl so_far ↦ inl (more_told (record {
    Heard = _;
    Next = _;
    scanner = _;
    next = _;
    chunk = c.args.video.now;
    kept = (c.in-Ok.ensures {u = tt}).kept;
    tells = (c.in-Ok.ensures {u = tt}).heard;
  }) so_far)
  | inr so_far ↦
      (let answered : c.feed.result ≡ Err (FaultAnswer so_far.fault) =
      (c.feed.ensures.again (FaultAnswer so_far.fault) so_far.answers).0 in absurd (cc))
]

pub returns-in-Err-Fault-clause-taken : goal.returns-in-Err-Fault-clause-taken
returns-in-Err-Fault-clause-taken g c = λ seen taken. elim taken [
  | inl so_far ↦ inr (record {
    fault = c.in-Err-Fault.field-0-0;
    answers = c.feed.ensures.refused (FaultAnswer c.in-Err-Fault.field-0-0) (cc);
    front = seen ++ c.args.video.now;
    rest = [];
    video_is = sym (append-nil (seen ++ c.args.video.now));
    refused = ap (λ (r : List ℕ). first_fault (codes_of r)) (read-append [] seen c.args.video.now)
        ∙ c.feed.ensures.fault c.in-Err-Fault.field-0-0 (cc) (read_after [] seen) so_far.fed;
  })
  | inr so_far ↦
      inr (refused_more c.args.scanner.now c.feed.new.self seen c.args.video.now
      ((c.feed.ensures.again (FaultAnswer so_far.fault) so_far.answers).1) so_far)
]
