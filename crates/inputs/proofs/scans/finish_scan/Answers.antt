use Rattle.std.proofs.Common.{◌≡◌, ◌∙◌, Some, Err, [], inl, inr, ap, arith}
use Rattle.mpeg_scan.proofs.FilmLemmas.{length-read}
use Rattle.mpeg_scan.specs.declared.faults.FilmFault.{FilmFault}
use Rattle.mpeg_scan.specs.declared.faults.ScanRefused.TheVariants.{Fault as FaultAnswer}
use Rattle.mpeg_scan.specs.StartCodes.{read_after}
use Rattle.inputs.proofs.RefusalLemmas.{film_trouble_map}
use Rattle.inputs.proofs.ScanLemmas.{refused_ended}
use Rattle.inputs.proofs.scans.finish_scan.Goals as goal

pub returns-in-Ok-clause-ended : goal.returns-in-Ok-clause-ended
returns-in-Ok-clause-ended g c = λ video short taken. elim taken [
  | inl so_far ↦
      (let read = read_after [] video in
      let end = (c.in-Ok.ensures {u = tt}).ended read so_far.fed in
      record {
        accepted = end.0;
        sized = omega (arith, end.2, length-read video []);
        rate_is = end.1;
        heard = (c.in-Ok.ensures {u = tt}).heard read [] so_far.fed so_far.heard;
      })
  | inr so_far ↦
      (let answered : c.finish.result ≡ Err (FaultAnswer so_far.fault) =
      (c.finish.ensures.again (FaultAnswer so_far.fault) so_far.answers).0 in absurd (cc))
]

pub returns-in-Err-clause-error : goal.returns-in-Err-clause-error
returns-in-Err-clause-error g c =
    film_trouble_map c.args.name.now c.scan_error.result
    (λ fault is video short taken. elim taken [
      | inl so_far ↦ c.finish.ensures.fault fault (cc) (read_after [] video) so_far.fed
      | inr so_far ↦
          (let answered : c.finish.result ≡ Err (FaultAnswer so_far.fault) =
          (c.finish.ensures.again (FaultAnswer so_far.fault) so_far.answers).0 in
          let same : so_far.fault ≡ fault = cc in
          refused_ended c.args.scanner video short so_far ∙ ap (λ (f : FilmFault). Some f) same)
    ])
    c.scan_error.ensures
