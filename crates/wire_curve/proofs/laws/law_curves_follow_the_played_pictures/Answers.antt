use Rattle.std.proofs.Common.{◌+◌, ap, max, min}
use Rattle.wire_curve.specs.FilmCurves.{total_of}
use Rattle.wire_curve.proofs.PlayedPictureLemmas.{some_by, some_before, before_of_by, used_of_first}
use Rattle.wire_curve.proofs.SlotUsageLemmas.{used_before-more}
use Rattle.wire_curve.proofs.laws.law_curves_follow_the_played_pictures.Goals as goal

pub returns : goal.returns
returns c = record {
  some_by = some_by;
  low = λ sizes timing n t are.
      ap (max timing.sent) (used_of_first sizes timing n (t + 1) (before_of_by sizes timing n t are));
  some_before = some_before;
  up = λ sizes timing n t are.
      ap (λ used. min (total_of sizes timing) (used + timing.buffer)) (used_of_first sizes timing n t are);
  slot = used_before-more;
}
