use Rattle.early_start.proofs.RefusedStarts.{same_start, same_tried}
use Rattle.early_start.proofs.laws.law_offer_is_unique.Goals as goal

pub returns : goal.returns
returns c = record {
  start = λ from first booked capacity segments one other wait x y.
      same_start wait x y;
  tried = λ from first booked capacity segments one other wait x y.
      same_tried wait x y;
}
