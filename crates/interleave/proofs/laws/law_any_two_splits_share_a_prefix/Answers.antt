use Rattle.interleave.proofs.StreamElements.{TwoCuts, cuts_agree}
use Rattle.interleave.proofs.laws.law_any_two_splits_share_a_prefix.Goals as goal

pub returns : goal.returns
returns c = λ heard one other rest end cut cut'.
    let cuts : TwoCuts heard one other rest end = record { one = cut; other = cut' } in
    cuts_agree cuts
