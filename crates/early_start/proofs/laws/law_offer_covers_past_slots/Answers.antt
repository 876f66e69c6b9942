use Rattle.early_start.proofs.AllSlotOffers.{offer_everywhere}
use Rattle.early_start.proofs.laws.law_offer_covers_past_slots.Goals as goal

pub returns : goal.returns
returns c =
    λ calendar plays segments first found stands within. offer_everywhere (record { stands = stands; within = within })
