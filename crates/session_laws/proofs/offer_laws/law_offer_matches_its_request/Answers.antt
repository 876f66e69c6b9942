use Rattle.std.proofs.Common.{refl}
use Rattle.session.proofs.InitialStateLemmas.{heard_by}
use Rattle.session_laws.proofs.OfferLemmas.{offer_asked, offer_told}
use Rattle.session_laws.proofs.offer_laws.law_offer_matches_its_request.Goals as goal

pub returns : goal.returns
returns c = record {
  asked = λ old new message plan offers hears. offer_asked (heard_by hears) refl;
  told = offer_told;
}
