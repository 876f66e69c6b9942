use Rattle.session_laws.proofs.OfferLemmas.{least_buffer, least_told}
use Rattle.session_laws.proofs.offer_laws.law_least_buffer_is_exact.Goals as goal

pub returns : goal.returns
returns c = record { least = least_buffer; told = least_told }
