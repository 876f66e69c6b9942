use Rattle.connection_laws.proofs.Requests.{requests_taken}
use Rattle.connection_laws.proofs.laws.law_requests_processed_in_order.Goals as goal

pub returns : goal.returns
returns c = requests_taken
