use Rattle.std.proofs.Common.{arith}
use Rattle.rtsp_text.proofs.WholeRequests.{request-take}
use Rattle.conn.proofs.connections.Connection.answer_request.Goals as goal

pub hear-ask-requires-clause-whole : goal.hear-ask-requires-clause-whole
hear-ask-requires-clause-whole g c = grind (arith, request-take)
