use Rattle.connection_laws.proofs.AdmittedStarts.{asked_start}
use Rattle.connection_laws.proofs.RequestedPlays.{good_replies, asked_played, asked_source}
use Rattle.connection_laws.proofs.watch_laws.law_client_requests_are_answered.Goals as goal

pub returns : goal.returns
returns c = record {
  replies = λ wish stored course asked few played. good_replies asked few played;
  source = λ wish stored course asked. ((asked_played asked).0, asked_source asked);
  start = λ wish stored course visit terms journal asked. asked_start asked visit terms journal;
}
