use Rattle.vod_base.proofs.LinkLogLemmas.{sent_of-sends, sent_of-append}
use Rattle.vod_base.proofs.laws.law_sent_bytes_are_in_order.Goals as goal

pub returns : goal.returns
returns c = record { bytes = sent_of-sends; order = sent_of-append }
