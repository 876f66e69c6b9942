use Rattle.rtsp_fields.proofs.PartLemmas.{pair_or_single}
use Rattle.rtsp_fields.proofs.transports.read_channels.Goals as goal

pub returns-in-None : goal.returns-in-None
returns-in-None c = pair_or_single c.read_single.result c.args.text.now c.in-None.ensures c.read_single.ensures
