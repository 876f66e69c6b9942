use Rattle.rtsp_text.proofs.WholeRequests.{first_taken}
use Rattle.rtsp_text.proofs.laws.law_look_finds_whole_requests.Goals as goal

pub returns : goal.returns
returns c = first_taken c.args.waiting.now c.args.count c.requires
