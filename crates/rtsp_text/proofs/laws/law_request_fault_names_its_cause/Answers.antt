use Rattle.rtsp_text.proofs.FaultTexts.{fault_wrong}
use Rattle.rtsp_text.proofs.laws.law_request_fault_names_its_cause.Goals as goal

pub returns : goal.returns
returns c = fault_wrong
