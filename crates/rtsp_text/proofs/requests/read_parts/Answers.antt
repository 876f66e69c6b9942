use Rattle.std.proofs.Common.{rules}
use Rattle.rtsp_text.proofs.RequestBounds.{lengths_of}
use Rattle.rtsp_text.proofs.requests.read_parts.Goals as goal

pub returns-clause-read : goal.returns-clause-read
returns-clause-read c = record {
  split = c.split.ensures;
  line = search rules;
  headers = search rules;
  sequence_is = search rules;
  length_is = search rules;
  body_is = (lengths_of c.requires c.split.ensures).body_is;
}
