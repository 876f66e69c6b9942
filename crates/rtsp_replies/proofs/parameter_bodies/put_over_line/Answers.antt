use Rattle.std.proofs.Common.{append_assoc}
use Rattle.rtsp_replies.proofs.parameter_bodies.put_over_line.Goals as goal

pub returns-clause-text : goal.returns-clause-text
returns-clause-text c =
    rw (
      c.put-5.ensures.text,
      c.put_number-4.ensures.text,
      c.put-4.ensures.text,
      c.put_number-3.ensures.text,
      c.put-3.ensures.text,
      c.put_number-2.ensures.text,
      c.put-2.ensures.text,
      c.put_number.ensures.text,
      c.put.ensures.text,
    ) (simp append_assoc)
