use Rattle.std.proofs.Common.{◌≡◌, ◌++◌, take, ap, ◌∙◌, arith}
use Rattle.std.proofs.lemmas.Bool.{cond-false, le-ltb}
use Rattle.std.proofs.lemmas.List.{length-take}
use Rattle.interleave.specs.declared.demux.TheConstants.{MAX_WAITING_BYTES}
use Rattle.std.proofs.lemmas.Result.{IfErr-weaker, on_ok_weaker}
use Rattle.rtsp_client.specs.Answers.{cut_bytes}
use Rattle.rtsp_client.specs.ControlFlows.{as_result}
use Rattle.rtsp_client.proofs.EventCourses.{ended-bytes, ended-peer, round-bytes, round-slot}
use Rattle.rtsp_client.proofs.Outcomes.{both-ok}
use Rattle.rtsp_client.proofs.ElementSteps.{keeps-moved}
use Rattle.rtsp_client.proofs.clients.Client.hear.Goals as goal
use Rattle.rtsp_client.proofs.clients.Client.hear.Goals.{After-put}

pub returns-in-End-clause-ended : goal.returns-in-End-clause-ended
returns-in-End-clause-ended g c = rw (c.in-End.is, c.tally-units.ensures) (λ h k. ended-peer k)

pub returns-in-Slot-clause-on : goal.returns-in-Slot-clause-on
returns-in-Slot-clause-on g c =
    rw c.in-Slot.is
    (λ h k.
    round-slot
    (record {
      cut = _;
      keeps = k;
      slot_lasts = omega (arith, c.requires.wish.some_units);
      picture_lasts = c.hear_slot.ensures.timed;
      cut_is = c.cut_bytes-cut.ensures.cut ∙ ap cut_bytes c.waiting.ensures;
      idle = c.requires.idle;
    }) c.hear_slot.ensures.state)

-- the bytes that came are behind those that waited
grown : (g : _) (c : After-put g)
    → c.put.new.self ≡ c.args.self.now.input ++ take c.in-Bytes.count c.args.bytes.now
grown g c =
    c.put.ensures.waiting
    ∙ cond-false _ _ _ (c.put.ensures.fault ∙ le-ltb MAX_WAITING_BYTES _
    (omega (arith, c.requires.waits, c.requires.short, length-take c.in-Bytes.count c.args.bytes.now)))

pub returns-in-Bytes-clause-on : goal.returns-in-Bytes-clause-on
returns-in-Bytes-clause-on g c =
    rw c.in-Bytes.is
    (λ h k.
    on_ok_weaker (as_result c.process_input.result) (λ both. round-bytes both.0 both.1)
    (both-ok _ _ (as_result c.process_input.result)
    (rw (← grown g (goal.at.returns-in-Bytes-clause-on g c).After-put)
    (c.process_input.ensures.taken h (keeps-moved k)))
    c.process_input.ensures.idle))

pub returns-in-Bytes-clause-ended : goal.returns-in-Bytes-clause-ended
returns-in-Bytes-clause-ended g c =
    rw c.in-Bytes.is
    (λ h k.
    IfErr-weaker (as_result c.process_input.result) _ _ (λ end stopped. ended-bytes stopped)
    (rw (← grown g (goal.at.returns-in-Bytes-clause-ended g c).After-put)
    (c.process_input.ensures.stopped h (keeps-moved k))))
