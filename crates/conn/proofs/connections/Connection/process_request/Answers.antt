use Rattle.std.proofs.Common.{inl, inr, refl, rules, sym, ◌∙◌}
use Rattle.interleave.specs.declared.elements.Step.TheVariants.{Request}
use Rattle.conn.specs.Observations.{observed}
use Rattle.conn.proofs.FaultCounts.{counted_none}
use Rattle.conn.proofs.ElementPrefixes.{cuts_drop, cuts_none}
use Rattle.conn.proofs.ReservationSteps.{kept_none}
use Rattle.conn.proofs.CourseSteps.{RequestAnswered, lost_reply, stage_is, taken_reply}
use Rattle.conn.proofs.connections.Connection.process_request.Goals as goal
use Rattle.conn.proofs.connections.Connection.process_request.Goals.{After-reply}

-- the request was answered, and its reply was to be sent
abbrev answered : (g : _) (c : After-reply g)
    → RequestAnswered (observed c.args.self.now (g.K.Link.told c.args.link.now) c.args.seat.now)
    (observed (record c.answer_request.new.self { session = c.reply.new.self })
    (g.K.Link.told c.reply.new.link) c.answer_request.new.seat)
answered g c = record {
  asked = c.answer_request.new.self.session;
  n = c.args.length;
  in_front = record {
    first = c.requires.first;
    replied = sym c.waits.ensures ∙ c.if-waits.false;
    torn = c.requires.torn;
  };
  heard = c.answer_request.ensures.heard;
}

pub returns-then-waits : goal.returns-then-waits
returns-then-waits g c = record {
  kept = kept_none c.args.seat.now c.args.self.now c.requires.quiet;
  takes = (refl, record { torn = c.requires.torn; waits = inr (c.args.length, (c.requires.first, search rules)) });
  cut = cuts_none c.args.self.now.input;
  taken = (c.requires.torn, c.requires.lost, inr (c.args.length, (c.requires.first, search rules)));
  counted = counted_none (g.K.Link.faults c.args.link.now);
}

pub returns-in-Ok-clause-cut : goal.returns-in-Ok-clause-cut
returns-in-Ok-clause-cut g c = cuts_drop (Request c.args.length) c.requires.first c.answer_request.ensures.input

pub returns-in-Err-clause-cut : goal.returns-in-Err-clause-cut
returns-in-Err-clause-cut g c = cuts_drop (Request c.args.length) c.requires.first c.answer_request.ensures.input

pub returns-in-Ok-clause-takes : goal.returns-in-Ok-clause-takes
returns-in-Ok-clause-takes g c =
    taken_reply (answered g (goal.at.returns-in-Ok-clause-takes g c).After-reply)
    (stage_is c.in-Ok.ensures.exact c.answer_request.ensures.input) c.in-Ok.ensures.told

pub returns-in-Err-clause-takes : goal.returns-in-Err-clause-takes
returns-in-Err-clause-takes g c =
    inl (
      refl,
      lost_reply (answered g (goal.at.returns-in-Err-clause-takes g c).After-reply) c.in-Err.ensures.can
          (stage_is c.in-Err.ensures.failed c.answer_request.ensures.input) c.in-Err.ensures.front,
    )
