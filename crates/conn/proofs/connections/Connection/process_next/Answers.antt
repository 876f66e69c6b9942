use Rattle.std.proofs.Common.{arith, Ok, inl, inr, refl, rules}
use Rattle.conn.proofs.FaultCounts.{counted_none}
use Rattle.rtsp_text.proofs.WholeRequests.{fewer, first_is}
use Rattle.conn.proofs.ElementPrefixes.{cuts_drop, cuts_same}
use Rattle.conn.proofs.ReservationSteps.{kept_moved}
use Rattle.interleave.specs.Elements.{IsFirst}
use Rattle.interleave.specs.declared.elements.Step.TheVariants.{Block, Skip}
use Rattle.conn.proofs.CourseSteps.{fault_ends, input_is, taken_fault, taken_passed}
use Rattle.conn.proofs.connections.Connection.process_next.Goals as goal

pub returns-in-Ok-Skip : goal.returns-in-Ok-Skip
returns-in-Ok-Skip g c =
    let here = c.args.self.now in
    let n = c.in-Ok-Skip.count in
    let first : IsFirst here.input (Ok (Skip n)) = first_is c.in-Ok-Skip.ensures.first refl c.in-Ok-Skip.field-0-is in
    let gone = rw c.look.ensures.waiting at c.drop_front.ensures in
    record {
      kept = kept_moved c.args.seat.now here c.drop_front.new.self c.requires.quiet;
      takes = taken_passed n (inl first) (search rules)
          (input_is here (g.K.Link.told c.args.link.now) c.args.seat.now gone);
      cut = cuts_drop (Skip n) first gone;
      taken = (c.requires.lost, fewer here.input c.drop_front.new.self n first.0 first.1.within gone);
      counted = counted_none (g.K.Link.faults c.args.link.now);
    }

pub returns-in-Ok-Block : goal.returns-in-Ok-Block
returns-in-Ok-Block g c =
    let here = c.args.self.now in
    let channel = c.in-Ok-Block.field-0-0 in
    let n = c.in-Ok-Block.count in
    let left = c.drop_front-in-Ok-Block.new.self in
    let first : IsFirst here.input (Ok (Block channel n)) = grind arith in
    let gone = rw c.look.ensures.waiting at c.drop_front-in-Ok-Block.ensures in
    record {
      kept = kept_moved c.args.seat.now here left c.requires.quiet;
      takes = taken_passed n (inr (channel, first)) (search rules)
          (input_is here (g.K.Link.told c.args.link.now) c.args.seat.now gone);
      cut = cuts_drop (Block channel n) first gone;
      taken = (c.requires.lost, fewer here.input left n (omega (arith, first.3)) first.4 gone);
      counted = counted_none (g.K.Link.faults c.args.link.now);
    }

pub returns-in-Ok-More : goal.returns-in-Ok-More
returns-in-Ok-More g c =
    let waiting = c.look.ensures.waiting in
    let first = first_is c.in-Ok-More.ensures.first waiting c.in-Ok-More.field-0-is in
    record {
      kept = kept_moved c.args.seat.now c.args.self.now c.look.new.self c.requires.quiet;
      takes = (
        input_is c.args.self.now (g.K.Link.told c.args.link.now) c.args.seat.now waiting,
        record { torn = search rules; waits = inl first },
      );
      cut = cuts_same c.args.self.now.input c.look.new.self waiting;
      taken = (search rules, c.requires.lost, inl first);
      counted = counted_none (g.K.Link.faults c.args.link.now);
    }

pub process_request-requires-clause-first : goal.process_request-requires-clause-first
process_request-requires-clause-first g c =
    first_is c.in-Ok-Request.ensures.first c.look.ensures.waiting c.in-Ok-Request.field-0-is

pub returns-in-Err-clause-takes : goal.returns-in-Err-clause-takes
returns-in-Err-clause-takes g c =
    rw c.look.ensures.waiting
    (inr (taken_fault c.in-Err.fault c.end_of.result (search rules) c.in-Err.ensures.first c.end_of.ensures))

pub returns-in-Err-clause-taken : goal.returns-in-Err-clause-taken
returns-in-Err-clause-taken g c =
    rw c.look.ensures.waiting
    (fault_ends c.in-Err.fault c.end_of.result c.args.self.now c.end_of.ensures c.in-Err.ensures.first)
