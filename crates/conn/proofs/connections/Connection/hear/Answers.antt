use Rattle.std.proofs.Common.{[], ◌≡◌, ◌<◌, ◌≤◌, ◌+◌, ◌++◌, List, length, take, refl, rules, ap, arith, ℕ, Ok, true}
use Rattle.std.proofs.lemmas.List.{length-take}
use Rattle.interleave.specs.declared.demux.TheConstants.{MAX_WAITING_BYTES}
use Rattle.vod_base.specs.declared.links.TheConstants.{MAX_READ_BYTES}
use Rattle.conn.specs.Observations.{HasTakenSlot, Observed, observed}
use Rattle.conn.specs.InputSteps.{Unasked, stage}
use Rattle.conn.proofs.FaultCounts.{counted_on}
use Rattle.conn.proofs.ReservationSteps.{kept_on}
use Rattle.interleave.specs.Elements.{IsFirst}
use Rattle.interleave.specs.declared.elements.Step.TheVariants.{More}
use Rattle.conn.specs.declared.connections.Connection.{Connection}
use Rattle.conn.specs.Events.{IsWaiting}
use Rattle.conn.proofs.CourseSteps.{event_up, input_is, noted_unasked, overfull, sent_none}
use Rattle.conn.proofs.connections.Connection.hear.Goals as goal

-- where no complete element waits, few bytes do, so an event's bytes find no room only while a
-- reply waits
waits_for_room : (c : Connection) (n : ℕ) → (IsFirst c.input (Ok More) → length c.input < 81920)
    → n ≤ MAX_READ_BYTES → MAX_WAITING_BYTES < length c.input + n → IsWaiting c → c.session.waits ≡ true
waits_for_room c n few short many waiting = grind arith

pub returns-then-is_err-clause-comes : goal.returns-then-is_err-clause-comes
returns-then-is_err-clause-comes g c =
    let bytes : List ℕ = take c.in-Bytes.count c.args.bytes.now in
    let many : MAX_WAITING_BYTES < length c.args.self.now.input + length bytes = search rules in
    let same : c.put.new.self ≡ c.args.self.now.input = search rules in
    let short : length bytes ≤ MAX_READ_BYTES =
    omega (arith, length-take c.in-Bytes.count c.args.bytes.now, c.requires.few) in
    rw c.in-Bytes.is (overfull bytes _ _ many
    (waits_for_room c.args.self.now (length bytes) c.law_waiting_bytes_are_bounded.ensures short many
    c.requires.waiting) (input_is c.args.self.now (g.K.Link.told c.args.link.now) c.args.seat.now same))

pub returns-else-is_err-clause-comes : goal.returns-else-is_err-clause-comes
returns-else-is_err-clause-comes g c =
    let bytes : List ℕ = take c.in-Bytes.count c.args.bytes.now in
    let few : length c.args.self.now.input + length bytes ≤ MAX_WAITING_BYTES = search rules in
    let input : c.put.new.self ≡ c.args.self.now.input ++ bytes = search rules in
    let told = g.K.Link.told c.args.link.now in
    rw c.in-Bytes.is (event_up {a = observed c.args.self.now told c.args.seat.now} (record {
      opened = observed (record c.args.self.now { input = c.put.new.self }) told c.args.seat.now;
      due = [];
      halt = Unasked;
      comes = (refl, refl, few, ap (stage c.args.self.now.session) input);
      sent = sent_none told;
      noted = noted_unasked c.args.seat.now;
    }) c.process_input.result _ c.process_input.ensures.up)

pub returns-else-is_err-2 : goal.returns-else-is_err-2
returns-else-is_err-2 g c =
    let here : Observed = observed c.args.self.now (g.K.Link.told c.args.link.now) c.args.seat.now in
    let mid : Observed = observed c.step.new.self (g.K.Link.told c.step.new.link) c.step.new.seat in
    let passed : HasTakenSlot here mid c.in-Slot.slot = search rules in
    let done = c.process_input-in-Slot.ensures in
    record {
      kept = kept_on c.step.ensures.kept done.kept;
      comes = rw c.in-Slot.is (event_up {a = here} (record {
        opened = mid;
        due = passed.parts;
        halt = passed.halt;
        comes = (passed.input, passed.stepped);
        sent = passed.sent;
        noted = passed.noted;
      }) c.process_input-in-Slot.result _ done.up);
      cut = rw (c.in-Slot.is, ← c.step.ensures.input) done.cut;
      taken = rw c.in-Slot.is done.taken;
      counted = counted_on c.step.ensures.count done.counted;
    }
