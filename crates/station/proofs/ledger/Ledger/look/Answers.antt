use Rattle.std.proofs.Common.{refl, min}
use Rattle.admission.specs.declared.entries.Command.TheVariants.{Look}
use Rattle.admission.specs.Makers.{AreHaltsOwn}
use Rattle.vod_base.specs.declared.links.TheConstants.{LATEST_SLOT}
use Rattle.station.proofs.BookAnswers.{look_answered}
use Rattle.station.proofs.EntryLemmas.{HaltlessCall, halts_told}
use Rattle.station.proofs.ledger.Ledger.look.Goals as goal
use Rattle.station.proofs.ledger.Ledger.look.Goals.{After-look}

told : (c : After-look) → AreHaltsOwn c.look.new.self.entries
told c =
    let call : HaltlessCall = record {
      call = record {
        old = c.self.inside.book;
        new = c.look.new.self;
        maker = c.args.maker;
        command = Look (min c.args.slot LATEST_SLOT);
      };
      no_halt = refl;
    } in
    halts_told c.look.result call c.look.ensures.noted c.look.ensures.left c.self.invariant

pub invariant_of-self : goal.invariant_of-self
invariant_of-self c = told (goal.at.invariant_of-self c).After-look

pub invariant_of-self-2 : goal.invariant_of-self-2
invariant_of-self-2 c = told (goal.at.invariant_of-self-2 c).After-look

pub unwrap-requires : goal.unwrap-requires
unwrap-requires c =
    let noted = c.in_ok-noted in
    let looked = look_answered noted.ensures.noted in
    c.of.ensures.some looked.0 looked.1 looked.2 looked.3
