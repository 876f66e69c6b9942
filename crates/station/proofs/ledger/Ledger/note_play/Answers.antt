use Rattle.std.proofs.Common.{refl, min}
use Rattle.admission.specs.declared.entries.Command.TheVariants.{Play}
use Rattle.vod_base.specs.declared.links.TheConstants.{LATEST_SLOT}
use Rattle.station.proofs.EntryLemmas.{HaltlessCall, halts_told}
use Rattle.station.proofs.ledger.Ledger.note_play.Goals as goal

pub invariant_of-self : goal.invariant_of-self
invariant_of-self c =
    let call : HaltlessCall = record {
      call = record {
        old = c.self.inside.book;
        new = c.play.new.self;
        maker = c.args.maker;
        command = Play (min c.args.heard LATEST_SLOT) c.args.plan;
      };
      no_halt = refl;
    } in
    halts_told c.play.result call c.play.ensures.noted c.play.ensures.left c.self.invariant
