use Rattle.std.proofs.lemmas.Result.{IfErr-weaker}
use Rattle.vodserve.proofs.GateLemmas.{failed_few}
use Rattle.vodserve.proofs.watch_command.watch_gate.Goals as goal

pub returns-clause-few : goal.returns-clause-few
returns-clause-few g c =
    IfErr-weaker c.watch_part-heard.result _ _
    (λ _ lost. failed_few (record {
      how = _;
      before = g.G.Gate.told c.args.gate.now;
      door = g.G.Gate.told c.open.new.self;
      part = g.G.Gate.told c.in_ok-part.part;
      split = g.G.Gate.told c.split.new.self;
      failed = g.G.Gate.told c.watch_part-heard.new.part;
      opens = (c.in_ok-open.ensures {u = tt}).open;
      parts = ((c.in_ok-part.ensures {u = tt}).part).0;
      splits = (c.in_ok-part.ensures {u = tt}).split;
      fails = lost;
      rejoins = c.rejoin.ensures.joined;
    }))
    c.watch_part-heard.ensures.lost
