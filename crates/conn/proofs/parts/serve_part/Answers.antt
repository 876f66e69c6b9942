use Rattle.std.proofs.Common.{◌++◌, ◌∷◌, ◌∙◌, [], ap, refl, rules, subst, arith}
use Rattle.conn.specs.Parts.{worker_input}
use Rattle.conn.proofs.WorkerProgress.{HasServedSoFar, none_served, one_served, served_fresh, worker_state}
use Rattle.conn.proofs.parts.serve_part.Goals as goal

pub connections-init : goal.connections-init
connections-init g c =
    subst (λ rs. HasServedSoFar (worker_input c.args.films.now c.args.settings.now c.args.seed c.args.worker)
    (worker_state c.args.seat.now (g.G.Gate.faults c.args.part.now) (g.G.Gate.told c.args.part.now) [])
    (worker_state c.args.seat.now (g.G.Gate.faults c.args.part.now) (g.G.Gate.told c.args.part.now) rs)) (search rules)
    (none_served _ _ c.requires.untouched refl)

pub connections-preserved : goal.connections-preserved
connections-preserved g c =
    let report = c.serve_connection-report.result in
    let served = c.serve_connection-report.ensures in
    let some = rw c.in-Ok-Some.field-0-is at c.in-Ok-Some.ensures in
    one_served {new = worker_state c.serve_connection-report.new.seat (g.G.Gate.faults c.give_back.new.self)
    (g.G.Gate.told c.give_back.new.self) c.push_reserved.new.self.items} c.connections.invariant (record {
      report = report;
      returned = _;
      reports_are = c.push_reserved.ensures.items ∙ ap (λ xs. xs ++ report ∷ []) c.reserve.ensures.items;
      seat = served.seat;
      entries = served.entries;
      worker = served.worker;
      words = search rules;
      one = served_fresh (record {
        films = c.args.films.now;
        settings = c.args.settings.now;
        words = _;
        given = _;
        returned = _;
        seat = c.connections.seat;
        next = c.serve_connection-report.new.seat;
        report = report;
        fresh = some.fresh;
        words_are = served.words;
        served = served.served;
        keeps = served.guarantee;
        entries = served.entries;
        fault = served.fault;
      });
      back = record { taken = g.G.Gate.told c.take.new.self; takes = some.gave; returns = c.give_back.ensures.back };
      count = omega (arith, c.take.ensures.count, c.give_back.ensures.count);
    })
