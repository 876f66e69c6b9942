use Rattle.std.proofs.Common.{◌<◌, ◌∷◌, [], List, length, ap, sym, subst, inr, arith, rules}
use Rattle.std.specs.Prelude.{map}
use Rattle.std.proofs.lemmas.Iterator.Adapters.{YieldsList-from_vec}
use Rattle.std.proofs.lemmas.Iterator.Consumers.{YieldsList-turn}
use Rattle.std.proofs.lemmas.List.{map-append}
use Rattle.std.proofs.lemmas.List.Elements.{All-nil, All-push}
use Rattle.vod_base.specs.IoState.{HasRisen}
use Rattle.station.specs.Seats.{SeatState}
use Rattle.conn.specs.declared.reports.PartReport.{PartReport}
use Rattle.vodserve.specs.WorkerResults.{AreLeft}
use Rattle.vodserve.specs.Workers.{report_of}
use Rattle.vodserve.specs.declared.workers.Worker.{Worker}
use Rattle.vodserve.proofs.WorkerLemmas.{join_one, number_of, part_out, taken_worker}
use Rattle.vodserve.proofs.GateLemmas.{not_opened_back, not_opened_here, risen_on, risen_since, back_still_open}
use Rattle.vodserve.proofs.workers.join_workers.Goals as goal

pub loop-worker-init : goal.loop-worker-init
loop-worker-init g c = record {
  joined = record {
    id = ap (λ (s : SeatState). s.id) c.requires.seat;
    steps = ap (λ (s : SeatState). s.steps) c.requires.seat;
    limit = ap (λ (s : SeatState). s.limit) c.requires.seat;
    number = ap (λ (s : SeatState). s.number) c.requires.seat;
    mine = ap (λ (s : SeatState). s.mine) c.requires.seat;
    splits = ap (λ (s : SeatState). s.splits) c.requires.seat;
    joined = ap (λ (s : SeatState). s.joined) c.requires.seat;
    seen = All-nil (λ (w : Worker _). _);
    out = c.requires.parts;
    back = tt;
  };
  left = record {
    taken = λ e. All-nil (λ (p : PartReport). _);
    failed = λ e. let bad : ⊥ = cc in absurd bad;
    memory = inr (All-nil (λ (p : PartReport). _));
    whole = inr c.requires.none;
  };
  opened = λ opening is. is;
  since = not_opened_here (g.G.Gate.told c.args.gate.now);
  count = omega arith;
  counted = All-nil (λ (w : Worker _). _);
}

pub loop-worker-preserved : goal.loop-worker-preserved
loop-worker-preserved g c =
    let inv = c.loop-worker.invariant in
    let done : List (Worker _) = c.loop-worker.yielded in
    let worker : Worker _ = c.in-Some.worker in
    let told = g.G.Gate.told in
    let before = g.G.Gate.faults c.args.gate.now in
    let mid = g.G.Gate.faults c.loop-worker.gate in
    let after = g.G.Gate.faults c.rejoin.new.self in
    let turn = YieldsList-turn (YieldsList-from_vec {s = c.into_iter-worker-iterator.result} c.args.workers.items
    (search rules) (search rules)) c.loop-worker.yielded c.loop-worker.worker-iterator c.loop-worker.yielded_by
    c.next.result c.next.new.self c.in-Some.worker c.in-Some.is c.next.ensures.steps in
    let next = taken_worker {worker = worker} c.args.workers.items done c.requires.workers turn in
    record {
      joined = join_one (record {
        worker = worker;
        placed = next;
        count = _;
        inside = turn.0;
        seat = _;
        seat' = _;
        gate = _;
        gate' = _;
        seated = c.join.ensures.same;
        rejoins = c.rejoin.ensures.joined;
        longer = c.join.ensures.longer;
        seen = c.join.ensures.told;
      }) inv.joined;
      left = subst (λ (ps : List PartReport). AreLeft ps c.add_reports-end.result
          c.add_reports-end.new.reports.items) (sym (map-append report_of done (worker ∷ [])))
          (c.add_reports-end.ensures.left (map report_of done) inv.left);
      opened = λ opening opened. back_still_open opening (told worker.part) (told c.loop-worker.gate)
          (told c.rejoin.new.self) (inv.opened opening opened) c.rejoin.ensures.joined;
      since = not_opened_back (told c.args.gate.now) (told worker.part) (told c.loop-worker.gate)
          (told c.rejoin.new.self) inv.since c.rejoin.ensures.joined;
      count = omega (arith, c.rejoin.ensures.count, inv.count);
      counted = All-push (λ (w : Worker _). 0 < g.G.Gate.faults w.part → HasRisen before after) done worker
          (λ i d h some. risen_on before mid after (inv.counted i d h some) c.rejoin.ensures.count)
          (λ some. risen_since before mid after (c.rejoin.ensures.risen some) inv.count);
    }

pub join-requires : goal.join-requires
join-requires g c =
    let turn = YieldsList-turn (YieldsList-from_vec {s = c.into_iter-worker-iterator.result} c.args.workers.items
    (search rules) (search rules)) c.loop-worker.yielded c.loop-worker.worker-iterator c.loop-worker.yielded_by
    c.next.result c.next.new.self c.in-Some.worker c.in-Some.is c.next.ensures.steps in
    let next = taken_worker {worker = c.in-Some.worker} c.args.workers.items c.loop-worker.yielded c.requires.workers
    turn in
    record { seat = search rules; other = next.is.id; not_first = λ first. omega (arith, first, next.is.seat) }

pub rejoin-requires : goal.rejoin-requires
rejoin-requires g c =
    let turn = YieldsList-turn (YieldsList-from_vec {s = c.into_iter-worker-iterator.result} c.args.workers.items
    (search rules) (search rules)) c.loop-worker.yielded c.loop-worker.worker-iterator c.loop-worker.yielded_by
    c.next.result c.next.new.self c.in-Some.worker c.in-Some.is c.next.ensures.steps in
    let next = taken_worker {worker = c.in-Some.worker} c.args.workers.items c.loop-worker.yielded c.requires.workers
    turn in
    record {
      out = part_out (length c.loop-worker.yielded) (length c.args.workers.items) (g.G.Gate.told c.loop-worker.gate)
          (g.G.Gate.told c.in-Some.worker.part) (record {
            inside = turn.0;
            number = number_of _ c.in-Some.worker.number _ next.is.part next.number;
            out = c.loop-worker.invariant.joined.out;
          });
    }
