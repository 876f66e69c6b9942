use Rattle.std.proofs.Common.{◌∙◌, ℕ, List, subst, arith}
use Rattle.std.specs.Prelude.{All}
use Rattle.vod_base.specs.declared.gates.Opening.{Opening}
use Rattle.film_frames.specs.declared.stored_films.Stored.{Stored}
use Rattle.cli_args.specs.Invocations.{ServeArgs}
use Rattle.cli_args.specs.InvocationViews.{serve_args_of}
use Rattle.vodserve.specs.WorkerResults.{opening_of, settings_of}
use Rattle.vodserve.specs.Workers.{HasFinished}
use Rattle.vodserve.proofs.FilmLoadLemmas.{closed_journal, have_worked, newly_open_as}
use Rattle.vodserve.proofs.WorkerLemmas.{all_joined, all_workers}
use Rattle.vodserve.proofs.GateLemmas.{joined_few, not_opened_on, risen_since}
use Rattle.vodserve.proofs.server.run_server.Goals as goal

pub make_workers-requires-clause-opened : goal.make_workers-requires-clause-opened
make_workers-requires-clause-opened g c = (opening_of (serve_args_of c.args.serving.now), c.requires.opened)

pub run_workers-requires-clause-each : goal.run_workers-requires-clause-each
run_workers-requires-clause-each g c κs within =
    all_workers (record { G = _; told = g.G.Gate.told; faults = g.G.Gate.faults; hall = c.args.prepared.station }) 0
    c.make_workers.new.workers.items
    c.make_workers.ensures.workers

pub close-book-requires-clause-all : goal.close-book-requires-clause-all
close-book-requires-clause-all g c =
    all_joined (record { G = _; told = g.G.Gate.told; faults = g.G.Gate.faults; hall = c.args.prepared.station })
    c.run_workers.ensures.workers c.join_workers-end.ensures.joined

pub returns-clause-since : goal.returns-clause-since
returns-clause-since g c =
    not_opened_on (g.G.Gate.told c.args.gate.now) (g.G.Gate.told c.make_workers.new.gate)
    (g.G.Gate.told c.join_workers-end.new.gate) c.make_workers.ensures.since
    c.join_workers-end.ensures.since

pub returns-in-Err-clause-few : goal.returns-in-Err-clause-few
returns-in-Err-clause-few g c =
    joined_few c.args.serving.now.listening.workers (g.G.Gate.told c.join_workers.new.gate)
    (record { joined = c.join_workers.ensures.joined; fresh = c.make_workers.ensures.fresh })
    (c.in-Err.ensures.fewer)

pub returns-clause-closed : goal.returns-clause-closed
returns-clause-closed g c =
    closed_journal _
    (record {
      told = g.G.Gate.told;
      workers = _;
      seat = _;
      gate = _;
      entries = _;
      back = c.join_workers-end.ensures.joined;
      whole = c.close-book.ensures.whole;
    })
    (record {
      steps = c.requires.steps;
      few = omega (
        arith,
        c.entries-within.ensures.within,
        c.close-book.ensures.limit,
        c.join_workers-end.ensures.joined.limit,
        c.requires.limit,
      );
      count = c.run_workers.ensures.count ∙ c.in_default.ensures.made;
    })

pub returns-clause-worked : goal.returns-clause-worked
returns-clause-worked g c =
    let serving : ServeArgs = serve_args_of c.args.serving.now in
    let before : ℕ = g.G.Gate.faults c.args.gate.now in
    let after : ℕ = g.G.Gate.faults c.join_workers-end.new.gate in
    let opening : Opening = opening_of serving in
    let IsDone : List Stored →
    Type 0 = λ films. All (HasFinished g.G.Gate.told g.G.Gate.faults films (settings_of serving)
    c.args.seed) c.run_workers.new.workers.items in
    have_worked {made = record { G = _; told = g.G.Gate.told; faults = g.G.Gate.faults; hall = c.args.prepared.station }}
    (record {
      done = record {
        of_words = record { steps = c.requires.steps; limit = c.requires.limit };
        all = c.run_workers.ensures.workers;
        finished = subst IsDone c.as_slice.ensures.value c.run_workers.ensures.finished;
      };
      joined = c.join_workers-end.ensures.joined;
      counted = λ i d h some. risen_since before (g.G.Gate.faults c.make_workers.new.gate) after
          (c.join_workers-end.ensures.counted i d h some) c.make_workers.ensures.count;
    }) c.close-book.ensures.whole (c.run_workers.ensures.count ∙ c.in_default.ensures.made)
    (c.join_workers-end.ensures.opened opening (c.make_workers.ensures.opened opening
    (newly_open_as opening (g.G.Gate.told c.args.gate.now) c.requires.opened))) c.join_workers-end.ensures.left
