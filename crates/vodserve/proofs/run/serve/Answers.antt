use Rattle.std.proofs.Common.{◌≡◌, ◌∙◌, ℕ, List, length, inl, inr, refl, sym, ap, subst, arith}
use Rattle.admission.specs.declared.entries.Entry.{Entry}
use Rattle.conn.specs.Parts.{WorkerGate}
use Rattle.conn.specs.declared.reports.ConnReport.{ConnReport}
use Rattle.cli_args.specs.Invocations.{ServeArgs}
use Rattle.cli_args.specs.InvocationViews.{serve_args_of}
use Rattle.vodserve.specs.ServerOutput.{IsJournal, served_text}
use Rattle.vodserve.specs.IoStates.{IoState, gate_state_of, io_state_of, streams}
use Rattle.vodserve.specs.WorkerResults.{IsWorkersResult, ServerRun, server_run}
use Rattle.vodserve.specs.Run.{Ends}
use Rattle.vodserve.specs.declared.run_results.Ended.{Ended}
use Rattle.vodserve.proofs.FilmLoadLemmas.{fault_risen, have_worked_since, make_serves, loaded_accepted}
use Rattle.vodserve.proofs.GateLemmas.{once_since}
use Rattle.vodserve.proofs.ErrorNameLemmas.{good_make_trouble, good_serve_trouble}
use Rattle.vodserve.proofs.run.serve.Goals as goal

pub end_with-requires : goal.end_with-requires
end_with-requires g c =
    good_serve_trouble (record {
      serving = serve_args_of c.args.serving.now;
      store = io_state_of g.L.Library.faults g.L.Library.files c.args.library.now;
      store_after = io_state_of g.L.Library.faults g.L.Library.files c.prepare.new.library;
      gate = gate_state_of g.G.Gate.faults g.G.Gate.told c.args.gate.now;
      gate_after = gate_state_of g.G.Gate.faults g.G.Gate.told c.prepare.new.gate;
    }) c.in-Err.error c.requires.films ((c.in-Err.ensures {u = tt}).error)

pub end_with-requires-in-Err-run_server : goal.end_with-requires-in-Err-run_server
end_with-requires-in-Err-run_server g c =
    good_make_trouble _ _ c.in-Err-run_server.error ((c.in-Err-run_server.ensures {u = tt}).error)

pub returns-in-Ok-run_server-clause-serves : goal.returns-in-Ok-run_server-clause-serves
returns-in-Ok-run_server-clause-serves g c =
    let entries : List Entry = c.in-Ok-run_server.closed.book.entries in
    let reports : List ConnReport = c.in-Ok-run_server.closed.reports.items in
    let ended : Ended = c.end_server.result in
    let serving : ServeArgs = serve_args_of c.args.serving.now in
    let work : List Entry → ServerRun = server_run c.in-Ok.prepared.films.items serving c.args.seed in
    let before : WorkerGate = gate_state_of g.G.Gate.faults g.G.Gate.told c.args.gate.now in
    let opened : WorkerGate = gate_state_of g.G.Gate.faults g.G.Gate.told c.prepare.new.gate in
    let after : WorkerGate = gate_state_of g.G.Gate.faults g.G.Gate.told c.run_server.new.gate in
    let same : served_text entries (length reports) ≡ served_text ended.journal.items (length ended.reports.items) =
    ap (λ (es : List Entry). served_text es (length reports)) (sym c.end_server.ensures.journal)
    ∙ ap (λ (rs : List ConnReport). served_text ended.journal.items (length rs)) (sym c.end_server.ensures.reports) in
    let worked : IsWorkersResult (work ended.journal.items) before after c.in-Ok-run_server.closed.end
    ended.reports.items =
    subst (λ (rs : List ConnReport).
    IsWorkersResult (work ended.journal.items) before after c.in-Ok-run_server.closed.end rs)
    (sym c.end_server.ensures.reports)
    (subst (λ (es : List Entry). IsWorkersResult (work es) before after c.in-Ok-run_server.closed.end reports)
    (sym c.end_server.ensures.journal)
    (have_worked_since (record { before = before; gate = opened; low = c.prepare.ensures.count })
    ((c.in-Ok-run_server.ensures {u = tt}).worked))) in
    let out : IoState (List ℕ) = io_state_of g.O.Sink.faults g.O.Sink.written c.args.out.now in
    let out' : IoState (List ℕ) = io_state_of g.O.Sink.faults g.O.Sink.written c.end_server.new.out in
    let err : IoState (List ℕ) = io_state_of g.E.Sink.faults g.E.Sink.written c.args.err.now in
    let err' : IoState (List ℕ) = io_state_of g.E.Sink.faults g.E.Sink.written c.end_server.new.err in
    inr (record {
      films = c.in-Ok.prepared.films.items;
      loaded = (c.in-Ok.ensures {u = tt}).loaded;
      journal = subst (λ (es : List Entry). IsJournal serving es) (sym c.end_server.ensures.journal)
          ((c.in-Ok-run_server.ensures {u = tt}).closed);
      entries_short = omega (arith, ended.journal.ok);
      connections_short = omega (arith, ended.reports.ok);
      end = c.in-Ok-run_server.closed.end;
      worked = worked;
      once = once_since before.told opened.told after.told ((c.in-Ok.ensures {u = tt}).once) c.run_server.ensures.since;
      fault = fault_risen worked;
      ends = subst (λ (text : List ℕ). Ends (streams out out' err err') text c.in-Ok-run_server.closed.end ended) same
          c.end_server.ensures.ends;
    })

pub returns-in-Err-run_server-clause-serves : goal.returns-in-Err-run_server-clause-serves
returns-in-Err-run_server-clause-serves g c =
    let serving : ServeArgs = serve_args_of c.args.serving.now in
    let before : WorkerGate = gate_state_of g.G.Gate.faults g.G.Gate.told c.args.gate.now in
    let opened : WorkerGate = gate_state_of g.G.Gate.faults g.G.Gate.told c.prepare.new.gate in
    let after : WorkerGate = gate_state_of g.G.Gate.faults g.G.Gate.told c.run_server.new.gate in
    inl (
      c.in-Err-run_server.error,
      (
        make_serves (record {
          serving = serving;
          store = io_state_of g.L.Library.faults g.L.Library.files c.args.library.now;
          store_after = io_state_of g.L.Library.faults g.L.Library.files c.prepare.new.library;
          gate = before;
          gate_after = after;
        }) opened.faults c.in-Err-run_server.error ((c.in-Err-run_server.ensures {u = tt}).error)
            c.prepare.ensures.count (record {
              accepted = loaded_accepted serving _ c.in-Ok.prepared.films.items ((c.in-Ok.ensures {u = tt}).loaded);
              once = once_since before.told opened.told after.told ((c.in-Ok.ensures {u = tt}).once)
                  c.run_server.ensures.since;
              few = (c.in-Err-run_server.ensures {u = tt}).few;
            }),
        refl,
        c.end_with-in-Err-run_server.ensures.nothing,
        c.end_with-in-Err-run_server.ensures.fails,
      ),
    )
