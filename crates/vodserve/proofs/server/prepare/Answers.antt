use Rattle.std.proofs.Common.{◌≡◌, Option, None, Some, inr, option_map}
use Rattle.vod_base.specs.Gates.{after_open}
use Rattle.vod_base.specs.declared.gates.Opening.{Opening}
use Rattle.vodserve.specs.IoStates.{gate_state_of, io_state_of}
use Rattle.vodserve.specs.WorkerResults.{opening_of}
use Rattle.vodserve.proofs.GateLemmas.{opened_few, opened_once}
use Rattle.cli_args.specs.InvocationViews.{serve_args_of}
use Rattle.inputs.proofs.ScanLemmas.{handed_on}
use Rattle.vodserve.proofs.FilmLoadLemmas.{loaded_accepted, read_serves}
use Rattle.vodserve.proofs.server.prepare.Goals as goal

pub returns-in_err-films-clause-error : goal.returns-in_err-films-clause-error
returns-in_err-films-clause-error g c =
    handed_on _ c.from_residual.result c.from_residual.ensures.1
    (read_serves (serve_args_of c.args.serving.now) (io_state_of g.L.Library.faults g.L.Library.files
    c.args.library.now)
    (io_state_of g.L.Library.faults g.L.Library.files c.load_films.new.library)
    (gate_state_of g.G.Gate.faults g.G.Gate.told c.args.gate.now) c.in_err-films.field-0.0
    ((c.in_err-films.ensures {u = tt}).error))

pub returns-in_err-open-clause-error : goal.returns-in_err-open-clause-error
returns-in_err-open-clause-error g c =
    let before = g.G.Gate.told c.args.gate.now in
    let after = g.G.Gate.told c.open.new.self in
    let lost : after ≡ option_map (after_open None) before = (c.in_err-open.ensures {u = tt}).lost in
    handed_on _ c.from_residual-in_err-open.result c.from_residual-in_err-open.ensures.1 (
      (c.in_err-open.ensures {u = tt}).fault,
      record {
        accepted = loaded_accepted (serve_args_of c.args.serving.now) _ c.in_ok-films.films.items
            ((c.in_ok-films.ensures {u = tt}).loaded);
        once = opened_once None before after lost;
        few = opened_few c.args.serving.now.listening.workers None before after lost c.requires.listening.workers.0;
      },
    )

pub returns-in_err-station-clause-error : goal.returns-in_err-station-clause-error
returns-in_err-station-clause-error g c =
    let before = g.G.Gate.told c.args.gate.now in
    let after = g.G.Gate.told c.open.new.self in
    let how : Option Opening = Some (opening_of (serve_args_of c.args.serving.now)) in
    let opens : after ≡ option_map (after_open how) before = (c.in_ok-open.ensures {u = tt}).open in
    handed_on _ c.from_residual-in_err-station.result c.from_residual-in_err-station.ensures.1
    (inr (record {
      accepted = loaded_accepted (serve_args_of c.args.serving.now) _ c.in_ok-films.films.items
          ((c.in_ok-films.ensures {u = tt}).loaded);
      once = opened_once how before after opens;
      few = opened_few c.args.serving.now.listening.workers how before after opens c.requires.listening.workers.0;
    }))
