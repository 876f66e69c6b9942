use Rattle.std.proofs.Common.{◌≡◌, ◌∙◌, List, ℕ, Some, refl, sym, ap, subst, arith, inl, inr}
use Rattle.vod_base.specs.IoState.{file_named}
use Rattle.cli_args.specs.Invocations.{check_of}
use Rattle.cli_args.specs.InvocationViews.{client_params_of}
use Rattle.cli_errors.proofs.ReadErrorLemmas.{causes_of, trouble_map}
use Rattle.inputs.specs.FileReads.{IsMissing, IsThatName}
use Rattle.offline_commands.specs.OfflineCommands.{IsOutputOf, IsInputRefused, IsRead}
use Rattle.inputs.proofs.ScanLemmas.{handed_on, ok_map, read_trouble_map}
use Rattle.offline_commands.proofs.CommandOutputLemmas.{certificate_read}
use Rattle.offline_commands.proofs.checks.check_plan.Goals as goal

pub returns-in_err-curves-clause-error : goal.returns-in_err-curves-clause-error
returns-in_err-curves-clause-error g c =
    handed_on _ c.from_residual.result c.from_residual.ensures.1 (read_trouble_map _ _ c.in_err-curves.field-0.0
    (λ name is. inl is) (λ held name fault told is no. inl (is, no)) ((c.in_err-curves.ensures {u = tt}).error))

pub returns-in_err-written-clause-error : goal.returns-in_err-written-clause-error
returns-in_err-written-clause-error g c =
    handed_on _ c.from_residual-in_err-written.result c.from_residual-in_err-written.ensures.1
    (trouble_map (causes_of (IsThatName c.args.cert.now) IsMissing
    (g.L.Library.files c.client_curves.new.library) (g.L.Library.faults c.client_curves.new.library)
    (g.L.Library.faults c.read_input.new.library))
    (causes_of (IsRead (check_of (client_params_of c.args.viewer) c.args.cert.now))
    (IsInputRefused (check_of (client_params_of c.args.viewer) c.args.cert.now))
    (g.L.Library.files c.args.library.now) (g.L.Library.faults c.args.library.now)
    (g.L.Library.faults c.read_input.new.library))
    c.in_err-written.field-0.0
    (record {
      reads = λ name is. inr is;
      refuses = λ held name fault told is missing. inr (
        is,
        (
          (c.in_ok-curves.curves, (c.in_ok-curves.ensures {u = tt}).curves held told),
          inl (subst (λ (n : List ℕ). IsMissing held n fault) is missing),
        ),
      );
      keeps = λ held told. c.client_curves.ensures.library.kept ∙ told;
      low = omega (arith, c.client_curves.ensures.library.count);
      high = omega arith;
    })
    ((c.in_err-written.ensures {u = tt}).error))

pub returns-in-Err-BadCert-clause-error : goal.returns-in-Err-BadCert-clause-error
returns-in-Err-BadCert-clause-error g c = (
  inr refl,
  λ held told.
      let found : file_named held c.args.cert.now ≡ Some c.deref.result.now =
      (c.in_ok-written.ensures {u = tt}).found held (c.client_curves.ensures.library.kept ∙ told)
      ∙ ap (λ (t : List ℕ). Some t) (sym c.deref.ensures.value) in
      inr (
        refl,
        (
          (c.in_ok-curves.curves, (c.in_ok-curves.ensures {u = tt}).curves held told),
          inr (
            c.deref.result.now,
            (
              found,
              rw c.in-Err-BadCert.field-0-is
                  (rw c.in-Err-BadCert.field-0-is at c.in-Err-BadCert.ensures.refused),
            ),
          ),
        ),
      ),
)

pub returns-clause-done : goal.returns-clause-done
returns-clause-done g c =
    ok_map _ (λ done. IsOutputOf (g.L.Library.files c.args.library.now) (check_of (client_params_of c.args.viewer)
    c.args.cert.now) done.status done.text.items done.plan) c.verdict_output.result
    (λ done is. (
      is.0,
      is.1,
      λ held told. record {
        curves = c.in_ok-curves.curves;
        has = (c.in_ok-curves.ensures {u = tt}).curves held told;
        segments = c.deref-2.result.now;
        read = certificate_read
            ((c.in_ok-written.ensures {u = tt}).found held (c.client_curves.ensures.library.kept ∙ told))
            c.deref.ensures.value ((c.in-Ok.ensures {u = tt}).read) c.deref-2.ensures.value;
        verdict = is.2;
      },
    ))
    c.verdict_output.ensures.done
