use Rattle.std.proofs.Common.{List, ℕ, inl, inr, subst, sym}
use Rattle.wire_curve.specs.FilmCurves.{IsWithinLimits}
use Rattle.cli_args.specs.InvocationViews.{client_params_of}
use Rattle.offline_commands.specs.Pictures.{pictures_of}
use Rattle.wire_curve.specs.CurveFaults.{HasCurveFault, IsRefused}
use Rattle.offline_commands.specs.Plans.{Pictures, timing_of}
use Rattle.inputs.proofs.ScanLemmas.{handed_on, read_trouble_map}
use Rattle.offline_commands.proofs.PictureLemmas.{limits_of}
use Rattle.offline_commands.proofs.curves.client_curves.Goals as goal

pub returns-in_err-pictures-clause-error : goal.returns-in_err-pictures-clause-error
returns-in_err-pictures-clause-error g c =
    handed_on _ c.from_residual.result c.from_residual.ensures.1 (read_trouble_map _ _ c.in_err-pictures.field-0.0
    (λ name is. is) (λ held name fault told is refused. inl refused) ((c.in_err-pictures.ensures {u = tt}).error))

pub film_curves-requires : goal.film_curves-requires
film_curves-requires g c =
    subst (λ (l : List ℕ). IsWithinLimits l
    (timing_of (client_params_of c.args.viewer) (pictures_of c.in_ok-pictures.pictures))) (sym c.deref.ensures.value)
    (limits_of (client_params_of c.args.viewer) (pictures_of c.in_ok-pictures.pictures)
    ((c.in_ok-pictures.ensures {u = tt}).limits) c.requires.buffer c.requires.delay)

pub returns-in-Ok-clause-curves : goal.returns-in-Ok-clause-curves
returns-in-Ok-clause-curves g c = λ held told. record {
  pictures = pictures_of c.in_ok-pictures.pictures;
  are = (c.in_ok-pictures.ensures {u = tt}).pictures held told;
  accepted = rw c.deref.ensures.value at (c.in-Ok.ensures {u = tt}).accepted;
  curves_are = rw c.deref.ensures.value at (c.in-Ok.ensures {u = tt}).curves;
  sound = (c.in-Ok.ensures {u = tt}).sound;
}

pub returns-in-Err-Fault-clause-error : goal.returns-in-Err-Fault-clause-error
returns-in-Err-Fault-clause-error g c = (
  c.name.ensures,
  λ held told.
      let pictures : Pictures = pictures_of c.in_ok-pictures.pictures in
      let fault : HasCurveFault c.deref.result.now (timing_of (client_params_of c.args.viewer) pictures)
      c.in-Err-Fault.fault =
      subst (IsRefused c.deref.result.now (timing_of (client_params_of c.args.viewer) pictures))
      c.in-Err-Fault.field-0-is ((c.in-Err-Fault.ensures {u = tt}).refused) in
      inr (
        pictures,
        (
          (c.in_ok-pictures.ensures {u = tt}).pictures held told,
          subst (λ (l : List ℕ). HasCurveFault l (timing_of (client_params_of c.args.viewer) pictures)
              c.in-Err-Fault.fault)
              c.deref.ensures.value fault,
        ),
      ),
)
