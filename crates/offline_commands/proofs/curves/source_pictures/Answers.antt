use Rattle.std.proofs.Common.{subst, sym}
use Rattle.std.specs.Prelude.{IfOk}
use Rattle.cli_args.specs.InvocationViews.{source_read}
use Rattle.cli_args.specs.declared.invocations.PlanSource.{PlanSource as SourceRead}
use Rattle.offline_commands.specs.Pictures.{pictures_of}
use Rattle.offline_commands.specs.Plans.{ArePictures}
use Rattle.offline_commands.proofs.curves.source_pictures.Goals as goal

pub returns-in-Trace-clause-pictures : goal.returns-in-Trace-clause-pictures
returns-in-Trace-clause-pictures g c = λ held told.
    subst (λ (s : SourceRead). IfOk c.trace_pictures.result
    (λ p. ArePictures held (source_read s) (pictures_of p))) (sym c.in-Trace.is)
    (c.trace_pictures.ensures.pictures held told)

pub returns-in-Film-clause-pictures : goal.returns-in-Film-clause-pictures
returns-in-Film-clause-pictures g c = λ held told.
    subst (λ (s : SourceRead). IfOk c.film_pictures.result
    (λ p. ArePictures held (source_read s) (pictures_of p))) (sym c.in-Film.is)
    (c.film_pictures.ensures.pictures held told)
