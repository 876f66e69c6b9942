use Rattle.std.proofs.Common.{◌≡◌, ℕ, true, List, inl, inr, refl, sym, subst, arith}
use Rattle.vod_base.specs.Names.{good_name}
use Rattle.cli_args.specs.InvocationViews.{client_params_of}
use Rattle.cli_args.specs.Ranges.{IsInvocationInRange}
use Rattle.cli_args.specs.Invocations.{check_of, help, make_of, plan_of, version}
use Rattle.vodserve.proofs.ErrorNameLemmas.{causes_of, good_result, nameless, viewer_named, good_listing}
use Rattle.vodserve.proofs.PrintLemmas.{no_memory, printed, ran_as, text_done, scan_written}
use Rattle.vodserve.proofs.run.run.Goals as goal

pub print-requires-in-Plan : goal.print-requires-in-Plan
print-requires-in-Plan g c =
    good_result (causes_of _ _ _ (plan_of (client_params_of c.in-Plan.viewer))) c.plan_source-done.result
    (λ name is. subst (λ (n : List ℕ). good_name n ≡ true) (sym is)
    (viewer_named (client_params_of c.in-Plan.viewer)
    (subst IsInvocationInRange c.in-Plan.is ((c.in-Some.ensures {u = tt}).range))))
    c.plan_source-done.ensures.error

pub print-requires-in-Check : goal.print-requires-in-Check
print-requires-in-Check g c =
    good_result (causes_of _ _ _ (check_of (client_params_of c.in-Check.viewer) c.in-Check.cert.now))
    c.check_plan-done.result
    (λ name is. elim is [
      | inl source ↦ subst (λ (n : List ℕ). good_name n ≡ true) (sym source)
          (viewer_named (client_params_of c.in-Check.viewer)
          ((subst IsInvocationInRange c.in-Check.is ((c.in-Some.ensures {u = tt}).range)).0))
      | inr cert ↦ subst (λ (n : List ℕ). good_name n ≡ true) (sym cert)
          ((subst IsInvocationInRange c.in-Check.is ((c.in-Some.ensures {u = tt}).range)).1)
    ])
    c.check_plan-done.ensures.error

pub end_written-requires : goal.end_written-requires
end_written-requires g c =
    good_listing _ _ _ _ _ _ _ _ c.write_units-done.result
    (subst IsInvocationInRange c.in-Scan.is ((c.in-Some.ensures {u = tt}).range))
    c.write_units-done.ensures.listed

pub print-requires-in-Make : goal.print-requires-in-Make
print-requires-in-Make g c = nameless c.output_with_text-in-Make.result c.output_with_text-in-Make.ensures.error

pub print-requires : goal.print-requires
print-requires g c = nameless c.output_with_text.result c.output_with_text.ensures.error

pub print-requires-in-Version : goal.print-requires-in-Version
print-requires-in-Version g c = nameless c.output_with_text-in-Version.result
    c.output_with_text-in-Version.ensures.error

pub returns-in-Plan : goal.returns-in-Plan
returns-in-Plan g c = record {
  ran = ran_as ((c.in-Some.ensures {u = tt}).order) c.in-Plan.is c.plan_source-done.ensures.library
      c.print-in-Plan.ensures.count
      (omega arith) (printed c.plan_source-done.result refl c.print-in-Plan.ensures.nothing
      c.plan_source-done.ensures.done c.plan_source-done.ensures.error c.print-in-Plan.ensures.printed);
}

pub returns-in-Check : goal.returns-in-Check
returns-in-Check g c = record {
  ran = ran_as ((c.in-Some.ensures {u = tt}).order) c.in-Check.is c.check_plan-done.ensures.library
      c.print-in-Check.ensures.count
      (omega arith) (printed c.check_plan-done.result refl
      c.print-in-Check.ensures.nothing c.check_plan-done.ensures.done c.check_plan-done.ensures.error
      c.print-in-Check.ensures.printed);
}

pub returns-in-Make : goal.returns-in-Make
returns-in-Make g c = record {
  ran = ran_as ((c.in-Some.ensures {u = tt}).order) c.in-Make.is (record { kept = refl; count = omega arith })
      c.print-in-Make.ensures.count (omega arith) (
        refl,
        printed c.output_with_text-in-Make.result refl
            c.print-in-Make.ensures.nothing
            (text_done _
            c.make.result c.make.ensures c.output_with_text-in-Make.result c.output_with_text-in-Make.ensures.done)
            (no_memory _ _ _ (make_of c.in-Make.kind c.in-Make.seed c.in-Make.pictures)
            c.output_with_text-in-Make.result c.output_with_text-in-Make.ensures.error)
            c.print-in-Make.ensures.printed,
      );
}

pub returns-in-Scan : goal.returns-in-Scan
returns-in-Scan g c = record {
  ran = ran_as ((c.in-Some.ensures {u = tt}).order) c.in-Scan.is c.write_units-done.ensures.library
      c.write_units-done.ensures.count
      (omega arith) (scan_written c.write_units-done.result refl c.end_written.ensures.nothing
      c.write_units-done.ensures.listed c.end_written.ensures.ended);
}

pub returns-in-Help : goal.returns-in-Help
returns-in-Help g c = record {
  ran = ran_as ((c.in-Some.ensures {u = tt}).order) c.in-Help.is (record { kept = refl; count = omega arith })
      c.print.ensures.count (omega arith) (
        refl,
        printed c.output_with_text.result refl c.print.ensures.nothing
            (text_done _ c.help.result c.help.ensures c.output_with_text.result c.output_with_text.ensures.done)
            (no_memory _ _ _ help c.output_with_text.result c.output_with_text.ensures.error) c.print.ensures.printed,
      );
}

pub returns-in-Version : goal.returns-in-Version
returns-in-Version g c = record {
  ran = ran_as ((c.in-Some.ensures {u = tt}).order) c.in-Version.is (record { kept = refl; count = omega arith })
      c.print-in-Version.ensures.count (omega arith) (
        refl,
        printed c.output_with_text-in-Version.result refl c.print-in-Version.ensures.nothing
            (text_done _ c.version.result c.version.ensures c.output_with_text-in-Version.result
            c.output_with_text-in-Version.ensures.done)
            (no_memory _ _ _ version c.output_with_text-in-Version.result c.output_with_text-in-Version.ensures.error)
            c.print-in-Version.ensures.printed,
      );
}

pub returns-in-Day : goal.returns-in-Day
returns-in-Day g c = record {
  ran = ran_as ((c.in-Some.ensures {u = tt}).order) c.in-Day.is c.day.ensures.library c.day.ensures.count
      (omega arith) (refl, c.day.ensures.runs);
}

pub returns-in-Fair : goal.returns-in-Fair
returns-in-Fair g c = record {
  ran = ran_as ((c.in-Some.ensures {u = tt}).order) c.in-Fair.is (record { kept = refl; count = omega arith })
      c.fair.ensures.count
      (omega arith) (refl, refl, c.fair.ensures.runs);
}

pub returns-in-Watch : goal.returns-in-Watch
returns-in-Watch g c = record {
  ran = ran_as ((c.in-Some.ensures {u = tt}).order) c.in-Watch.is (record { kept = refl; count = omega arith })
      c.watch_film.ensures.output c.watch_film.ensures.gate (refl, c.watch_film.ensures.watches);
}
