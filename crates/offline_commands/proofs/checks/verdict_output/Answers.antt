use Rattle.std.proofs.Common.{◌≡◌, None, Ok, codes, inl, inr}
use Rattle.inputs.proofs.ScanLemmas.{ok_map}
use Rattle.offline_commands.specs.VerdictText.{refused_line}
use Rattle.offline_commands.proofs.CommandOutputLemmas.{on_ok_of, text_of}
use Rattle.offline_commands.proofs.checks.verdict_output.Goals as goal

pub returns-in-Ok-clause-done : goal.returns-in-Ok-clause-done
returns-in-Ok-clause-done c =
    ok_map (λ done. (done.status ≡ 0) × (c.from_slice.result ≡ Ok done.text) × (done.plan ≡ None)) _
    c.output_with_text.result
    (λ done is.
    let text = text_of (codes "least\n") c.from_slice.result done.text c.from_slice.ensures.items is.1 in
    (inl (is.0, text), is.2, inl (is.0, (c.in-Ok.ensures {u = tt}).best, text)))
    c.output_with_text.ensures.done

pub returns-in-Err-clause-done : goal.returns-in-Err-clause-done
returns-in-Err-clause-done c =
    ok_map (λ done. (done.status ≡ 1) × (c.refusal_text.result ≡ Ok done.text) × (done.plan ≡ None)) _
    c.output_with_text-in-Err.result
    (λ done is.
    let text =
    text_of (refused_line c.in-Err.fault) c.refusal_text.result done.text c.refusal_text.ensures.text is.1 in
    let short = on_ok_of c.refusal_text.result done.text c.refusal_text.ensures.short is.1 in (
      inr (c.in-Err.fault, (is.0, short, text)),
      is.2,
      inr (c.in-Err.fault, (is.0, (c.in-Err.ensures {u = tt}).verdict, text)),
    ))
    c.output_with_text-in-Err.ensures.done
