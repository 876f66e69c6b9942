-- What was printed of what was done.
use Rattle.std.proofs.Common.{◌≡◌, ◌∙◌, ◌≤◌, ℕ, ap, List, Option, Some, None, Result, Ok, Err, Vec, Global, inl, inr}
use Rattle.std.proofs.Common.{refl, sym, subst}
use Rattle.std.specs.Prelude.{IfOk, IfErr}
use Rattle.cli_args.specs.InvocationViews.{invocation_view}
use Rattle.cli_args.specs.declared.invocations.Invocation.{Invocation as OrderRead}
use Rattle.cli_args.specs.Invocations.{Invocation, scan_of}
use Rattle.plan_cert.specs.declared.Segment.{Segment}
use Rattle.cli_errors.specs.ReadErrors.{IsLibraryUnchanged, IsReadError}
use Rattle.cli_errors.specs.declared.errors.CliError.{CliError}
use Rattle.cli_errors.specs.declared.errors.CliError.TheVariants.{Usage, Refused, StoreFault, SinkFault, NoMemory}
use Rattle.cli_errors.specs.declared.errors.CliError.TheVariants.{GateFault, LinkFault}
use Rattle.vod_base.specs.IoState.{File}
use Rattle.offline_commands.specs.OfflineCommands.{IsOutputOf, IsInputRefused, IsRead, IsListedOrFailed}
use Rattle.offline_commands.proofs.CommandOutputLemmas.{text_of}
use Rattle.vodserve.specs.Run.{CommandSpec, HasServedNothing, IsPrintedOrFailed, IsCause, IsReadInputError, EndResult}
use Rattle.vodserve.specs.Run.{IsWritten, PrintResult, PrintSpec, RunSpec}
use Rattle.vodserve.specs.IoStates.{IoState, World, streams_of}
use Rattle.offline_commands.specs.declared.command_output.CommandOutput.{CommandOutput}
use Rattle.vodserve.specs.declared.run_results.Ended.{Ended}

-- the world before something and after it
pub record WorldChange : Type 0 where
  pub before : World
  pub after : World

written : {order : Invocation} {ended : Ended} (w : WorldChange) (done : CommandOutput) →
    IsOutputOf w.before.store.told order done.status done.text.items done.plan →
    IsWritten (streams_of w.before w.after) done.text.items done.status done.plan ended →
    IsPrintedOrFailed w.before w.after order ended
written {order} {ended} w done is (inl whole) = inl (record {
  text = done.text.items;
  done = subst (λ (status : ℕ). IsOutputOf w.before.store.told order status done.text.items ended.plan) (sym whole.0)
      (subst (λ (plan : Option (List Segment)). IsOutputOf w.before.store.told order done.status done.text.items plan)
      (sym whole.1) is);
  wrote = whole.2;
  quiet = whole.3;
})
written {ended} w done is (inr cut) = inr (
  SinkFault,
  (
    record { status = done.status; text = done.text.items; plan = done.plan; done = is; risen = cut.0; front = cut.1 },
    cut.2,
  ),
)

caused : (before after : World) (order : Invocation) (error : CliError) → after.out ≡ before.out →
    IsReadInputError order before.store after.store error → IsCause before after order error
caused before after order Usage same cause = absurd cause
caused before after order (Refused name fault) same cause = (cause, same)
caused before after order (StoreFault name) same cause = (cause, same)
caused before after order SinkFault same cause = absurd cause
caused before after order NoMemory same cause = same
caused before after order GateFault same cause = absurd cause
caused before after order LinkFault same cause = absurd cause

-- a command's result: what it did, or the error that it met
record OrderResult (before after : World) (order : Invocation) (result : Result CommandOutput CliError) : Type 0 where
  ok : IfOk result (λ done. IsOutputOf before.store.told order done.status done.text.items done.plan)
  err : IfErr result (IsReadInputError order before.store after.store)

carried_out : {w : WorldChange} {order : Invocation} (result : Result CommandOutput CliError) (ended : Ended) →
    OrderResult w.before w.after order result → PrintResult (streams_of w.before w.after) result ended →
    IsPrintedOrFailed w.before w.after order ended
carried_out {w} (Ok done) ended given is = written w done given.ok is
carried_out {w} {order} (Err error) ended given is =
    inr (error, (caused w.before w.after order error is.0 given.err, is.1))

-- a command was carried out, and its text printed
pub printed : {before after : World} {order : Invocation} {ended : Ended} (result : Result CommandOutput CliError) →
    after.gate ≡ before.gate → HasServedNothing ended →
    IfOk result (λ done. IsOutputOf before.store.told order done.status done.text.items done.plan) →
    IfErr result (IsReadInputError order before.store after.store) →
    PrintResult (streams_of before after) result ended → PrintSpec before after order ended
printed {before} {after} {order} {ended} result gate nothing ok err is =
    record { gate = gate; nothing = nothing; out = carried_out result ended (record { ok = ok; err = err }) is }

-- a stream that counted no fault and exposed no more
same_stream : (one other : IoState (List ℕ)) → one.faults ≡ other.faults → one.told ≡ other.told → one ≡ other
same_stream one other faults told =
    ap (λ (n : ℕ). record { faults = n; told = one.told }) faults
    ∙ ap (λ (t : Option (List ℕ)). record { faults = other.faults; told = t }) told

listed_out : {before after : World} {film : List ℕ} {ended : Ended} (result : Result (Unit {0}) CliError) →
    IsListedOrFailed film before.store.told before.store.faults after.store.faults before.out.faults
    after.out.faults before.out.told after.out.told result →
    EndResult before.err after.err result ended → IsPrintedOrFailed before after (scan_of film) ended
listed_out {before} {film = film} {ended = ended} (Ok done) listed is = inl (record {
  text = listed.text;
  done = subst (λ (status : ℕ). IsOutputOf before.store.told (scan_of film) status listed.text ended.plan) (sym is.0)
      (subst (λ (plan : Option (List Segment)). IsOutputOf before.store.told (scan_of film) 0 listed.text plan)
      (sym is.1) listed.done);
  wrote = listed.written.all refl;
  quiet = is.2;
})
listed_out (Err SinkFault) listed is = inr (
  SinkFault,
  (
    record {
      status = 0;
      text = listed.text;
      plan = None;
      done = listed.done;
      risen = listed.written.risen refl;
      front = listed.written.front refl;
    },
    is,
  ),
)
listed_out (Err Usage) listed is = absurd listed.0
listed_out {before} {after} (Err (Refused name fault)) listed is =
    inr (Refused name fault, ((listed.0, same_stream after.out before.out listed.1 listed.2), is))
listed_out {before} {after} (Err (StoreFault name)) listed is =
    inr (StoreFault name, ((listed.0, same_stream after.out before.out listed.1 listed.2), is))
listed_out {before} {after} (Err NoMemory) listed is =
    inr (NoMemory, (same_stream after.out before.out listed.1 listed.2, is))
listed_out (Err GateFault) listed is = absurd listed.0
listed_out (Err LinkFault) listed is = absurd listed.0

-- a scan was written as it was made
pub scan_written : {before after : World} {film : List ℕ} {ended : Ended} (result : Result (Unit {0}) CliError) →
    after.gate ≡ before.gate → HasServedNothing ended →
    IsListedOrFailed film before.store.told before.store.faults after.store.faults before.out.faults
    after.out.faults before.out.told after.out.told result →
    EndResult before.err after.err result ended → PrintSpec before after (scan_of film) ended
scan_written result gate nothing text is = record { gate = gate; nothing = nothing; out = listed_out result text is }

-- what the words ask for was done
pub ran_as : {before after : World} {seed : List ℕ} {asked : Option Invocation} {ended : Ended} {read order : OrderRead}
    → Some (invocation_view read) ≡ asked → read ≡ order
    → IsLibraryUnchanged before.store.told after.store.told before.store.faults after.store.faults
    → before.out.faults ≤ after.out.faults → before.gate.faults ≤ after.gate.faults
    → CommandSpec before after seed (invocation_view order) ended → RunSpec before after seed asked ended
ran_as {order = order} is same library output gate does = record {
  library = library;
  output = output;
  gate = gate;
  does = inl (invocation_view order, (sym is ∙ ap (λ (o : OrderRead). Some (invocation_view o)) same, does));
}

-- a text that was made is the text of what was done
pub text_done : {E : Type 0} (text : List ℕ) (made : Result (Vec ℕ Global) E) → IfOk made (λ own. own.items ≡ text)
    → (result : Result CommandOutput CliError)
    → IfOk result (λ done. (done.status ≡ 0) × (made ≡ Ok done.text) × (done.plan ≡ None))
    → IfOk result (λ done. (done.status ≡ 0) × (done.plan ≡ None) × (done.text.items ≡ text))
text_done text made own (Err error) is = tt
text_done text made own (Ok done) is = (is.0, is.2, text_of text made done.text own is.1)

-- out of memory stops each command
pub no_memory : (told : Option (List File)) (faults faults' : ℕ) (order : Invocation)
    (result : Result CommandOutput CliError) → IfErr result (λ error. error ≡ NoMemory) →
    IfErr result (IsReadError (IsRead order) (IsInputRefused order) told faults faults')
no_memory told faults faults' order (Ok done) is = tt
no_memory told faults faults' order (Err error) is =
    subst (IsReadError (IsRead order) (IsInputRefused order) told faults faults') (sym is) tt
