use Rattle.std.proofs.Common.{◌≡◌, ◌≤◌, ◌∙◌, ℕ, true, List, Vec, Global, inl, inr, refl, sym, ap, subst, length, arith}
use Rattle.day_run.specs.Days.{IsDay, link_of}
use Rattle.day_script.specs.Scripts.{AreLines}
use Rattle.day_script.specs.declared.scripts.Script.{Script}
use Rattle.admission.specs.Histories.{IsLegal}
use Rattle.admission.specs.declared.entries.Entry.{Entry}
use Rattle.std.specs.List.{Contains}
use Rattle.vod_base.specs.IoState.{File}
use Rattle.vod_base.specs.Names.{good_name}
use Rattle.cli_errors.specs.ReadErrors.{IsReadError}
use Rattle.cli_errors.specs.declared.errors.CliError.{CliError}
use Rattle.cli_errors.proofs.ReadErrorLemmas.{causes_of, good_input, trouble_map}
use Rattle.inputs.specs.FileReads.{IsThatName}
use Rattle.inputs.proofs.ScanLemmas.{read_trouble_map}
use Rattle.offline_commands.specs.Days.{IsDayInput, IsDayRefused, IsFirstNamedRefused, IsScriptOf, IsScriptRefused}
use Rattle.offline_commands.specs.Days.{names_in}
use Rattle.offline_commands.proofs.DayLemmas.{named_good, script_held}
use Rattle.vodserve.specs.IoStates.{IoState, io_state_of}
use Rattle.vodserve.proofs.days.day.Goals as goal

pub end_with-requires : goal.end_with-requires
end_with-requires g c =
    good_input (causes_of (IsThatName c.args.run.now.script.now) IsScriptRefused
    (g.L.Library.files c.args.library.now) (g.L.Library.faults c.args.library.now)
    (g.L.Library.faults c.load_script.new.library)) c.in-Err.error
    (λ name is. subst (λ (n : List ℕ). good_name n ≡ true) (sym is) c.requires.named)
    ((c.in-Err.ensures {u = tt}).error)

pub end_with-requires-in-Err-load_sources : goal.end_with-requires-in-Err-load_sources
end_with-requires-in-Err-load_sources g c =
    good_input (causes_of (Contains (names_in c.deref.result.now)) (IsFirstNamedRefused c.deref.result.now)
    (g.L.Library.files c.load_script.new.library) (g.L.Library.faults c.load_script.new.library)
    (g.L.Library.faults c.load_sources.new.library)) c.in-Err-load_sources.error
    (λ name inside. named_good c.in-Ok.script.named.items ((c.in-Ok.ensures {u = tt}).names)
    (rw c.deref.ensures.value at inside))
    ((c.in-Err-load_sources.ensures {u = tt}).error)

pub returns-in-Err-clause-runs : goal.returns-in-Err-clause-runs
returns-in-Err-clause-runs g c =
    inl (
      c.in-Err.error,
      (
        read_trouble_map _ _ c.in-Err.error (λ name is. inl is)
            (λ held name fault told is refused. inl (is, refused))
            ((c.in-Err.ensures {u = tt}).error),
        refl,
        c.end_with.ensures.nothing,
        c.end_with.ensures.fails,
      ),
    )

-- a script that was read from a library
record ReadScript : Type 0 where
  store : IoState (List File)
  store' : IoState (List File)
  name : List ℕ
  script : Script
  is : IsScriptOf store.told name script
  kept : store'.told ≡ store.told
  count : store.faults ≤ store'.faults

-- what prevents the films and traces from being loaded that a script names, prevents its day
day_error : (read : ReadScript) (after : ℕ) (error : CliError) →
    IsReadError (Contains (names_in read.script.named.items)) (IsFirstNamedRefused read.script.named.items)
    read.store'.told read.store'.faults after error →
    IsReadError (IsDayInput read.store.told read.name) (IsDayRefused read.name) read.store.told read.store.faults after
    error
day_error read after error =
    trouble_map (causes_of (Contains (names_in script.named.items)) (IsFirstNamedRefused script.named.items)
    store'.told store'.faults after)
    (causes_of (IsDayInput store.told name) (IsDayRefused name) store.told store.faults after)
    error
    (record {
      reads = λ name inside. inr (record { read = script; is = read.is; names = inside });
      refuses = λ held name fault told is refused. inr (script, (script_held held read.is told, refused));
      keeps = λ held told. read.kept ∙ told;
      low = read.count;
      high = omega arith;
    })
  where
    open read use {store, store', name, script}

pub returns-in-Err-load_sources-clause-runs : goal.returns-in-Err-load_sources-clause-runs
returns-in-Err-load_sources-clause-runs g c =
    let read : ReadScript = record {
      store = io_state_of g.L.Library.faults g.L.Library.files c.args.library.now;
      store' = io_state_of g.L.Library.faults g.L.Library.files c.load_script.new.library;
      name = c.args.run.now.script.now;
      script = c.in-Ok.script;
      is = (c.in-Ok.ensures {u = tt}).read;
      kept = c.load_script.ensures.library.kept;
      count = c.load_script.ensures.library.count;
    } in
    inl (
      c.in-Err-load_sources.error,
      (
        day_error read _ c.in-Err-load_sources.error
            (rw c.deref.ensures.value at (c.in-Err-load_sources.ensures {u = tt}).error),
        refl,
        c.end_with-in-Err-load_sources.ensures.nothing,
        c.end_with-in-Err-load_sources.ensures.fails,
      ),
    )

pub returns-in-Ok-run_day-clause-runs : goal.returns-in-Ok-run_day-clause-runs
returns-in-Ok-run_day-clause-runs g c = inr (record {
  script = c.in-Ok.script;
  sources = c.in-Ok-load_sources.sources.items;
  read = (c.in-Ok.ensures {u = tt}).read;
  loaded = λ held told.
      rw c.deref.ensures.value at
      ((c.in-Ok-load_sources.ensures {u = tt}).held held (c.load_script.ensures.library.kept ∙ told));
  clients = (c.in-Ok.ensures {u = tt}).clients;
  lines = subst (λ (n : ℕ). AreLines n c.in-Ok.script.lines.items)
      (sym ((c.in-Ok-load_sources.ensures {u = tt}).count ∙ ap length c.deref.ensures.value))
      ((c.in-Ok.ensures {u = tt}).lines);
  link = rw c.deref-2.ensures.value at (c.in-Ok-run_day.ensures {u = tt}).link;
  ran = record {
    legal = subst (λ (v : Vec Entry Global). IsLegal c.args.run.now.capacity v.items)
        (sym c.end_day.ensures.journal) ((c.in-Ok-run_day.ensures {u = tt}).legal);
    no_reports = c.end_day.ensures.reports;
    text = c.in-Ok-run_day.day.text.items;
    day = subst (λ (v : Vec Entry Global). IsDay
        (link_of c.args.run.now.capacity c.args.run.now.journal c.args.run.now.slot c.in-Ok-load_sources.sources.items)
        c.in-Ok.script.lines.items c.in-Ok-run_day.day.text.items v.items) (sym c.end_day.ensures.journal)
        (rw c.deref-2.ensures.value at (c.in-Ok-run_day.ensures {u = tt}).day);
    written = c.end_day.ensures.written;
  };
})
