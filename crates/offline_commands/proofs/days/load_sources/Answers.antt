use Rattle.std.proofs.Common.{rules, ◌∙◌, arith}
use Rattle.std.specs.List.{Contains}
use Rattle.cli_errors.proofs.ReadErrorLemmas.{causes_of, trouble_map}
use Rattle.offline_commands.specs.Days.{IsFirstNamedRefused, IsNameOf, IsNamedRefused, names_in}
use Rattle.inputs.proofs.ScanLemmas.{handed_on}
use Rattle.offline_commands.proofs.DayLemmas.{first_named_refused, held_push, held_whole, named_contains, sources_push}
use Rattle.offline_commands.proofs.days.load_sources.Goals as goal

pub returns-in_err-source-clause-error : goal.returns-in_err-source-clause-error
returns-in_err-source-clause-error g c =
    handed_on _ c.from_residual.result c.from_residual.ensures.1
    (trouble_map (causes_of (IsNameOf c.one-item.result) (IsNamedRefused c.one-item.result)
    (g.L.Library.files c.loop-one.library) (g.L.Library.faults c.loop-one.library)
    (g.L.Library.faults c.load_source.new.library))
    (causes_of (Contains (names_in c.args.named.now)) (IsFirstNamedRefused c.args.named.now)
    (g.L.Library.files c.args.library.now) (g.L.Library.faults c.args.library.now)
    (g.L.Library.faults c.load_source.new.library))
    c.in_err-source.field-0.0
    (record {
      reads = λ name is. named_contains c.args.named.now c.loop-one.one-index c.loop-one-test.true c.one-item.is is;
      refuses = λ held name fault told is refused. first_named_refused
          c.loop-one-test.true c.one-item.is c.loop-one.invariant.count
          (c.loop-one.invariant.held held told) is refused;
      keeps = λ held told. c.loop-one.invariant.library.kept ∙ told;
      low = omega (arith, c.loop-one.invariant.library.count);
      high = omega arith;
    })
    ((c.in_err-source.ensures {u = tt}).error))

pub loop-one-preserved : goal.loop-one-preserved
loop-one-preserved g c = record {
  count = search rules;
  sources = sources_push c.loop-one.sources.items c.push.new.self.items c.in_ok-source.source (search rules)
      ((c.in_ok-source.ensures {u = tt}).source) c.loop-one.invariant.sources;
  held = λ held told.
      held_push c.in_ok-source.source (search rules) (record {
        long = c.loop-one.invariant.count;
        inside = c.loop-one-test.true;
        at = c.one-item.is;
      }) (c.loop-one.invariant.held held told)
      ((c.in_ok-source.ensures {u = tt}).held held (c.loop-one.invariant.library.kept ∙ told));
  library = search rules;
}

pub returns-clause-held : goal.returns-clause-held
returns-clause-held g c = λ held told.
    held_whole held c.args.named.now c.loop-one.sources.items
    (omega (arith, c.loop-one.invariant.count, c.loop-one-test.false, c.loop-one.auto.one-index-end))
    (c.loop-one.invariant.held held told)
