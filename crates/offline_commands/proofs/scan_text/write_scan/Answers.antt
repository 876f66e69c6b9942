use Rattle.std.proofs.Common.{ℕ, List, ◌++◌, ◌-◌, drop, take, sym, ap, ◌∙◌, arith, codes}
use Rattle.std.proofs.lemmas.List.{append-nil, length-drop, length-take-le}
use Rattle.std.proofs.lemmas.List.Elements.{All-nil}
use Rattle.cli_errors.proofs.StreamWriteLemmas.{said_as}
use Rattle.offline_commands.specs.ScanText.{unit_lines}
use Rattle.offline_commands.specs.TextLaws.{IsShortUnit}
use Rattle.offline_commands.proofs.ScanTextLemmas.{lines-end, lines-more, piece-from, short-more, written-by}
use Rattle.offline_commands.proofs.scan_text.write_scan.Goals as goal

pub loop-first-init : goal.loop-first-init
loop-first-init g c = record {
  long = c.requires.room;
  within = omega arith;
  written = said_as (sym (append-nil c.args.film.now))
      (written-by c.write_all.result c.is_ok-is_written.ensures.value c.write_all.ensures.count
      c.write_all.ensures.fault c.write_all.ensures.whole c.write_all.ensures.front);
  short = All-nil IsShortUnit;
}

pub write_lines-start-requires-clause-room : goal.write_lines-start-requires-clause-room
write_lines-start-requires-clause-room g c =
    omega (
      arith,
      c.min-last.ensures,
      c.loop-first.invariant.long,
      length-take-le (c.min-last.result - c.loop-first.first) (drop c.loop-first.first c.args.units.now)
          (omega (arith, length-drop c.loop-first.first c.args.units.now, c.min-last.ensures)),
    )

pub loop-first-preserved : goal.loop-first-preserved
loop-first-preserved g c = record {
  long = omega (arith, c.loop-first.invariant.long, c.write_lines-start.auto.piece);
  within = omega (arith, c.min-last.ensures);
  written = said_as
      (ap (λ (t : List ℕ). (c.args.film.now ++ unit_lines 0 (take c.loop-first.first c.args.units.now)) ++ t)
      (piece-from c.write_lines-start.new.piece c.write_lines-start.result ∙ c.write_lines-start.ensures.written)
      ∙ lines-more c.args.film.now c.args.units.now c.loop-first.first c.min-last.result
      (omega (arith, c.min-last.ensures, c.loop-first.invariant.within)) (omega (arith, c.min-last.ensures)))
      (c.write_after-is_written.ensures _ _ _ c.loop-first.invariant.written);
  short = short-more c.args.units.now c.loop-first.first c.min-last.result
      (omega (arith, c.min-last.ensures, c.loop-first.invariant.within)) c.loop-first.invariant.short
      c.write_lines-start.ensures.short;
}

pub returns-clause-written : goal.returns-clause-written
returns-clause-written g c =
    said_as (lines-end c.args.film.now c.args.units.now c.loop-first.first (codes "end\n")
    (omega (arith, c.loop-first-test.false))) (c.write_after.ensures _ _ _ c.loop-first.invariant.written)
