use Rattle.std.proofs.Common.{arith}
use Rattle.offline_commands.proofs.ScanTextLemmas.{line-before, short-before}
use Rattle.offline_commands.proofs.scan_text.write_lines.Goals as goal

pub loop-left-preserved : goal.loop-left-preserved
loop-left-preserved c = record {
  within = omega (arith, c.loop-left.invariant.within);
  room = omega (arith, c.loop-left.invariant.room, c.write_unit-start.ensures.short, c.loop-left-test.true);
  before = omega (arith, c.write_unit-start.ensures.before, c.loop-left.invariant.before, c.write_unit-start.auto.line);
  written = line-before c.args.first c.args.units.now c.loop-left.left _ c.loop-left-test.true
      c.loop-left.invariant.within
      c.write_unit-start.ensures.written c.loop-left.invariant.written;
  short = short-before c.args.units.now c.loop-left.left _ c.loop-left-test.true c.loop-left.invariant.within
      c.write_unit-start.ensures.unit c.loop-left.invariant.short;
}
