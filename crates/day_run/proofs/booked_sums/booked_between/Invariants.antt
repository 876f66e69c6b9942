use Rattle.std.proofs.Common.{◌≡◌, ◌≤◌, ◌*◌, ◌-◌, ◌+◌, map, max}
use Rattle.std.specs.Prelude.{sum_by}
use Rattle.std.specs.List.{fold, range_with_len}
use Rattle.admission.specs.Histories.{state_after}
use Rattle.admission.specs.Machine.{booked_in}
use Rattle.vod_base.specs.declared.limits.TheConstants.{MAX_BYTES}
use Rattle.day_run.proofs.booked_sums.booked_between.Given as goal

abbrev pub invariant-loop-slot : goal.invariant-loop-slot
invariant-loop-slot l = record {
  few : l.booked ≤ (l.slot - (l.from + 1)) * MAX_BYTES;
  late : l.slot ≤ max (l.from + 1) l.slot-end;
  sum : l.booked
      ≡ sum_by (booked_in (state_after l.fn.book.entries)) (range_with_len (l.from + 1) (l.slot - (l.from + 1)));
  peak : l.peak ≡ fold max 0 (map (booked_in (state_after l.fn.book.entries))
      (range_with_len (l.from + 1) (l.slot - (l.from + 1))));
}
