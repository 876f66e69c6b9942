use Rattle.cli_errors.proofs.error_causes.write_curve_fault.Goals as goal

pub returns-in-TooManySlots : goal.returns-in-TooManySlots
returns-in-TooManySlots g c = rw c.in-TooManySlots.is c.write_cause-in-TooManySlots.ensures

pub returns-in-BufferTooSmall : goal.returns-in-BufferTooSmall
returns-in-BufferTooSmall g c = rw c.in-BufferTooSmall.is c.write_cause-in-BufferTooSmall.ensures
