-- What the refusal of a play makes of the session that asked for it.
use Rattle.admission.specs.declared.entries.Answer.TheVariants.{Overflow}
use Rattle.station.specs.declared.answers.PlayRefused.{PlayRefused}
use Rattle.station.specs.declared.answers.PlayRefused.TheVariants.{JournalFull}
use Rattle.station.specs.declared.answers.PlayRefused.TheVariants.{Overflow as PlayOverflow}
use Rattle.session_records.specs.declared.notes.Receipt.{Receipt}
use Rattle.session_records.specs.declared.notes.Receipt.TheVariants.{Entry as EntryReceipt}
use Rattle.session_records.specs.declared.notes.Receipt.TheVariants.{Full as FullReceipt}
use Rattle.session.specs.RequestSteps.{after_full, after_overflow}
use Rattle.session.specs.SessionStates.{SessionState}

abbrev pub after_refusal : SessionState → PlayRefused → SessionState
after_refusal old (JournalFull plan entries live) = after_full old entries live
after_refusal old (PlayOverflow place slot booked asked) =
    after_overflow old place slot booked asked

abbrev pub refusal_receipt : PlayRefused → Receipt
refusal_receipt (JournalFull plan entries live) = FullReceipt entries live
refusal_receipt (PlayOverflow place slot booked asked) =
    EntryReceipt place (Overflow slot booked asked)
