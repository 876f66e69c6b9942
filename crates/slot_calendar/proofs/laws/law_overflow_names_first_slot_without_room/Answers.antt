use Rattle.slot_calendar.proofs.laws.law_overflow_names_first_slot_without_room.Goals as goal

pub returns : goal.returns
returns c = record {
  booked = λ from start booked capacity segments over is. is.booked_is;
  asked = λ from start booked capacity segments over is. is.asked_is;
  over = λ from start booked capacity segments over is. is.overflows;
  before = λ from start t booked capacity segments over is later earlier.
      is.least t later earlier;
}
