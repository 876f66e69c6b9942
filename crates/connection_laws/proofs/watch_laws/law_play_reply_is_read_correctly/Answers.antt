use Rattle.connection_laws.proofs.PlayReplyReading.{play_read}
use Rattle.connection_laws.proofs.watch_laws.law_play_reply_is_read_correctly.Goals as goal

pub returns : goal.returns
returns c = λ message id authority name sequence end_ms number time slots size is plain small short some few.
    play_read (record { authority = authority; name = name; number = number; time = time })
    (record {
      id = id;
      sequence = sequence;
      end_ms = end_ms;
      slots = slots;
      small = small;
      short = short;
      some = some;
      few = few;
    }) size is plain
