-- What is noted in a link's history.
use Rattle.std.specs.Prelude.{List, [], ◌∷◌}
use Rattle.vod_base.specs.Links.{IoEvent, io_event_of, sends}
use Rattle.socket_link.specs.declared.histories.Note.{Note}
use Rattle.socket_link.specs.declared.histories.Note.TheVariants.{Came, Sent}

-- a note as what the link did
abbrev pub doings_noted : Note → List IoEvent
doings_noted (Came heard into) = io_event_of heard into.now ∷ []
doings_noted (Sent bytes) = sends bytes.now
