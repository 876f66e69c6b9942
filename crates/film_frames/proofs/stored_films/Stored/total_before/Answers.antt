use Rattle.film_frames.proofs.stored_films.Stored.total_before.Goals as goal

pub returns-in-Bytes : goal.returns-in-Bytes
returns-in-Bytes c = rw c.in-Bytes.is c.place.ensures

pub returns-in-Frames : goal.returns-in-Frames
returns-in-Frames c = rw c.in-Frames.is c.frames.ensures
