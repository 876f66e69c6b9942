use Rattle.film_frames.proofs.PayloadLemmas.{FirstAndLast, comes-back}
use Rattle.film_frames.proofs.laws.law_payloads_are_film_bytes.Goals as goal

pub returns : goal.returns
returns c = λ film first_unit end_unit identity order within first first_at last last_at.
    let units : FirstAndLast film first_unit end_unit first last =
    record { order = order; first_at = first_at; last_at = last_at } in
    comes-back identity units
