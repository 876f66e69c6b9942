use Rattle.std.proofs.Common.{ℕ, List, ◌+◌, ◌++◌, ap, ◌∙◌}
use Rattle.film_make.specs.Generator.{words_left}
use Rattle.film_make.specs.Film.{body_of}
use Rattle.std.proofs.lemmas.Result.{on_ok_weaker}
use Rattle.film_make.proofs.FilmLemmas.{body_length-drawn, slice-step, after_slice-step}
use Rattle.film_make.proofs.pictures.write_slice.Goals as goal

pub returns-clause-bytes : goal.returns-clause-bytes
returns-clause-bytes c =
    let length = body_length-drawn _ _ c.least_body.ensures.value c.body_lengths.ensures.value c.draw.ensures.value in
    on_ok_weaker c.write_body.result
    (λ e. slice-step _ _ (record { length = length; rest = c.draw.ensures.left })
    (e ∙ ap (λ (l : List ℕ). l
    ++ body_of (words_left c.draw.new.self) (c.least_body.result + c.draw.result))
    c.in_ok-extend_from_slice.ensures.items)) c.write_body.ensures.bytes

pub returns-clause-left : goal.returns-clause-left
returns-clause-left c =
    let length = body_length-drawn _ _ c.least_body.ensures.value c.body_lengths.ensures.value c.draw.ensures.value in
    on_ok_weaker c.write_body.result
    (λ e. after_slice-step (record { length = length; rest = c.draw.ensures.left }) e) c.write_body.ensures.left
