use Rattle.std.proofs.Common.{arith, ◌≡◌, ◌+◌, ◌%◌, IfOk, ap, subst, ◌∙◌}
use Rattle.film_make.specs.Generator.{words_left}
use Rattle.film_make.proofs.GeneratorLemmas.{words_after-twice}
use Rattle.day_run.specs.ClientStates.{Rest}
use Rattle.day_run.specs.Days.{IsPlayLine, rest_at}
use Rattle.day_run.specs.declared.fairs.TheConstants.{BUFFER_SIZES, LEAST_BUFFER}
use Rattle.day_run.specs.MachineState.{link_on, day_state_of, reply_text}
use Rattle.day_run.proofs.FairLines.{ok-of, second-word, third-word, two-left}
use Rattle.day_run.proofs.fairs.play_drawn.Goals as goal

pub returns-clause-line : goal.returns-clause-line
returns-clause-line c =
    let w = words_left c.args.draws.now in
    let one = c.draw-source.ensures.left in
    let two = c.draw.ensures.left in
    let old = c.args.machine.now in
    let new = c.play.new.self in
    let source = c.draw-source.ensures.value in
    let buffer = c.from-buffer.ensures ∙ c.draw.ensures.value ∙ ap (λ n. n % BUFFER_SIZES) (second-word w _ one) in
    let delay = c.from-delay.ensures ∙ c.draw-2.ensures.value ∙ ap (λ n. n % 26) (third-word w _ _ one two) in
    let same : rest_at (link_on old) c.draw-source.result (LEAST_BUFFER + c.from-buffer.result) c.from-delay.result
    ≡ rest_at (link_on old) (w 0 % 16) (LEAST_BUFFER + w 1 % BUFFER_SIZES) (w 2 % 26) = cc (source, buffer, delay) in
    subst (λ (rest : Rest). IfOk c.play.result (λ told. IsPlayLine (link_on old) c.args.client rest (day_state_of old)
    (day_state_of new) (reply_text new.book.entries told))) same c.play.ensures.line

pub returns-clause-left : goal.returns-clause-left
returns-clause-left c = grind (arith, ok-of, two-left, words_after-twice)
