use Rattle.std.proofs.Common.{◌≡◌, ◌≤◌, ◌-◌, ◌++◌, ◌∷◌, ◌==◌, [], ℕ, List, cond, drop, take, length}
use Rattle.std.proofs.Common.{get_or, sym, subst, refl, ◌∙◌, ap, arith, append_assoc}
use Rattle.std.proofs.lemmas.List.{length-append, length-take-le}
use Rattle.sys_demux.specs.SystemStreams.{IsBadStream}
use Rattle.sys_demux.specs.ParserStates.{IsReached, Reading}
use Rattle.sys_demux.specs.declared.parser_states.ParserState.{ParserState}
use Rattle.sys_demux.specs.declared.parser_states.ParserState.TheVariants.{Zeros, Pass, Video}
use Rattle.sys_demux.specs.declared.unwrapper.Unwrapper.{Unwrapper}
use Rattle.sys_demux.proofs.ItemPartLemmas.{pass_leads, rest_more, video_leads}
use Rattle.sys_demux.proofs.FedBytesLemmas.{step, moved, failed_refused, failed_at, first_taken, part_of}
use Rattle.sys_demux.proofs.unwrapper.Unwrapper.feed.Goals as goal

-- an unwrapper's reading in this state
abbrev reading : Unwrapper → ParserState → List ℕ → List ℕ → Reading
reading u state seen video = record { state = state; place = u.item; now = u.chosen; seen = seen; video = video }

pub returns-in-Failed-clause-fault : goal.returns-in-Failed-clause-fault
returns-in-Failed-clause-fault c = λ seen video was more.
    let u = c.args.self.now in
    let refused =
    failed_refused (reading u u.place seen video) (c.args.chunk.now ++ more)
    (subst (λ s. IsReached (reading u s seen video)) c.in-Failed.is was.reached) in
    subst (λ (l : List ℕ). IsBadStream l c.in-Failed.fault) (sym (append_assoc seen c.args.chunk.now more)) refused

pub returns-in-Failed-place-clause-fault : goal.returns-in-Failed-place-clause-fault
returns-in-Failed-place-clause-fault c = λ seen video was more.
    let n = c.take.new.self in
    let chunk = c.args.chunk.now in
    let front = seen ++ get_or chunk 0 0 ∷ [] in
    let next = c.take.ensures.next seen video was in
    let refused = failed_refused (reading n n.place front video) (drop 1 chunk ++ more)
    (subst (λ s. IsReached (reading n s front video)) c.in-Failed-place.is next.reached) in
    subst (λ (l : List ℕ). IsBadStream l c.in-Failed-place.fault) (first_taken seen chunk more c.requires.some) refused

pub returns-in-Failed-place-clause-again : goal.returns-in-Failed-place-clause-again
returns-in-Failed-place-clause-again c =
    λ fault is. absurd (c.in_default.not-Failed fault (failed_at c.args.self.now.place fault is))

pub returns-in-Pass-clause-next : goal.returns-in-Pass-clause-next
returns-in-Pass-clause-next c = λ seen video was.
    let u = c.args.self.now in
    let n = c.skip.new.self in
    let chunk = c.args.chunk.now in
    let count = c.min-taken.result in
    let left = c.in-Pass.left in
    let taken = take count chunk in
    let few : count ≤ left = omega (arith, c.min-taken.ensures, c.from.ensures) in
    let size : length taken ≡ count = length-take-le count chunk (omega (arith, c.min-taken.ensures)) in
    let r = subst (λ s. IsReached (reading u s seen video)) c.in-Pass.is was.reached in
    let to = reading u (cond (left - length taken == 0) (Zeros 0) (Pass (left - length taken))) taken [] in
    let next = step r to
    (pass_leads (rest_more {p = part_of r} taken r.is_part (omega (arith, size, few)) (λ rest. refl))) in
    record {
      count = omega (arith, was.count, c.skip.ensures.fed, size, length-append seen taken);
      reached = moved {a = reading n n.place [] []} (record {
        state = c.skip.ensures.place ∙ c.pass.ensures
            ∙ ap (λ k. cond (left - k == 0) (Zeros 0) (Pass (left - k))) (sym size);
        place = c.skip.ensures.item;
        now = c.skip.ensures.chosen;
      }) next;
    }

pub returns-in-Video-clause-next : goal.returns-in-Video-clause-next
returns-in-Video-clause-next c = λ seen video was.
    let u = c.args.self.now in
    let n = c.skip-in-Video.new.self in
    let chunk = c.args.chunk.now in
    let count = c.min-taken-in-Video.result in
    let left = c.in-Video.left in
    let taken = take count chunk in
    let few : count ≤ left = omega (arith, c.min-taken-in-Video.ensures, c.from-in-Video.ensures) in
    let size : length taken ≡ count = length-take-le count chunk (omega (arith, c.min-taken-in-Video.ensures)) in
    let r = subst (λ s. IsReached (reading u s seen video)) c.in-Video.is was.reached in
    let to = reading u (cond (left - length taken == 0) (Zeros 0) (Video (left - length taken))) taken taken in
    let next = step r to
    (video_leads (rest_more {p = part_of r} taken r.is_part (omega (arith, size, few)) (λ rest. refl))) in
    record {
      count = omega (arith, was.count, c.skip-in-Video.ensures.fed, size, length-append seen taken);
      reached = moved {a = reading n n.place [] []} (record {
        state = c.skip-in-Video.ensures.place ∙ c.video.ensures
            ∙ ap (λ k. cond (left - k == 0) (Zeros 0) (Video (left - k))) (sym size);
        place = c.skip-in-Video.ensures.item;
        now = c.skip-in-Video.ensures.chosen;
      }) next;
    }

pub returns-in-Failed-clause-shown : goal.returns-in-Failed-clause-shown
returns-in-Failed-clause-shown c = λ seen video was.
    let u = c.args.self.now in
    (subst (λ s. IsReached (reading u s seen video)) c.in-Failed.is was.reached).is_part.2

pub returns-in-Failed-place-clause-shown : goal.returns-in-Failed-place-clause-shown
returns-in-Failed-place-clause-shown c = λ seen video was.
    let n = c.take.new.self in
    (subst (λ s. IsReached (reading n s (seen ++ get_or c.args.chunk.now 0 0 ∷ []) video))
    c.in-Failed-place.is (c.take.ensures.next seen video was).reached).is_part.2
