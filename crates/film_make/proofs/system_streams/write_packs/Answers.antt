use Rattle.std.proofs.Common.{ℕ, List, ◌*◌, ◌++◌, take, drop, ap, ◌∙◌}
use Rattle.film_make.specs.SystemStream.{pack_of}
use Rattle.film_make.proofs.FilmLemmas.{none-added, end_to_end-none, part-step}
use Rattle.film_make.proofs.PackLemmas.{part-taken}
use Rattle.film_make.proofs.system_streams.write_packs.Goals as goal

pub loop-part-init : goal.loop-part-init
loop-part-init c = none-added _ _ (end_to_end-none _)

pub loop-part-preserved : goal.loop-part-preserved
loop-part-preserved c =
    let taken = part-taken c.args.video.now c.loop-part.part c.min.result c.min.ensures in
    c.in_ok-write_pack.ensures ∙ ap (λ (l : List ℕ). c.loop-part.out.items ++ pack_of l) taken
    ∙ part-step _ _ (λ i. pack_of (take 2000 (drop (2000 * i) c.args.video.now))) c.loop-part.part c.loop-part.invariant
