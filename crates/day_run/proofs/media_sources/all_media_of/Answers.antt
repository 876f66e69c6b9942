use Rattle.std.proofs.Common.{◌<◌, ◌∷◌, [], length, ap, subst, ◌∙◌, arith, ◌≡◌, sym, ◌+◌, ℕ, List, ◌++◌, map, take}
use Rattle.std.proofs.Common.{get_or}
use Rattle.std.proofs.lemmas.List.{length-append, take_all, take_more}
use Rattle.day_run.specs.ClientStates.{source_content}
use Rattle.day_run.specs.DayLaws.{IsPlayable}
use Rattle.day_script.proofs.Places.{Place}
use Rattle.std.proofs.lemmas.Grind.{common_steps}
use Rattle.day_run.specs.declared.media.Media.{Media}
use Rattle.day_run.specs.declared.media.Source.{Source}
use Rattle.day_run.specs.MediaContents.{media_content}
use Rattle.std.specs.Prelude.{All}
use Rattle.std.proofs.lemmas.List.Elements.{All-append, All-cons, All-nil}
use Rattle.day_run.proofs.media_sources.all_media_of.Goals as goal

-- one reel more
contents-next : {after : List Media} (media : List Media) (medium : Media) (u : ℕ) (sources : List Source)
    (place : Place sources) → after ≡ media ++ medium ∷ []
    → media_content u medium ≡ source_content u (get_or sources place.index place.none)
    → map (media_content u) media ≡ map (source_content u) (take place.index sources)
    → map (media_content u) after ≡ map (source_content u) (take (place.index + 1) sources)
contents-next media medium u sources place is own before = grind (arith, common_steps)

-- one more that can be played
playable-next : (sources : List Source) (place : Place sources) → IsPlayable (get_or sources place.index place.none)
    → All IsPlayable (take place.index sources) → All IsPlayable (take (place.index + 1) sources)
playable-next sources place own before =
    subst (All IsPlayable) (sym (take_more sources i none inside))
    (All-append IsPlayable (take i sources) (get_or sources i none ∷ []) before
    (All-cons IsPlayable (get_or sources i none) [] own (All-nil IsPlayable)))
  where
    open place use {index as i, none, inside}

pub loop-source-preserved : goal.loop-source-preserved
loop-source-preserved c =
    let inv = c.loop-source.invariant in
    let e = c.in_ok-push.ensures.items in
    let medium = c.in_ok-media_of.field-0 in
    let i = c.loop-source.source-index in
    let inside : i < length c.args.sources.now = omega arith in
    let here : Place c.args.sources.now = record { index = i; none = c.source-item.result; inside = inside } in
    record {
      count = omega (arith, inv.count, ap length e, length-append c.loop-source.media.items (medium ∷ []));
      contents = λ u. contents-next c.loop-source.media.items medium u c.args.sources.now here e
          (c.in_ok-media_of.ensures.content u ∙ ap (source_content u) c.source-item.is) (inv.contents u);
      playable = playable-next c.args.sources.now here
          (subst IsPlayable c.source-item.is c.in_ok-media_of.ensures.playable) inv.playable;
    }

pub returns-clause-contents : goal.returns-clause-contents
returns-clause-contents c = grind (arith, take_all c.loop-source.source-index c.args.sources.now (omega arith))

pub returns-clause-playable : goal.returns-clause-playable
returns-clause-playable c = grind (arith, take_all c.loop-source.source-index c.args.sources.now (omega arith))
