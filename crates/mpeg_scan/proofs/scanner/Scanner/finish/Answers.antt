use Rattle.std.proofs.Common.{ℕ, Err, Option, option_map, refl, sym, ap, ◌∙◌, arith, rules}
use Rattle.std.proofs.lemmas.Grind.{common_steps}
use Rattle.std.proofs.lemmas.Option.{none-some, same_Some}
use Rattle.std.specs.Option.{unwrap_or}
use Rattle.std.specs.Result.{result_ok}
use Rattle.mpeg_scan.specs.declared.scanner.Ending.{Ending}
use Rattle.mpeg_scan.specs.Tallies.{Tally}
use Rattle.mpeg_scan.proofs.UnitNumberingLemmas.{film-numbered}
use Rattle.mpeg_scan.proofs.FilmGrammarLemmas.{film-grammatical}
use Rattle.mpeg_scan.proofs.ScanBoundLemmas.{end-ready, end-room}
use Rattle.mpeg_scan.proofs.PartTilingLemmas.{film-tiles}
use Rattle.mpeg_scan.proofs.scanner.Scanner.finish.Goals as goal

pub tell_unit-requires : goal.tell_unit-requires
tell_unit-requires g c =
    let its = c.in_ok-tally.ensures in record {
      some = its.sliced;
      room = end-room c.args.self.progress c.in_ok-tally.tally its.tally (c.args.self.room c.in_default.is);
      within = its.short;
      ready = end-ready (g.F.Found.ready_at c.args.found.now) c.args.self.progress c.in_ok-tally.tally
          its.tally its.sliced (c.requires c.in_default.is);
    }

pub returns-in-Some : goal.returns-in-Some
returns-in-Some g c = record {
  ended = tt;
  tiled = tt;
  grammatical = tt;
  numbered = tt;
  heard = tt;
  fault = λ f e r k. absurd (none-some c.in-Some.refused (sym k.unrefused ∙ c.in-Some.is));
  unheard = λ f e. refl;
  again = λ e is. (ap Err (same_Some c.in-Some.refused e (sym c.in-Some.is ∙ is)), refl);
}

pub returns : goal.returns
returns g c =
    let accepted = c.in_ok-tally.ensures.accepted in record {
      ended = λ r kept. let h = accepted r kept.progress in (
        h.0,
        ap (λ (rate : Option ℕ). unwrap_or rate 0) (sym c.unwrap.ensures)
            ∙ ap (λ (t : Tally). unwrap_or t.rate 0) (c.tally.view_is ∙ h.1),
        kept.progress.fed,
      );
      tiled = λ r kept. film-tiles r (accepted r kept.progress).0;
      grammatical = λ r kept. film-grammatical r (accepted r kept.progress).0;
      numbered = λ r kept. film-numbered r (accepted r kept.progress).0;
      heard = grind (arith, common_steps);
      fault = λ f e r kept. absurd
          (none-some c.unwrap.result (sym (ap (λ r. option_map (λ (e : Ending). e.rate) (result_ok r)) e)));
      unheard = search rules;
      again = λ e is. absurd (none-some e (sym c.in_default.is ∙ is));
    }
