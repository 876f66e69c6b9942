-- Runs of which nothing was sent.
use Rattle.std.proofs.Common.{◌≡◌, ℕ, ◌<◌, ◌≤◌, List, Option, length, refl, sym, subst, ◌∙◌, inl, inr, arith}
use Rattle.mpeg_scan.specs.declared.units.Unit.{Unit as PictureUnit}
use Rattle.mpeg_scan.specs.declared.films.Film.{Film}
use Rattle.mpeg_scan.specs.PictureRates.{picture_time}
use Rattle.std.proofs.lemmas.List.{length-map}
use Rattle.film_frames.specs.Pieces.{wire_size}
use Rattle.film_frames.specs.Tracks.{IsBoundary}
use Rattle.film_frames.specs.FramedRuns.{run_of, run_pieces}
use Rattle.film_run.specs.declared.runs.Run.{Run}
use Rattle.film_run.specs.Units.{film_sizes}
use Rattle.film_run.specs.Runs.{EndsAtBoundary, IsNewRun, IsRun, bytes_between}
use Rattle.film_run.specs.Seeks.{BeginsBy, IsRequestedRange, IsEnd, IsGroupBy, IsReversed}
use Rattle.film_run.proofs.SumLemmas.{bytes-none}

-- a run of which nothing was sent
pub record BeginsAt (first end : ℕ) (run : Run) : Type 0 where
  pub first_is : run.first_unit ≡ first
  pub end_is : run.end_unit ≡ end
  pub from_is : run.from_unit ≡ first
  pub sent_is : run.sent ≡ 0
  pub played_is : run.played ≡ 0

pub new-run : {sizes : List ℕ} {first end : ℕ} {run : Run} → (first < end) × (end ≤ length sizes)
    → BeginsAt first end run → IsNewRun sizes first end run
new-run {sizes} {first} {end} {run} units begins =
    let some = units.0 in
    let within = units.1 in
    let first_is = begins.first_is in
    let end_is = begins.end_is in
    let from_is = begins.from_is in
    let sent_is = begins.sent_is in
    let played_is = begins.played_is in
    let none : bytes_between sizes run.first_unit run.from_unit ≡ 0 =
    subst (λ u. bytes_between sizes run.first_unit u ≡ 0) (first_is ∙ sym from_is) (bytes-none sizes run.first_unit) in
    let run_is : IsRun sizes run = record {
      order = omega arith;
      rest = omega arith;
      within = omega arith;
      played_is = played_is ∙ sym none;
      ahead = omega arith;
      whole = omega arith;
    } in
    record {
      first_is = first_is;
      end_is = end_is;
      from_is = from_is;
      sent_is = sent_is;
      played_is = played_is;
      run_is = run_is;
    }

pub none-at-boundary : (film : Film) (run : Run) → run.sent ≡ 0 → EndsAtBoundary film run
none-at-boundary film run none = λ identity.
    let pieces = run_pieces (run_of film run.first_unit run.end_unit identity) in
    subst (λ n. IsBoundary pieces n) (sym none) (record { number = 0; among = omega arith; place_is = refl })

-- what the times of a run say over a list of units and the time of one
record Times (from : ℕ) (to : Option ℕ) (run : Run) (units : List PictureUnit) (picture_units : ℕ) : Type 0 where
  rest : ¬ BeginsBy picture_units from (length units)
  begins : IsGroupBy units picture_units from run.first_unit
  ends : IsEnd units picture_units to run.first_unit run.end_unit
  within : run.end_unit ≤ length units

times-of : {from : ℕ} {to : Option ℕ} {run : Run} {units : List PictureUnit} {picture_units first end : ℕ}
    → ¬ BeginsBy picture_units from (length units)
    → IsGroupBy units picture_units from first → IsEnd units picture_units to first end → end ≤ length units
    → run.first_unit ≡ first → run.end_unit ≡ end
    → Times from to run units picture_units
times-of {from} {to} {run} {units} {picture_units} {first} {end} rest begins ends within first_is end_is =
    let P : ℕ → Type 0 = λ e. IsEnd units picture_units to first e in
    let Q : ℕ → Type 0 = λ f. IsEnd units picture_units to f run.end_unit in
    record {
      rest = rest;
      begins = subst (λ f. IsGroupBy units picture_units from f) (sym first_is) begins;
      ends = subst Q (sym first_is) (subst P (sym end_is) ends);
      within = omega arith;
    }

-- the units that times ask for, of a list of units and with the time of one
pub record AsksFor (from : ℕ) (to : Option ℕ) (units : List PictureUnit) (picture_units first end : ℕ) : Type 0 where
  pub order : ¬ IsReversed from to
  pub rest : ¬ BeginsBy picture_units from (length units)
  pub begins : IsGroupBy units picture_units from first
  pub ends : IsEnd units picture_units to first end
  pub some : first < end
  pub within : end ≤ length units

pub asks_for_run : {film : Film} {from : ℕ} {to : Option ℕ} {run : Run} {units : List PictureUnit}
    {picture_units first end : ℕ}
    → units ≡ film.units.items → picture_units ≡ picture_time film.rate
    → AsksFor from to units picture_units first end → BeginsAt first end run
    → IsRequestedRange film from to run
asks_for_run {film} {from} {to} {run} {picture_units} {first} {end} units_are time_is asks at =
    let first_is = at.first_is in
    let end_is = at.end_is in
    let some : first < end = asks.some in
    let its = times-of asks.rest asks.begins asks.ends asks.within first_is end_is in
    let of_film : Times from to run film.units.items (picture_time film.rate) =
    subst (λ t. Times from to run film.units.items t) time_is
    (subst (λ l. Times from to run l picture_units) units_are its) in
    let count : length (film_sizes film.slice_starts.items film.units.items) ≡ length film.units.items =
    length-map film.units.items (λ u. wire_size film.slice_starts.items u) in
    record {
      some = λ nothing. elim nothing [ inl ended ↦ of_film.rest ended | inr reversed ↦ asks.order reversed ];
      begins = of_film.begins;
      ends = of_film.ends;
      new =
          new-run (omega arith, omega (arith, of_film.within, count))
          (record {
            first_is = refl;
            end_is = refl;
            from_is = at.from_is ∙ sym first_is;
            sent_is = at.sent_is;
            played_is = at.played_is;
          });
    }
