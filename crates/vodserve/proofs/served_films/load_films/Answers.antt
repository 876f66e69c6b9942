use Rattle.std.proofs.Common.{Option, rules, subst, ◌+◌, ◌∙◌, ◌≤◌, ◌++◌, List, ℕ, ap, arith, sym, length, drop}
use Rattle.std.specs.Prelude.{All, codes}
use Rattle.vod_base.specs.IoState.{File}
use Rattle.vodserve.specs.WorkerResults.{IsHeld}
use Rattle.std.specs.List.{Contains}
use Rattle.std.specs.Option.{option_to_list}
use Rattle.std.proofs.lemmas.List.{append-nil, append_assoc, drop_all}
use Rattle.film_streams.specs.SettingRanges.{names_of}
use Rattle.cli_args.specs.Settings.{setting_value, texts, values_of}
use Rattle.cli_errors.proofs.ReadErrorLemmas.{causes_of, trouble_map}
use Rattle.inputs.specs.LoadErrors.{IsServedFilmRefused}
use Rattle.vodserve.specs.ServerOutput.{IsFirstRefused, IsWordNamed}
use Rattle.inputs.proofs.ScanLemmas.{handed_on}
use Rattle.vodserve.proofs.FilmLoadLemmas.{WordAt, films_are, first_refused, values_rest, word_film}
use Rattle.vodserve.proofs.served_films.load_films.Goals as goal

pub returns-in_err-add_film-clause-error : goal.returns-in_err-add_film-clause-error
returns-in_err-add_film-clause-error g c =
    let word_at : (name : List ℕ) → IsWordNamed c.as_str.result.now name
    → WordAt c.args.words.now (names_of c.loop-word.films.items) name = λ name named. record {
      word = _;
      place = c.loop-word.word-index;
      inside = c.loop-word-test.true;
      at = c.word-item.is;
      whole = c.loop-word.invariant.names;
      named = rw c.as_str.ensures.value at named;
    } in
    handed_on _ c.from_residual.result c.from_residual.ensures.1
    (trouble_map (causes_of (IsWordNamed c.as_str.result.now) IsServedFilmRefused
    (g.L.Library.files c.loop-word.library) (g.L.Library.faults c.loop-word.library)
    (g.L.Library.faults c.add_film.new.library))
    (causes_of (Contains (values_of (codes "film") (texts c.args.words.now)))
    (IsFirstRefused (values_of (codes "film") (texts c.args.words.now)))
    (g.L.Library.files c.args.library.now) (g.L.Library.faults c.args.library.now)
    (g.L.Library.faults c.add_film.new.library))
    c.in_err-add_film.field-0.0
    (record {
      reads = λ name named. word_film (word_at name named);
      refuses = λ held name fault told named refused. first_refused
          (record { told = _; held = held; fault = fault; tells = told; refused = refused }) c.loop-word.films.items
          (word_at name named) c.loop-word.invariant.held;
      keeps = λ held told. c.loop-word.invariant.library.kept ∙ told;
      low = omega (arith, c.loop-word.invariant.library.count);
      high = omega arith;
    })
    ((c.in_err-add_film.ensures {u = tt}).error))

pub returns-clause-films : goal.returns-clause-films
returns-clause-films g c =
    let ends : length c.args.words.now ≤ c.loop-word.word-index = c.loop-word-test.false in
    films_are c.loop-word.films.items (values_of (codes "film") (texts c.args.words.now)) c.requires
    (c.loop-word.invariant.names
    ∙ ap (λ (ws : List _). names_of c.loop-word.films.items ++ values_of (codes "film") (texts ws))
    (drop_all c.loop-word.word-index c.args.words.now ends)
    ∙ append-nil (names_of c.loop-word.films.items))

pub returns-clause-loaded : goal.returns-clause-loaded
returns-clause-loaded g c =
    let ends : length c.args.words.now ≤ c.loop-word.word-index = c.loop-word-test.false in
    record {
      names_are = sym
          (c.loop-word.invariant.names
          ∙ ap (λ (ws : List _). names_of c.loop-word.films.items ++ values_of (codes "film") (texts ws))
          (drop_all c.loop-word.word-index c.args.words.now ends)
          ∙ append-nil (names_of c.loop-word.films.items));
      held = c.loop-word.invariant.held;
    }

pub loop-word-preserved : goal.loop-word-preserved
loop-word-preserved g c =
    let key : List ℕ = codes "film" in
    let so_far : List (List ℕ) = names_of c.loop-word.films.items in
    let rest : List (List ℕ) = values_of key (texts (drop (c.loop-word.word-index + 1) c.args.words.now)) in
    record {
      library = search rules;
      held = subst (λ (t : Option (List File)). All (IsHeld t) c.add_film.new.films.items)
          c.loop-word.invariant.library.kept
          ((c.in_ok-add_film.ensures {u = tt}).held
          (subst (λ (t : Option (List File)). All (IsHeld t) c.loop-word.films.items)
          (sym c.loop-word.invariant.library.kept) c.loop-word.invariant.held));
      names = c.loop-word.invariant.names
          ∙ ap (λ (vs : List (List ℕ)). so_far ++ vs)
          (values_rest key c.args.words.now c.loop-word.word-index c.word-item.result c.loop-word-test.true
          c.word-item.is)
          ∙ ap (λ (w : List ℕ). so_far ++ (option_to_list (setting_value key w) ++ rest)) (sym c.as_str.ensures.value)
          ∙ sym (append_assoc so_far (option_to_list (setting_value key c.as_str.result.now)) rest)
          ∙ ap (λ (ns : List (List ℕ)). ns ++ rest) (sym ((c.in_ok-add_film.ensures {u = tt}).added));
    }
