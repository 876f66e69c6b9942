use Rattle.std.proofs.Common.{◌≡◌, ◌≤◌, ◌∙◌, arith, inl, inr, length, refl, subst, sym}
use Rattle.mpeg_scan.specs.declared.films.Film.{Film}
use Rattle.inputs.specs.Videos.{IsRefusedAbove, IsVideo, IsVideoRefused}
use Rattle.inputs.proofs.LoadLemmas.{size_above}
use Rattle.inputs.proofs.ReadLemmas.{first_front}
use Rattle.inputs.proofs.RefusalLemmas.{library_call, refusal_read}
use Rattle.inputs.proofs.ScanLemmas.{handed_on, later_read, never_refused, read_trouble_map}
use Rattle.inputs.proofs.VideoLemmas.{file_not_refused}
use Rattle.inputs.proofs.LibraryLemmas.{then_read}
use Rattle.inputs.proofs.films.load_within.Goals as goal

pub returns-in_err-size-clause-error : goal.returns-in_err-size-clause-error
returns-in_err-size-clause-error g c =
    handed_on _ c.from_residual.result c.from_residual.ensures.1 (read_trouble_map _ _ c.in_err-size.field-0.0
    (λ name is. is) (λ held name fault told is missing. inl missing) ((c.in_err-size.ensures {u = tt}).error))

pub returns-in_err-file-clause-error : goal.returns-in_err-file-clause-error
returns-in_err-file-clause-error g c =
    let Refuses = IsRefusedAbove c.args.most c.args.over in
    handed_on _ c.from_residual-in_err-file.result c.from_residual-in_err-file.ensures.1
    (never_refused (later_read c.find_file.ensures.library)
    c.args.name.now Refuses (g.L.Library.faults c.read_bytes.new.library) c.in_err-file.field-0.0
    ((c.in_err-file.ensures {u = tt}).error))

pub returns-then-most-size-clause-error : goal.returns-then-most-size-clause-error
returns-then-most-size-clause-error g c = (
  refl,
  λ held told. size_above (first_front held c.args.name.now c.in_ok-size.size
      ((c.in_ok-size.ensures {u = tt}).found held told)) c.args.most c.args.over
      (omega (arith, c.if-most-size.true)),
)

pub returns-in_err-film-clause-error : goal.returns-in_err-film-clause-error
returns-in_err-film-clause-error g c =
    let file = c.in_ok-file.file in
    let short : length file.items ≤ c.args.most =
    omega (arith, (c.in_ok-file.ensures {u = tt}).within, file.ok, c.if-most-size.false) in
    handed_on _ c.from_residual-in_err-film.result c.from_residual-in_err-film.ensures.1
    (refusal_read {Reason = IsVideoRefused file.items} _
    (library_call (g.L.Library.files c.args.library.now) c.args.name.now (g.L.Library.faults c.args.library.now)
    (g.L.Library.faults c.read_bytes.new.library)) c.in_err-film.field-0.0
    (λ held fault is refused.
    let found = (c.in_ok-file.ensures {u = tt}).read held (c.find_file.ensures.library.kept ∙ is)
    ((c.in_ok-size.ensures {u = tt}).found held is) in
    inr (file.items, (found, inr (short, refused)))) ((c.in_err-film.ensures {u = tt}).error))

pub returns-clause-film : goal.returns-clause-film
returns-clause-film g c = λ held is.
    let same : c.in_ok-stored.stored.film ≡ c.in_ok-film.film = (c.in_ok-stored.ensures {u = tt}).film in
    record {
      file = c.in_ok-file.file.items;
      found = (c.in_ok-file.ensures {u = tt}).read held (c.find_file.ensures.library.kept ∙ is)
          ((c.in_ok-size.ensures {u = tt}).found held is);
      short =
          omega (arith, (c.in_ok-file.ensures {u = tt}).within, c.in_ok-file.file.ok, c.if-most-size.false, c.requires);
      is_video = subst (λ (f : Film). IsVideo c.in_ok-file.file.items f.bytes.items) (sym same)
          ((c.in_ok-film.ensures {u = tt}).film);
      accepted = c.in_ok-stored.stored.film.grammar.accepted;
    }

pub returns-clause-small : goal.returns-clause-small
unfolding returns-clause-film
returns-clause-small g c = λ held is fault refused.
    file_not_refused c.args.over fault (returns-clause-film g c held is)
    (omega (arith, (c.in_ok-file.ensures {u = tt}).within, c.in_ok-file.file.ok, c.if-most-size.false)) refused

pub returns-in_err-stored-clause-error : goal.returns-in_err-stored-clause-error
returns-in_err-stored-clause-error g c =
    handed_on _ c.from_residual-in_err-stored.result c.from_residual-in_err-stored.ensures.1 tt

pub returns-in_err-file-clause-library : goal.returns-in_err-file-clause-library
returns-in_err-file-clause-library g c = then_read c.find_file.ensures.library c.read_bytes.ensures.library

pub returns-in_err-film-clause-library : goal.returns-in_err-film-clause-library
returns-in_err-film-clause-library g c = then_read c.find_file.ensures.library c.read_bytes.ensures.library

pub returns-in_err-stored-clause-library : goal.returns-in_err-stored-clause-library
returns-in_err-stored-clause-library g c = then_read c.find_file.ensures.library c.read_bytes.ensures.library

pub returns-clause-library : goal.returns-clause-library
returns-clause-library g c = then_read c.find_file.ensures.library c.read_bytes.ensures.library
