use Rattle.std.proofs.Common.{◌∙◌, ◌^◌, inl, refl, sym, arith}
use Rattle.mpeg_scan.specs.declared.faults.FilmFault.TheVariants.{TooLong}
use Rattle.cli_errors.specs.declared.errors.InputError.TheVariants.{Film}
use Rattle.inputs.specs.ChunkScans.{IsFilmRefused}
use Rattle.inputs.proofs.ScanLemmas.{handed_on, heard_on, later_read, never_refused, read_trouble_map, troubles_on}
use Rattle.inputs.proofs.LoadLemmas.{size_above}
use Rattle.inputs.proofs.ReadLemmas.{first_front}
use Rattle.inputs.proofs.LibraryLemmas.{then_read}
use Rattle.inputs.proofs.scans.scan_film_into.Goals as goal

pub returns-in_err-size-clause-error : goal.returns-in_err-size-clause-error
returns-in_err-size-clause-error g c =
    handed_on _ c.from_residual.result c.from_residual.ensures.1 (read_trouble_map _ _ c.in_err-size.field-0.0
    (λ name is. is) (λ held name fault told is missing. inl missing) ((c.in_err-size.ensures {u = tt}).error))

pub returns-in_err-chunk-clause-error : goal.returns-in_err-chunk-clause-error
returns-in_err-chunk-clause-error g c =
    handed_on _ c.from_residual-in_err-chunk.result c.from_residual-in_err-chunk.ensures.1 tt

pub returns-in_err-stream-clause-error : goal.returns-in_err-stream-clause-error
returns-in_err-stream-clause-error g c =
    handed_on _ c.from_residual-in_err-stream.result c.from_residual-in_err-stream.ensures.1
    (never_refused (later_read c.find_file.ensures.library)
    c.args.name.now IsFilmRefused (g.L.Library.faults c.find_pack.new.library) c.in_err-stream.field-0.0
    ((c.in_err-stream.ensures {u = tt}).error))

pub returns-then-size-gt-MAX_FILM_BYTES-clause-error : goal.returns-then-size-gt-MAX_FILM_BYTES-clause-error
returns-then-size-gt-MAX_FILM_BYTES-clause-error g c = (
  refl,
  λ held told. size_above (first_front held c.args.name.now c.in_ok-size.size
      ((c.in_ok-size.ensures {u = tt}).found held told)) (2 ^ 40) (Film TooLong)
      (omega (arith, c.if-size-gt-MAX_FILM_BYTES.true)),
)

pub scan_plain-requires-clause-opened : goal.scan_plain-requires-clause-opened
scan_plain-requires-clause-opened g c = λ held is.
    let told = sym c.find_pack.ensures.library.kept ∙ is in
    rw c.in-None.is at ((c.in_ok-stream.ensures {u = tt}).opened held told
    ((c.in_ok-size.ensures {u = tt}).found held (sym c.find_file.ensures.library.kept ∙ told)))

pub scan_stream-requires-clause-opened : goal.scan_stream-requires-clause-opened
scan_stream-requires-clause-opened g c = λ held is.
    let told = sym c.find_pack.ensures.library.kept ∙ is in
    rw c.in-Some.is at ((c.in_ok-stream.ensures {u = tt}).opened held told
    ((c.in_ok-size.ensures {u = tt}).found held (sym c.find_file.ensures.library.kept ∙ told)))

pub returns-in-None-clause-film : goal.returns-in-None-clause-film
returns-in-None-clause-film g c =
    heard_on (later_read (then_read c.find_file.ensures.library c.find_pack.ensures.library))
    (g.F.Found.heard c.scan_plain.new.found) c.args.name.now c.scan_plain.result c.scan_plain.ensures.film

pub returns-in-None-clause-error : goal.returns-in-None-clause-error
returns-in-None-clause-error g c =
    troubles_on (later_read (then_read c.find_file.ensures.library c.find_pack.ensures.library)) c.args.name.now
    (g.L.Library.faults c.scan_plain.new.library) c.scan_plain.result c.scan_plain.ensures.error

pub returns-clause-film : goal.returns-clause-film
returns-clause-film g c =
    heard_on (later_read (then_read c.find_file.ensures.library c.find_pack.ensures.library))
    (g.F.Found.heard c.scan_stream.new.found) c.args.name.now c.scan_stream.result c.scan_stream.ensures.film

pub returns-clause-error : goal.returns-clause-error
returns-clause-error g c =
    troubles_on (later_read (then_read c.find_file.ensures.library c.find_pack.ensures.library)) c.args.name.now
    (g.L.Library.faults c.scan_stream.new.library) c.scan_stream.result c.scan_stream.ensures.error

pub returns-in_err-stream-clause-library : goal.returns-in_err-stream-clause-library
returns-in_err-stream-clause-library g c = then_read c.find_file.ensures.library c.find_pack.ensures.library

pub returns-in-None-clause-library : goal.returns-in-None-clause-library
returns-in-None-clause-library g c =
    then_read (then_read c.find_file.ensures.library c.find_pack.ensures.library) c.scan_plain.ensures.library

pub returns-clause-library : goal.returns-clause-library
returns-clause-library g c =
    then_read (then_read c.find_file.ensures.library c.find_pack.ensures.library) c.scan_stream.ensures.library
