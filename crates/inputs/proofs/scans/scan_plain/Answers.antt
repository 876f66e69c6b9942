use Rattle.std.proofs.Common.{◌≤◌, ◌^◌, [], inl, length, refl, arith}
use Rattle.inputs.specs.ChunkScans.{HasEnded, HasScannedFilm, IsRefusedAtEnd}
use Rattle.inputs.proofs.RefusalLemmas.{library_call}
use Rattle.inputs.proofs.ScanLemmas.{film_file, film_troubles, handed_on, none_told, ok_map, plain_holds, plain_refused}
use Rattle.inputs.proofs.scans.scan_plain.Goals as goal

pub feed_film-requires-clause-scanned : goal.feed_film-requires-clause-scanned
feed_film-requires-clause-scanned g c = record {
  bytes = [];
  long = refl;
  scanned = none_told (g.F.Found.heard c.args.found.now) c.new-scanner.result c.new-scanner.ensures.fed
      c.requires.fresh;
  front = λ held is.
      let opened = c.requires.opened held is in
      record { whole = opened.file; found = opened.found; sized = opened.sized; front = refl };
}

pub returns-clause-film : goal.returns-clause-film
returns-clause-film g c =
    let all = (c.in_ok-feed_film.ensures {u = tt}).scanned in
    let short : length all.bytes ≤ 2 ^ 40 = omega (arith, all.few, c.requires.short) in
    ok_map (λ e. HasEnded (g.F.Found.heard c.finish_scan.new.found) all.bytes e.bytes e.rate)
    (λ e. HasScannedFilm (g.F.Found.heard c.finish_scan.new.found) (g.L.Library.files c.args.library.now)
    c.args.file.name.now
    e.bytes e.rate) c.finish_scan.result
    (λ e ended. record {
      video = all.bytes;
      ended = ended;
      holds = λ held is. plain_holds (film_file (c.requires.opened held is) c.requires.short) (all.whole held is)
          ended.accepted;
    })
    (c.finish_scan.ensures.ended all.bytes short (inl all.scanned))

pub returns-clause-error : goal.returns-clause-error
returns-clause-error g c =
    let all = (c.in_ok-feed_film.ensures {u = tt}).scanned in
    let short : length all.bytes ≤ 2 ^ 40 = omega (arith, all.few, c.requires.short) in
    film_troubles
    {Refuses = IsRefusedAtEnd (g.F.Found.heard c.feed_film.new.found) c.feed_film.new.scanner}
    (library_call (g.L.Library.files c.args.library.now) c.args.file.name.now
    (g.L.Library.faults c.args.library.now) (g.L.Library.faults c.feed_film.new.library)) c.finish_scan.result
    (λ held fault is refuses. plain_refused (film_file (c.requires.opened held is) c.requires.short)
    (all.whole held is) (refuses all.bytes short (inl all.scanned))) c.finish_scan.ensures.error

pub returns-in_err-feed_film-clause-error : goal.returns-in_err-feed_film-clause-error
returns-in_err-feed_film-clause-error g c =
    handed_on _ c.from_residual.result c.from_residual.ensures.1 ((c.in_err-feed_film.ensures {u = tt}).error)
