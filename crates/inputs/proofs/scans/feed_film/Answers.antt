use Rattle.std.proofs.Common.{◌∙◌, ◌++◌, [], arith, take}
use Rattle.std.proofs.lemmas.List.{length-take-le}
use Rattle.mpeg_scan.specs.StartCodes.{read_after}
use Rattle.mpeg_scan.proofs.FilmLemmas.{length-read}
use Rattle.inputs.proofs.LibraryLemmas.{then_read}
use Rattle.inputs.proofs.ReadLemmas.{chunk_long}
use Rattle.inputs.proofs.RefusalLemmas.{library_call}
use Rattle.inputs.proofs.ScanLemmas.{chunk_refused, film_file, film_trouble, more_told}
use Rattle.inputs.proofs.scans.feed_film.Goals as goal

pub feed-requires-clause-short : goal.feed-requires-clause-short
feed-requires-clause-short g c =
    let so_far = c.loop-count.invariant.scanned in
    let chunk = rw c.in-Some.is at ((c.in_ok-count.ensures {u = tt}).chunk) in
    omega (
      arith,
      so_far.scanned.fed.progress.fed,
      length-read so_far.bytes [],
      so_far.long,
      length-take-le c.in-Some.count c.read_at.new.into chunk.fits,
      chunk.within,
      c.requires.short,
    )

pub returns-in-Err-clause-error : goal.returns-in-Err-clause-error
returns-in-Err-clause-error g c =
    let so_far = c.loop-count.invariant.scanned in
    film_trouble (library_call (g.L.Library.files c.args.library.now) c.args.file.name.now
    (g.L.Library.faults c.args.library.now) (g.L.Library.faults c.read_at.new.library)) c.scan_error.result
    (λ held fault is refused.
    chunk_refused (film_file (c.requires.opened held is) c.requires.short) so_far.bytes
    (take c.in-Some.count c.read_at.new.into)
    (rw c.in-Some.is at
    ((c.in_ok-count.ensures {u = tt}).told held so_far.bytes (c.loop-count.invariant.library.kept ∙ is)
    (so_far.front held is) so_far.long))
    (c.feed.ensures.fault fault (cc) (read_after [] so_far.bytes) so_far.scanned.fed))
    c.scan_error.ensures

pub loop-count-preserved : goal.loop-count-preserved
loop-count-preserved g c =
    let so_far = c.loop-count.invariant.scanned in
    let chunk = rw c.in-Some.is at ((c.in_ok-count.ensures {u = tt}).chunk) in
    record {
      library = then_read c.loop-count.invariant.library c.read_at.ensures.library;
      within = chunk.within;
      ready = c.feed.ensures.ready;
      scanned = record {
        bytes = so_far.bytes ++ take c.in-Some.count c.read_at.new.into;
        long = omega (arith, chunk_long so_far.bytes c.read_at.new.into chunk, so_far.long);
        scanned = more_told (record {
          Heard = _;
          Next = _;
          scanner = _;
          next = _;
          chunk = take c.in-Some.count c.read_at.new.into;
          kept = (c.in_default-feed.ensures {u = tt}).kept;
          tells = (c.in_default-feed.ensures {u = tt}).heard;
        }) so_far.scanned;
        front = λ held is.
            rw c.in-Some.is at
            ((c.in_ok-count.ensures {u = tt}).told held so_far.bytes (c.loop-count.invariant.library.kept ∙ is)
            (so_far.front held is) so_far.long);
      };
    }

pub returns-clause-scanned : goal.returns-clause-scanned
returns-clause-scanned g c =
    let so_far = c.loop-count.invariant.scanned in
    record {
      bytes = so_far.bytes;
      few = omega (arith, so_far.long, c.loop-count.invariant.within);
      scanned = so_far.scanned;
      whole = λ held is.
          rw c.in_default.is at
          ((c.in_ok-count.ensures {u = tt}).told held so_far.bytes (c.loop-count.invariant.library.kept ∙ is)
          (so_far.front held is) so_far.long);
    }
