use Rattle.std.proofs.Common.{◌≡◌, ◌∙◌, ◌++◌, List, ℕ, arith, length, length-append, refl, take}
use Rattle.std.proofs.lemmas.List.{length-take-le}
use Rattle.inputs.proofs.LibraryLemmas.{then_read}
use Rattle.inputs.proofs.ReadLemmas.{chunk_long}
use Rattle.inputs.proofs.RefusalLemmas.{library_call}
use Rattle.inputs.proofs.ScanLemmas.{film_file, system_trouble}
use Rattle.inputs.proofs.StreamLemmas.{chunk_told, front_more, stream_front, stream_rest}
use Rattle.inputs.proofs.streams.feed_stream.Goals as goal

pub unwrap_chunk-requires-clause-room : goal.unwrap_chunk-requires-clause-room
unwrap_chunk-requires-clause-room g c =
    let so_far = c.loop-count.invariant.streamed in
    let chunk = rw c.in-Some.is at ((c.in_ok-count.ensures {u = tt}).chunk) in
    omega (
      arith,
      so_far.unwrapped.fed.count,
      so_far.long,
      length-take-le c.in-Some.count c.read_at.new.into chunk.fits,
      chunk.within,
      c.requires.short,
    )

pub returns-in-Err-clause-error : goal.returns-in-Err-clause-error
returns-in-Err-clause-error g c =
    let so_far = c.loop-count.invariant.streamed in
    let chunk : List ℕ = take c.in-Some.count c.read_at.new.into in
    system_trouble (library_call (g.L.Library.files c.args.library.now) c.args.file.name.now
    (g.L.Library.faults c.args.library.now) (g.L.Library.faults c.read_at.new.library)) c.stream_error.result
    (λ held fault is moves. chunk_told c.in-Err.refused (record {
      file = film_file (c.requires.opened held is) c.requires.short;
      seen = so_far.seen;
      chunk = chunk;
      front = front_more (stream_front (so_far.front held is)) chunk (λ bytes front long.
          rw c.in-Some.is at
          ((c.in_ok-count.ensures {u = tt}).told held bytes (c.loop-count.invariant.library.kept ∙ is) front
          (long ∙ so_far.long)));
    }) ((c.in-Err.ensures {u = tt}).refused so_far.seen so_far.unwrapped) moves)
    c.stream_error.ensures

pub loop-count-preserved : goal.loop-count-preserved
loop-count-preserved g c =
    let so_far = c.loop-count.invariant.streamed in
    let chunk = rw c.in-Some.is at ((c.in_ok-count.ensures {u = tt}).chunk) in
    record {
      library = then_read c.loop-count.invariant.library c.read_at.ensures.library;
      within = chunk.within;
      few = (c.in_default-unwrap_chunk.ensures {u = tt}).few;
      ready = c.unwrap_chunk.ensures.ready;
      streamed = record {
        seen = so_far.seen ++ take c.in-Some.count c.read_at.new.into;
        long = omega (arith, chunk_long so_far.seen c.read_at.new.into chunk, so_far.long);
        unwrapped = (c.in_default-unwrap_chunk.ensures {u = tt}).next so_far.seen so_far.unwrapped;
        front = λ held is.
            front_more (stream_front (so_far.front held is)) (take c.in-Some.count c.read_at.new.into)
            (λ bytes front long.
            rw c.in-Some.is at
            ((c.in_ok-count.ensures {u = tt}).told held bytes (c.loop-count.invariant.library.kept ∙ is) front
            (long ∙ so_far.long)));
      };
    }

pub returns-clause-streamed : goal.returns-clause-streamed
returns-clause-streamed g c =
    let so_far = c.loop-count.invariant.streamed in
    record {
      seen = so_far.seen;
      few = omega (arith, so_far.long, c.loop-count.invariant.within);
      unwrapped = so_far.unwrapped;
      whole = λ held is.
          let front = so_far.front held is in
          let whole : List ℕ = front.0 ++ so_far.seen in
          let long : length whole ≡ c.loop-count.at =
          omega (arith, length-append front.0 so_far.seen, front.1.0, so_far.long) in (
            whole,
            (
              rw c.in_default.is at
                  ((c.in_ok-count.ensures {u = tt}).told held whole (c.loop-count.invariant.library.kept ∙ is)
                  front.1.1 long),
              stream_rest front.0 so_far.seen whole c.args.from refl front.1.0,
            ),
          );
    }
