use Rattle.std.proofs.Common.{◌≤◌, ◌^◌, ℕ, List, [], inl, length, subst, sym, arith}
use Rattle.sys_demux.specs.SystemStreams.{IsBadStream, IsSystem}
use Rattle.inputs.specs.ChunkScans.{HasEnded, HasScannedFilm, IsRefusedAtEnd}
use Rattle.inputs.proofs.RefusalLemmas.{library_call}
use Rattle.inputs.proofs.ScanLemmas.{film_file, film_troubles, handed_on, none_told, ok_map, system_trouble}
use Rattle.inputs.proofs.StreamLemmas.{first_stream, stream_fault, stream_holds, stream_refused, stream_seen}
use Rattle.inputs.proofs.streams.scan_stream.Goals as goal

pub feed_stream-requires-clause-streamed : goal.feed_stream-requires-clause-streamed
feed_stream-requires-clause-streamed g c = record {
  seen = [];
  long = omega arith;
  unwrapped = record {
    video = [];
    fed = c.new-unwrapper.ensures;
    few = omega arith;
    taken = inl (none_told (g.F.Found.heard c.args.found.now) c.new-scanner.result c.new-scanner.ensures.fed
        c.requires.fresh);
  };
  front = λ held is. first_stream (c.requires.opened held is);
}

pub feed_stream-requires-clause-few : goal.feed_stream-requires-clause-few
feed_stream-requires-clause-few g c = omega (arith, c.new-scanner.ensures.fed.progress.fed)

pub returns-in-Ok-clause-film : goal.returns-in-Ok-clause-film
returns-in-Ok-clause-film g c =
    let all = (c.in_ok-feed_stream.ensures {u = tt}).streamed in
    let video = all.unwrapped.video in
    let system : IsSystem all.seen video = (c.in-Ok.ensures {u = tt}).end all.seen video all.unwrapped.fed in
    let short : length video ≤ 2 ^ 40 = omega (arith, c.requires.short, all.unwrapped.few, all.few) in
    ok_map (λ e. HasEnded (g.F.Found.heard c.finish_scan.new.found) video e.bytes e.rate)
    (λ e. HasScannedFilm (g.F.Found.heard c.finish_scan.new.found) (g.L.Library.files c.args.library.now)
    c.args.file.name.now
    e.bytes e.rate) c.finish_scan.result
    (λ e ended. record {
      video = video;
      ended = ended;
      holds = λ held is.
          let file = film_file (c.requires.opened held is) c.requires.short in
          stream_holds file (stream_seen file (all.whole held is)) (system, ended.accepted);
    })
    (c.finish_scan.ensures.ended video short all.unwrapped.taken)

pub returns-in-Ok-clause-error : goal.returns-in-Ok-clause-error
returns-in-Ok-clause-error g c =
    let all = (c.in_ok-feed_stream.ensures {u = tt}).streamed in
    let video = all.unwrapped.video in
    film_troubles
    {Refuses = IsRefusedAtEnd (g.F.Found.heard c.feed_stream.new.found) c.feed_stream.new.scanner}
    (library_call (g.L.Library.files c.args.library.now) c.args.file.name.now
    (g.L.Library.faults c.args.library.now) (g.L.Library.faults c.feed_stream.new.library)) c.finish_scan.result
    (λ held fault is refuses.
    let file = film_file (c.requires.opened held is) c.requires.short in
    stream_refused file
    (subst (λ (l : List ℕ). IsSystem l video) (sym (stream_seen file (all.whole held is)))
    ((c.in-Ok.ensures {u = tt}).end all.seen video all.unwrapped.fed))
    (refuses video (omega (arith, c.requires.short, all.unwrapped.few, all.few)) all.unwrapped.taken))
    c.finish_scan.ensures.error

pub returns-in-Err-clause-error : goal.returns-in-Err-clause-error
returns-in-Err-clause-error g c =
    system_trouble (library_call (g.L.Library.files c.args.library.now) c.args.file.name.now
    (g.L.Library.faults c.args.library.now) (g.L.Library.faults c.feed_stream.new.library)) c.stream_error.result
    (λ held fault is moves.
    let all = (c.in_ok-feed_stream.ensures {u = tt}).streamed in
    let file = film_file (c.requires.opened held is) c.requires.short in
    stream_fault file
    (subst (λ (l : List ℕ). IsBadStream l c.in-Err.fault) (sym (stream_seen file (all.whole held is)))
    ((c.in-Err.ensures {u = tt}).end all.seen all.unwrapped.video all.unwrapped.fed)) moves)
    c.stream_error.ensures

pub returns-in_err-feed_stream-clause-error : goal.returns-in_err-feed_stream-clause-error
returns-in_err-feed_stream-clause-error g c =
    handed_on _ c.from_residual.result c.from_residual.ensures.1 ((c.in_err-feed_stream.ensures {u = tt}).error)
