use Rattle.std.proofs.Common.{◌≡◌, ◌∙◌, ◌≤◌, ◌++◌, List, ℕ, None, Some, ap, arith, length, refl, sym, take}
use Rattle.std.proofs.lemmas.List.{length-take-le}
use Rattle.inputs.proofs.PackSearchLemmas.{none_looked, open_plain, opened_by}
use Rattle.inputs.proofs.ReadLemmas.{chunk_long, file_front, one_file}
use Rattle.inputs.proofs.LibraryLemmas.{then_read}
use Rattle.inputs.proofs.pack_search.find_pack.Goals as goal

pub loop-count-init : goal.loop-count-init
loop-count-init g c = record {
  library = record { kept = refl; count = omega arith };
  within = omega arith;
  told = λ held is found. none_looked held c.args.file.name.now c.args.file.size found;
}

pub loop-count-preserved : goal.loop-count-preserved
loop-count-preserved g c =
    let into : List ℕ = c.read_at.new.into in
    let chunk = rw c.in-Some.is at ((c.in_ok-count.ensures {u = tt}).chunk) in
    record {
      library = then_read c.loop-count.invariant.library c.read_at.ensures.library;
      within = chunk.within;
      told = λ held is found.
          let so_far = c.loop-count.invariant.told held is found in
          record {
            bytes = so_far.bytes ++ take c.in-Some.count into;
            front = rw c.in-Some.is at
                ((c.in_ok-count.ensures {u = tt}).told held so_far.bytes (c.loop-count.invariant.library.kept ∙ is)
                so_far.front so_far.long);
            long = omega (arith, chunk_long so_far.bytes into chunk, so_far.long);
            unfound = (c.in-NotYet.ensures {u = tt}).opening so_far.bytes so_far.long so_far.unfound;
          };
    }

pub returns-clause-opened : goal.returns-clause-opened
returns-clause-opened g c = λ held is found.
    let so_far = c.loop-count.invariant.told held is found in
    let whole = rw c.in_default.is at
    ((c.in_ok-count.ensures {u = tt}).told held so_far.bytes (c.loop-count.invariant.library.kept ∙ is) so_far.front
    so_far.long) in
    let same : so_far.bytes ≡ so_far.front.whole =
    one_file held c.args.file.name.now so_far.bytes so_far.front.whole whole so_far.front.found in
    record {
      file = so_far.bytes;
      found = whole;
      sized = so_far.front.sized ∙ ap length (sym same);
      pack = open_plain c.loop-count.prefix so_far.bytes so_far.unfound;
      within = tt;
    }

pub returns-in-Pack-clause-opened : goal.returns-in-Pack-clause-opened
returns-in-Pack-clause-opened g c = λ held is found.
    let so_far = c.loop-count.invariant.told held is found in
    let chunk = rw c.in-Some.is at ((c.in_ok-count.ensures {u = tt}).chunk) in
    let place : c.in-Pack.place ≤ c.args.file.size = omega (
      arith,
      (c.in-Pack.ensures {u = tt}).within,
      length-take-le c.in-Some.count c.read_at.new.into chunk.fits,
      chunk.within,
    ) in
    opened_by (file_front (rw c.in-Some.is at
    ((c.in_ok-count.ensures {u = tt}).told held so_far.bytes (c.loop-count.invariant.library.kept ∙ is) so_far.front
    so_far.long))) (Some c.in-Pack.place)
    ((c.in-Pack.ensures {u = tt}).opening so_far.bytes so_far.long so_far.unfound) place

pub returns-in-Other-clause-opened : goal.returns-in-Other-clause-opened
returns-in-Other-clause-opened g c = λ held is found.
    let so_far = c.loop-count.invariant.told held is found in
    opened_by (file_front (rw c.in-Some.is at
    ((c.in_ok-count.ensures {u = tt}).told held so_far.bytes (c.loop-count.invariant.library.kept ∙ is) so_far.front
    so_far.long))) None ((c.in-Other.ensures {u = tt}).opening so_far.bytes so_far.long so_far.unfound) tt
