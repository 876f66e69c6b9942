use Rattle.std.proofs.Common.{◌≤◌, ◌++◌, length, length-append, take, arith, ap, inl, inr}
use Rattle.inputs.proofs.ScanLemmas.{handed_on}
use Rattle.inputs.proofs.streams.unwrap_part.Goals as goal

pub returns-clause-next : goal.returns-clause-next
returns-clause-next g c = λ seen so_far.
    let few : length c.in_ok-fed.fed.video.now ≤ length (take c.in_ok-fed.fed.taken c.args.chunk.now) =
    elim ((c.in_ok-fed.ensures {u = tt}).video)
    [ inl none ↦ omega (arith, ap length none) | inr all ↦ omega (arith, ap length all) ] in
    let more = c.in_ok-fed.fed.video.now in
    let part = take c.in_ok-fed.fed.taken c.args.chunk.now in
    record {
      video = so_far.video ++ more;
      fed = (c.in_ok-fed.ensures {u = tt}).next seen so_far.video so_far.fed;
      few = omega (arith, so_far.few, few, length-append so_far.video more, length-append seen part);
      taken = (c.in_ok-take_video.ensures {u = tt}).taken so_far.video so_far.taken;
    }

pub returns-in_err-fed-clause-refused : goal.returns-in_err-fed-clause-refused
returns-in_err-fed-clause-refused g c = λ seen so_far.
    handed_on _ c.from_residual.result c.from_residual.ensures.1
    ((c.in_err-fed.ensures {u = tt}).fault seen so_far.video so_far.fed)

pub returns-in_err-take_video-clause-refused : goal.returns-in_err-take_video-clause-refused
returns-in_err-take_video-clause-refused g c = λ seen so_far.
    handed_on _ c.from_residual-in_err-take_video.result c.from_residual-in_err-take_video.ensures.1 tt
