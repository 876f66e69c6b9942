use Rattle.std.proofs.Common.{◌∙◌, ℕ, ◌-◌, List, length, take, drop, ap, sym, subst}
use Rattle.sys_demux.specs.SystemStreams.{IsSystem}
use Rattle.inputs.specs.Videos.{pack_in}
use Rattle.inputs.proofs.LoadLemmas.{plain_is, stream_is}
use Rattle.inputs.proofs.films.video_of.Goals as goal

pub returns-in_default-clause-video : goal.returns-in_default-clause-video
returns-in_default-clause-video c =
    plain_is c.args.file.items (ap pack_in (sym c.deref.ensures.value) ∙ sym ((c.in_default.ensures {u = tt}).place))

pub returns-in-Ok-clause-video : goal.returns-in-Ok-clause-video
returns-in-Ok-clause-video c =
    stream_is c.args.file.items c.in-Ok.video.items c.in-Some.from
    (ap pack_in (sym c.deref.ensures.value) ∙ sym ((c.in-Some.ensures {u = tt}).place))
    (subst (λ (l : List ℕ). IsSystem (take (length l - c.in-Some.from) (drop c.in-Some.from l))
    c.in-Ok.video.items) c.deref-2.ensures.value ((c.in-Ok.ensures {u = tt}).video))
