use Rattle.std.proofs.Common.{◌+◌, ap, []}
use Rattle.std.specs.Prelude.{flat_map}
use Rattle.std.proofs.lemmas.List.{take_all}
use Rattle.cli_errors.proofs.StreamWriteLemmas.{said_as, said_cut, said_item, said_items_lost, said_lost, said_whole}
use Rattle.cli_errors.proofs.parts.write_parts.Goals as goal

pub returns-in_err-write_all : goal.returns-in_err-write_all
returns-in_err-write_all g c =
    let parts = c.args.parts.now in
    let i = c.loop-part.part-index in
    said_lost c.from_residual.result c.from_residual.ensures.1
    (said_items_lost [] (λ part. part.now) parts (i + 1)
    (said_item [] (λ part. part.now) parts i _ c.loop-part-test.true c.loop-part.invariant
    (said_cut c.write_all.ensures.count ((c.in_err-write_all.ensures {u = tt}).fault)
    ((c.in_err-write_all.ensures {u = tt}).front))))

pub loop-part-preserved : goal.loop-part-preserved
loop-part-preserved g c =
    said_item [] (λ part. part.now) c.args.parts.now c.loop-part.part-index _ c.loop-part-test.true
    c.loop-part.invariant
    (said_whole c.write_all.ensures.count ((c.in_ok-write_all.ensures {u = tt}).whole))

pub returns : goal.returns
returns g c =
    said_as (ap (flat_map (λ part. part.now)) (take_all c.loop-part.part-index c.args.parts.now c.loop-part-test.false))
    c.loop-part.invariant
