use Rattle.session.proofs.ResumedPlayLemmas.{goes_on}
use Rattle.session.proofs.plans.run_and_counts.Goals as goal

pub returns-in-New-clause-goes_on : goal.returns-in-New-clause-goes_on
returns-in-New-clause-goes_on c =
    let wanted = c.requires.wanted.1 in
    rw c.counts_before.ensures (rw c.in-New.is at (goes_on c.args.stored.now c.args.source c.args.setup.now
    c.args.counts c.args.paused wanted.span c.args.wanted c.requires.paused wanted.is_wanted))

pub returns-in-Resumed-clause-goes_on : goal.returns-in-Resumed-clause-goes_on
returns-in-Resumed-clause-goes_on c =
    let wanted = c.requires.wanted.1 in
    rw c.in-Resumed.is at (goes_on c.args.stored.now c.args.source c.args.setup.now
    c.args.counts c.args.paused wanted.span c.args.wanted c.requires.paused wanted.is_wanted)
