use Rattle.mpeg_scan.proofs.ScanBoundLemmas.{head-short, head-some, slice-begun, slice-taken}
use Rattle.mpeg_scan.proofs.progress.Progress.take_code.Goals as goal

pub tell-requires-clause-begun : goal.tell-requires-clause-begun
tell-requires-clause-begun g c = λ slice.
    slice-begun (slice-taken {s = c.args.self.now} c.in_ok-judge.ensures.judged slice)

pub tell-requires-clause-head : goal.tell-requires-clause-head
tell-requires-clause-head g c = λ slice none.
    head-some (slice-taken {s = c.args.self.now} c.in_ok-judge.ensures.judged slice) c.requires.room.now

pub tell-requires-clause-short : goal.tell-requires-clause-short
tell-requires-clause-short g c = λ slice none.
    head-short (slice-taken {s = c.args.self.now} c.in_ok-judge.ensures.judged slice) none
