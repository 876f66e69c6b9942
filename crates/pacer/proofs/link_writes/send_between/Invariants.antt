use Rattle.std.proofs.Common.{◌≡◌, ℕ, ◌-◌, ◌≤◌}
use Rattle.vod_base.specs.Links.{told_more, sends}
use Rattle.pacer.specs.Boundaries.{bytes_between}
use Rattle.pacer.proofs.link_writes.send_between.Given as goal

-- the bytes up to a place were sent
pub record SentUpTo (from at to : ℕ) (faults_old faults : ℕ) (is_told : Type 0) : Type 0 where
  pub least : from ≤ at
  pub most : at ≤ to
  pub count : faults_old ≤ faults
  pub told : is_told

abbrev pub invariant-loop-at : goal.invariant-loop-at
invariant-loop-at g l =
    SentUpTo l.from l.at l.to (g.K.Link.faults l.initial.link) (g.K.Link.faults l.link)
    (g.K.Link.told l.link
    ≡ told_more (g.K.Link.told l.initial.link) (sends (bytes_between (g.T.Track.pieces l.track) l.from l.at)))

abbrev pub decreases-loop-at : goal.decreases-loop-at
decreases-loop-at g l = l.to - l.at
