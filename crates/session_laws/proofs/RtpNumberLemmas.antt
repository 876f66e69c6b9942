-- Numbers go on from what was sent before.
use Rattle.std.proofs.Common.{◌≡◌, ℕ, List, Option, Some, None, ap, arith}
use Rattle.session.proofs.SharedTerms.{Counts, counts_after, FramedRun, frames_before, GoesOn, identity_of}
use Rattle.session.proofs.SharedTerms.{IsPlannedRun, octets_before, Run, SessionState, Setup, Span, Stored}
use Rattle.session.proofs.SharedTerms.{StreamSource}
use Rattle.session.specs.declared.plans.Planned.{Planned}
use Rattle.rtsp_fields.specs.declared.ranges.Origin.TheVariants.{Now}
use Rattle.session.specs.Laws.{Resumes}

pub identity_goes_on : (source : StreamSource) (setup : Setup) (counts : Counts) (sending : FramedRun) (bytes : ℕ)
    → GoesOn (identity_of source setup counts) (identity_of source setup (counts_after counts sending bytes))
    (frames_before sending bytes) (octets_before sending bytes)
identity_goes_on source setup counts sending bytes = grind arith

-- a play whose Range begins now goes on in the paused run
pub goes_on_from_now : {stored : Stored} {setup : Setup} {paused : Run} {range : Option (List ℕ)} {planned : Planned}
    (old : SessionState) (is : IsPlannedRun old stored setup (Some paused) range planned) → is.asked.span.from ≡ Now
    → Resumes old paused planned
goes_on_from_now {stored} {setup} {paused} old is now = grind arith

pub resumes : (old : SessionState) (stored : Stored) (setup : Setup) (paused : Run) (planned : Planned)
    → IsPlannedRun old stored setup (Some paused) None planned → Resumes old paused planned
resumes old stored setup paused planned is = goes_on_from_now old is (ap (λ (s : Span). s.from) is.asked.is_span)
