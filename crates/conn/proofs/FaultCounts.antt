-- The link's count of faults, one call after another.
use Rattle.std.proofs.Common.{◌≡◌, ℕ, ◌≤◌, false, None, Option, Some, refl, sym, ◌∙◌, arith}
use Rattle.std.proofs.lemmas.Bool.{true≢false}
use Rattle.vod_base.specs.IoState.{HasRisen}
use Rattle.interleave.specs.declared.elements.DemuxFault.{DemuxFault}
use Rattle.conn.specs.declared.reports.ConnEnd.{ConnEnd}
use Rattle.conn.specs.declared.reports.ConnEnd.TheVariants.{LinkFault}
use Rattle.conn.specs.Events.{HasCounted, IsEndOf, is_fault}

pub counted_same : (end : Option ConnEnd) (old new : ℕ) → old ≤ new → is_fault end ≡ false → HasCounted end old new
counted_same end old new count none = record { count = count; fault = λ is. absurd (true≢false (sym is ∙ none)) }

pub counted_end : (fault : DemuxFault) (end : ConnEnd) (old new : ℕ) → IsEndOf fault end → old ≤ new
    → HasCounted (Some end) old new
counted_end fault end old new given given' = grind arith

pub counted_fault : (old new : ℕ) → old ≤ new → HasRisen old new → HasCounted (Some LinkFault) old new
counted_fault old new count risen = record { count = count; fault = λ is. risen }

pub counted_on : {end : Option ConnEnd} {a b c : ℕ} → a ≤ b → HasCounted end b c → HasCounted end a c
counted_on {end} {a} {b} {c} first next = grind arith

pub counted_none : (count : ℕ) → HasCounted None count count
counted_none count = counted_same None count count (omega arith) refl
