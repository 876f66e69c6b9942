-- The range of the start that is read in a reply to PLAY.
use Rattle.std.proofs.Common.{◌≡◌, ℕ, ◌+◌, ◌≤◌, ◌&&◌, nat_le, List, Option, Some, None, ap, subst, ◌∙◌, codes}
use Rattle.std.specs.Prelude.{option_and_then}
use Rattle.std.proofs.lemmas.Bool.{and_from, and_parts, cond-true, le-leb, leb-true}
use Rattle.std.proofs.lemmas.Option.{cond_some}
use Rattle.vod_base.specs.declared.links.TheConstants.{LATEST_SLOT}
use Rattle.rtsp_client.specs.Replies.{number_in, play_start, start_within}

within-of : (found : Option ℕ) (start : ℕ) → option_and_then start_within found ≡ Some start
    → (1 ≤ start) × (start ≤ LATEST_SLOT + 1)
within-of None start is = cc
within-of (Some n) start is =
    let parts = cond_some (nat_le 1 n && nat_le n (LATEST_SLOT + 1)) n start is in
    let both = and_parts (nat_le 1 n) (nat_le n (LATEST_SLOT + 1)) parts.0 in
    subst (λ m. (1 ≤ m) × (m ≤ LATEST_SLOT + 1)) parts.1 (leb-true 1 n both.0, leb-true n (LATEST_SLOT + 1) both.1)

pub start-within : (message : List ℕ) (start : ℕ) → play_start message ≡ Some start
    → (1 ≤ start) × (start ≤ LATEST_SLOT + 1)
start-within message start is = within-of (number_in message (codes "x-Start")) start is

pub start-read : (message : List ℕ) (start : ℕ) → number_in message (codes "x-Start") ≡ Some start → 1 ≤ start
    → start ≤ LATEST_SLOT + 1 → play_start message ≡ Some start
start-read message start is some most =
    ap (option_and_then start_within) is
    ∙ cond-true (nat_le 1 start && nat_le start (LATEST_SLOT + 1)) (Some start) None
    (and_from (nat_le 1 start) (nat_le start (LATEST_SLOT + 1)) (le-leb 1 start some)
    (le-leb start (LATEST_SLOT + 1) most))
