-- What is remembered about the first element, so that no head is read again and again.
use Rattle.std.specs.Prelude.{◌≡◌, ℕ, ◌<◌, ◌≤◌, List, length}
use Rattle.interleave.specs.declared.message_heads.TheConstants.{MAX_HEAD_BYTES}
use Rattle.interleave.specs.Heads.{HasNoHead}
use Rattle.interleave.specs.Elements.{IsMessageLength}
use Rattle.interleave.specs.declared.message_heads.HeadSearch.{HeadSearch}
use Rattle.interleave.specs.declared.message_heads.HeadSearch.TheVariants.{Searched, Length}

-- no empty line ends among the bytes that were searched; or the request's length is this
abbrev pub IsHeadSearch : List ℕ → HeadSearch → Type 0
IsHeadSearch bytes (Searched to) = (to ≤ length bytes) × (to ≤ MAX_HEAD_BYTES) × HasNoHead bytes to
IsHeadSearch bytes (Length total) = IsMessageLength bytes total

-- all that the bytes show is known: no empty line ends among all of them, which are fewer than a
-- head may have, or the request's length
abbrev pub IsSettled : List ℕ → HeadSearch → Type 0
IsSettled bytes (Searched to) = (to ≡ length bytes) × (to < MAX_HEAD_BYTES) × HasNoHead bytes to
IsSettled bytes (Length total) = IsMessageLength bytes total
