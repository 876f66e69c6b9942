-- The Range header in normal play time (RFC 2326 sections 3.6 and 12.29): `npt=FROM-` or
-- `npt=FROM-TO`.
use Rattle.std.specs.Prelude.{◌≡◌, ℕ, ◌+◌, ◌<◌, List, [], length, codes, slice_range, Option, Some}
use Rattle.std.specs.Prelude.{None}
use Rattle.rtsp_fields.specs.SeparatedParts.{IsPartEnd, Begins, in_lower_case}
use Rattle.rtsp_fields.specs.NptTimes.{IsTime}
use Rattle.rtsp_fields.specs.declared.ranges.Origin.{Origin}
use Rattle.rtsp_fields.specs.declared.ranges.Origin.TheVariants.{Now, At}
use Rattle.rtsp_fields.specs.declared.ranges.Span.{Span}

-- `now`, in lower case, or a time
abbrev pub IsOrigin : List ℕ → Origin → Type 0
IsOrigin text Now = text ≡ codes "now"
IsOrigin text (At time) = IsTime text time

-- nothing, or a time
abbrev pub IsLimit : List ℕ → Option ℕ → Type 0
IsLimit text None = text ≡ []
IsLimit text (Some time) = IsTime text time

-- the value gives this span of play
pub record IsSpan (value : List ℕ) (span : Span) : Type 0 where
  pub unit : Begins (codes "npt=") (in_lower_case value)
  pub dash : ℕ
  pub is_dash : IsPartEnd 45 value (length (codes "npt=")) dash
  pub inside : dash < length value
  pub from : IsOrigin (slice_range value (length (codes "npt=")) dash) span.from
  pub to : IsLimit (slice_range value (dash + 1) (length value)) span.to
