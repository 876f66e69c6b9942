-- The Session header (RFC 2326 sections 3.4 and 12.37): the id, and after a `;` its parameters.
use Rattle.std.specs.Prelude.{◌≡◌, ℕ, List, take}
use Rattle.vod_base.specs.Blanks.{without_blanks}
use Rattle.rtsp_fields.specs.SeparatedParts.{IsPartEnd, in_lower_case}

-- the value's part before its first `;`, without the blanks around it, is this id in any case
pub record IsSession (value id : List ℕ) : Type 0 where
  pub end : ℕ
  pub first : IsPartEnd 59 value 0 end
  pub same : in_lower_case (without_blanks (take end value)) ≡ in_lower_case id
