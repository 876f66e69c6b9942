-- Normal play times (RFC 2326 section 3.6), in nanoseconds.
use Rattle.std.specs.Prelude.{◌≡◌, ℕ, ◌+◌, ◌-◌, ◌*◌, ◌^◌, ◌<◌, ◌≤◌, ◌⊎◌, true, List, length, take}
use Rattle.std.specs.Prelude.{slice_range}
use Rattle.std.specs.List.{list_all}
use Rattle.std.specs.Char.{is_ascii_digit}
use Rattle.std.specs.Str.Parse.{digits_value}
use Rattle.vod_base.specs.Numbers.{is_decimal}
use Rattle.rtsp_fields.specs.SeparatedParts.{IsPartEnd}

-- one to `most` digits, which write this number
pub record IsDigits (most : ℕ) (text : List ℕ) (number : ℕ) : Type 0 where
  pub decimal : is_decimal text ≡ true
  pub short : length text ≤ most
  pub value : number ≡ digits_value 10 text

-- hours, minutes and seconds, cut at these colons: 1 to 5 digits, then twice one or two digits up
-- to 59
pub record IsClockAt (text : List ℕ) (first second hours minutes rest : ℕ) : Type 0 where
  pub inside : second < length text
  pub are_hours : IsDigits 5 (take first text) hours
  pub are_minutes : IsDigits 2 (slice_range text (first + 1) second) minutes
  pub are_seconds : IsDigits 2 (slice_range text (second + 1) (length text)) rest
  pub small_minutes : minutes ≤ 59
  pub small_seconds : rest ≤ 59

-- hours, minutes and seconds with `:` between them
pub record IsClock (text : List ℕ) (seconds : ℕ) : Type 0 where
  pub first : ℕ
  pub second : ℕ
  pub hours : ℕ
  pub minutes : ℕ
  pub rest : ℕ
  pub hours_end : IsPartEnd 58 text 0 first
  pub minutes_end : IsPartEnd 58 text (first + 1) second
  pub at : IsClockAt text first second hours minutes rest
  pub seconds_are : seconds ≡ hours * 3600 + minutes * 60 + rest

-- whole seconds: 1 to 9 digits, or hours, minutes and seconds
abbrev pub AreSeconds : List ℕ → ℕ → Type 0
AreSeconds text seconds = IsDigits 9 text seconds ⊎ IsClock text seconds

-- any number of digits after the point, of which the first nine count
pub record IsFraction (text : List ℕ) (nanoseconds : ℕ) : Type 0 where
  pub digits : list_all is_ascii_digit text ≡ true
  pub value : nanoseconds ≡ digits_value 10 (take 9 text) * 10 ^ (9 - length (take 9 text))

-- seconds, and after a point, where one stands, the fraction of a second
pub record IsTime (text : List ℕ) (nanoseconds : ℕ) : Type 0 where
  pub point : ℕ
  pub point_is : IsPartEnd 46 text 0 point
  pub seconds : ℕ
  pub fraction : ℕ
  pub whole : AreSeconds (take point text) seconds
  pub part : ((point ≡ length text) × (fraction ≡ 0))
      ⊎ ((point < length text) × IsFraction (slice_range text (point + 1) (length text)) fraction)
  pub nanoseconds_are : nanoseconds ≡ seconds * 1000000000 + fraction
