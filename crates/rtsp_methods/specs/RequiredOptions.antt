-- The options that a request requires (RFC 2326 sections 12.27 and 12.32).
use Rattle.std.specs.Prelude.{ℕ, List, [], Option, Some, None, codes}
use Rattle.rtsp_text.specs.Fields.{header_value}

abbrev pub first_of : Option (List ℕ) → Option (List ℕ) → Option (List ℕ)
first_of None other = other
first_of (Some value) other = Some value

-- the options that a request requires
abbrev pub required_of : List ℕ → Option (List ℕ)
required_of head = first_of (header_value head (codes "Require"))
    (header_value head (codes "Proxy-Require"))

-- the options that are required, as a reply repeats them
abbrev pub or_nothing : Option (List ℕ) → List ℕ
or_nothing None = []
or_nothing (Some value) = value

abbrev pub option_of : List ℕ → List ℕ
option_of head = or_nothing (required_of head)
