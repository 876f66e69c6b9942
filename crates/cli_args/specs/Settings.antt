-- Settings: arguments `key=value`, split at their first '='. Their order is free, and each key
-- comes at most once, except those that say otherwise.
use Rattle.std.specs.Prelude.{ℕ, Bool, true, false, ◌&&◌, ◌==◌, if◌then◌else◌, nat_lt, List, []}
use Rattle.std.specs.Prelude.{◌∷◌, length, Option, Some, None, map, flat_map, string_bytes, String}
use Rattle.std.specs.Global.{Global}
use Rattle.std.specs.List.{before_first, after_first, position_or_len}
use Rattle.std.specs.Option.{option_to_list}
use Rattle.std.specs.Str.{bytes_eq}
use Rattle.vod_base.specs.Limits.{in_range}
use Rattle.vod_base.specs.Names.{good_name}
use Rattle.vod_base.specs.Numbers.{number_of}

-- arguments as the bytes of their texts
abbrev pub texts : List (String Global) → List (List ℕ)
texts words = map string_bytes words

-- the value that an argument gives to a key
abbrev pub setting_value : List ℕ → List ℕ → Option (List ℕ)
setting_value key word =
    if nat_lt (position_or_len (λ b. b == 61) word) (length word)
    && bytes_eq (before_first (λ b. b == 61) word) key
    then Some (after_first (λ b. b == 61) word) else None

-- the values that arguments give to a key, in order
abbrev pub values_of : List ℕ → List (List ℕ) → List (List ℕ)
values_of key words = flat_map (λ word. option_to_list (setting_value key word)) words

-- no value was given
abbrev pub is_absent : List (List ℕ) → Bool
is_absent [] = true
is_absent (value ∷ values) = false

-- a name that was given once, where it is a good one
abbrev pub one_name : List (List ℕ) → Option (List ℕ)
one_name [] = None
one_name (value ∷ []) = if good_name value then Some value else None
one_name (value ∷ other ∷ others) = None

-- a number that was given once, in its range
abbrev pub one_number : ℕ → ℕ → List (List ℕ) → Option ℕ
one_number least most [] = None
one_number least most (value ∷ []) = in_range least most (number_of value)
one_number least most (value ∷ other ∷ others) = None

-- the same, where without a value the default holds
abbrev pub number_or : ℕ → ℕ → ℕ → List (List ℕ) → Option ℕ
number_or default least most [] = Some default
number_or default least most (value ∷ values) = one_number least most (value ∷ values)
