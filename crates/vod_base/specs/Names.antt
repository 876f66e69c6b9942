-- Names of films, traces, certificates and scripts.
use Rattle.std.specs.Prelude.{◌≢◌, ℕ, ◌<◌, ◌≤◌, Bool, not, ◌&&◌, ◌||◌, ◌==◌, nat_lt, nat_le}
use Rattle.std.specs.Prelude.{List, length, slice_index, codes}
use Rattle.std.specs.List.{list_all}
use Rattle.std.specs.Char.{is_ascii_alphanumeric}

-- a letter, a digit, '.', '_' or '-'
abbrev pub is_name_byte : ℕ → Bool
is_name_byte b = is_ascii_alphanumeric b || (b == 46) || (b == 95) || (b == 45)

-- 1 to 64 such bytes, the first not '.'
abbrev pub good_name : List ℕ → Bool
good_name name = nat_lt 0 (length name) && nat_le (length name) 64
    && not (slice_index name 0 == 46) && list_all is_name_byte name

-- a text that is safe as the name of a file in a folder: 1 to 64 printable bytes, among them no
-- blank, no `/` and no backslash, and not the folder itself or the one above it
pub record IsPlainFileName (name : List ℕ) : Type 0 where
  pub some : 1 ≤ length name
  pub short : length name ≤ 64
  pub printable : (k : ℕ) → k < length name →
      (33 ≤ slice_index name k) × (slice_index name k ≤ 126)
  pub one_part : (k : ℕ) → k < length name →
      (slice_index name k ≢ 47) × (slice_index name k ≢ 92)
  pub not_here : name ≢ codes "."
  pub not_above : name ≢ codes ".."
