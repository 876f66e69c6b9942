-- The first start code of a file, looked for from its start on.
use Rattle.std.specs.Prelude.{◌≡◌, ℕ, ◌≤◌, List, [], ◌++◌, Some, None}
use Rattle.mpeg_scan.specs.declared.codes.Prefix.{Prefix}
use Rattle.mpeg_scan.specs.StartCodes.{codes_of, latest_prefix, read_after}
use Rattle.inputs.specs.Videos.{pack_in}
use Rattle.inputs.specs.declared.pack_search.FirstCode.{FirstCode}
use Rattle.inputs.specs.declared.pack_search.FirstCode.TheVariants.{NotYet, Pack, Other}

-- no start code stands among these bytes, which end with so much of a prefix
pub record HasNoCode (prefix : Prefix) (seen : List ℕ) : Type 0 where
  pub none : codes_of (read_after [] seen) ≡ []
  pub prefix_is : prefix ≡ latest_prefix (read_after [] seen)

-- what these bytes show of the first start code, whatever follows them
abbrev pub IsFirstCode : FirstCode → List ℕ → Type 0
IsFirstCode (NotYet prefix) seen = HasNoCode prefix seen
IsFirstCode (Pack place) seen = (more : List ℕ) → pack_in (seen ++ more) ≡ Some place
IsFirstCode Other seen = (more : List ℕ) → pack_in (seen ++ more) ≡ None

-- a place that was found is at most this one
abbrev pub IsFoundBy : ℕ → FirstCode → Type 0
IsFoundBy end (NotYet prefix) = Unit {0}
IsFoundBy end (Pack place) = place ≤ end
IsFoundBy end Other = Unit {0}
