-- Where a gate listens, and how many connections a part of it gives.
use Rattle.std.specs.Prelude.{◌≡◌, ℕ, ◌<◌, List, [], ◌∷◌, if◌then◌else◌, ◌⊎◌}
use Rattle.vod_base.specs.declared.gates.Opening.{Opening}

-- the address: 127.0.0.1, or 0.0.0.0 where connections from other machines are taken too
abbrev pub address_of : Opening → List ℕ
address_of how = if how.all
    then 0 ∷ (0 ∷ (0 ∷ (0 ∷ [])))
    else 127 ∷ (0 ∷ (0 ∷ (1 ∷ [])))

-- of at most so many connections, or any number where that is 0, another may be given after `given`
abbrev pub MayGive : ℕ → ℕ → Type 0
MayGive most given = (most ≡ 0) ⊎ (given < most)

-- all were given
abbrev pub HasGivenAll : ℕ → ℕ → Type 0
HasGivenAll most given = (0 < most) × (given ≡ most)
