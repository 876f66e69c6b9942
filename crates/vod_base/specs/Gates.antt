-- What a gate exposes: how it was opened, its parts, and of each part the connections that it gave
-- and that came back.
use Rattle.std.specs.Prelude.{◌≡◌, ℕ, ◌+◌, ◌<◌, List, [], ◌∷◌, ◌++◌, length, slice_index_or}
use Rattle.std.specs.Prelude.{slice_set, Option, Some, None, IsSome}
use Rattle.vod_base.specs.IoState.{one_more}
use Rattle.vod_base.specs.Links.{IoEvent}
use Rattle.vod_base.specs.declared.gates.Opening.{Opening}

-- a connection that was given back: its count of faults, and what it exposed
pub record ReturnedConn : Type 0 where
  pub faults : ℕ
  pub told : Option (List IoEvent)

-- what the last `take` answered: there was none yet, it gave a connection, there were no more, or
-- it failed
pub data LastTake : Type 0 where
  NoneYet : LastTake
  Gave : LastTake
  NoMore : LastTake
  Failed : LastTake

-- one part: which split made it, from 0, how many connections it gave, those that came back, in
-- order, and the last `take`
pub record Part : Type 0 where
  pub number : ℕ
  pub given : ℕ
  pub back : List ReturnedConn
  pub last : LastTake

-- a gate: how often `open` was called, whether it opened the gate or failed, where the count stays
-- at the end of 64 bits; how it was opened, if it is open; for each split since then the part, once
-- it came back; and itself as a part
pub record Content : Type 0 where
  pub openings : ℕ
  pub opening : Option Opening
  pub parts : List (Option Part)
  pub own : Part

abbrev pub IsOpen : Content → Type 0
IsOpen c = IsSome c.opening

-- one more part may be split: the gate is open, and fewer than 256 parts were split since
abbrev pub MaySplit : Content → Type 0
MaySplit c = IsOpen c × (length c.parts < 256)

-- the part of that number was split since the gate was opened, and isn't back yet
abbrev pub IsPartOut : ℕ → Content → Type 0
IsPartOut number c = (number < length c.parts) × (slice_index_or c.parts number None ≡ None)

-- a connection is out: fewer were given back than `take` gave
abbrev pub HasConnOut : Content → Type 0
HasConnOut c = length c.own.back < c.own.given

-- a part that nothing was taken from
abbrev pub fresh_part : ℕ → Part
fresh_part number = record { number = number; given = 0; back = []; last = NoneYet }

-- after an `open`, which is counted: as it was opened, without parts; after one that failed it
-- isn't open
abbrev pub after_open : Option Opening → Content → Content
after_open how c = record c { openings = one_more c.openings; opening = how; parts = [] }

-- after a `split`, and the part that it made
abbrev pub split_off : Content → Content
split_off c = record c { parts = c.parts ++ (None ∷ []) }

abbrev pub new_part : Content → Content
new_part c = record { openings = 0; opening = None; parts = []; own = fresh_part (length c.parts) }

-- after a `take` that gave a connection, and after one that gave none
abbrev pub after_take : Content → Content
after_take c = record c { own = record c.own { given = c.own.given + 1; last = Gave } }

abbrev pub after_empty_take : LastTake → Content → Content
after_empty_take last c = record c { own = record c.own { last = last } }

-- after a connection came back
abbrev pub after_return : ReturnedConn → Content → Content
after_return conn c = record c { own = record c.own { back = c.own.back ++ (conn ∷ []) } }

-- after a part came back
abbrev pub after_rejoin : Part → Content → Content
after_rejoin part c = record c { parts = slice_set c.parts part.number (Some part) }

-- the same of what is exposed of both
abbrev pub told_rejoined : Option Content → Option Content → Option Content
told_rejoined (Some part) (Some c) = Some (after_rejoin part.own c)
told_rejoined None (Some c) = None
told_rejoined part None = None
