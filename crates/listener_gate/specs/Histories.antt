-- What a gate exposes of its connections and its parts, as its notes say.
use Rattle.std.specs.Prelude.{ℕ, ◌+◌, Bool, if◌then◌else◌, List, [], ◌∷◌, ◌++◌, Option, Some, None}
use Rattle.std.specs.Prelude.{slice_set}
use Rattle.vod_base.specs.IoState.{one_more}
use Rattle.vod_base.specs.Links.{IoEvent}
use Rattle.vod_base.specs.Gates.{Content, Part, ReturnedConn, Gave, NoMore, Failed}
use Rattle.vod_base.specs.declared.gates.Opening.{Opening}
use Rattle.listener_gate.specs.declared.histories.PartNote.{PartNote}
use Rattle.listener_gate.specs.declared.histories.PartNote.TheVariants as part
use Rattle.listener_gate.specs.declared.histories.GateNote.{GateNote}
use Rattle.listener_gate.specs.declared.histories.GateNote.TheVariants as gate

-- a connection that came back, by what it exposes
abbrev pub returned : {C : Type 0} → (C → ℕ) → (C → Option (List IoEvent)) → Option C → List
    ReturnedConn
returned faults told None = []
returned faults told (Some conn) = record { faults = faults conn; told = told conn } ∷ []

-- a part after a note, with the connection that the note is of
abbrev pub part_noted : {C : Type 0} → (C → ℕ) → (C → Option (List IoEvent)) → Part → Option C ×
    PartNote → Part
part_noted faults told p (conn, part.Gave) = record p { given = p.given + 1; last = Gave }
part_noted faults told p (conn, part.NoMore) = record p { last = NoMore }
part_noted faults told p (conn, part.Failed) = record p { last = Failed }
part_noted faults told p (conn, part.CameBack) = record p {
  back = p.back ++ returned faults told
      conn;
}

abbrev pub part_after : {C : Type 0} → (C → ℕ) → (C → Option (List IoEvent)) → Part → List (Option C
    × PartNote) → Part
part_after faults told p [] = p
part_after faults told p (n ∷ ns) = part_after faults told (part_noted faults told p n) ns

-- what all parts share: how often the gate was opened, how it is open, and the parts
pub record Shared : Type 0 where
  pub openings : ℕ
  pub opening : Option Opening
  pub parts : List (Option Part)

-- the gate was opened so, or a call failed to open it
abbrev pub shared_opened : Option Opening → Shared → Shared
shared_opened how s = record { openings = one_more s.openings; opening = how; parts = [] }

-- what is shared after a note, with the part that the note is of
abbrev pub shared_noted : {P : Type 0} → (P → Part) → Shared → Option P × GateNote → Shared
shared_noted part_of s (p, gate.Opened how) = shared_opened (Some how) s
shared_noted part_of s (p, gate.NotOpened) = shared_opened None s
shared_noted part_of s (p, gate.Split) = record s { parts = s.parts ++ (None ∷ []) }
shared_noted part_of s (None, gate.CameBack) = s
shared_noted part_of s (Some p, gate.CameBack) = record s {
  parts = slice_set s.parts (part_of
      p).number (Some (part_of p));
}

abbrev pub shared_after : {P : Type 0} → (P → Part) → Shared → List (Option P × GateNote) → Shared
shared_after part_of s [] = s
shared_after part_of s (n ∷ ns) = shared_after part_of (shared_noted part_of s n) ns

-- how many parts were split off since the gate was opened
abbrev pub split_noted : {P : Type 0} → ℕ → Option P × GateNote → ℕ
split_noted count (p, gate.Opened how) = 0
split_noted count (p, gate.NotOpened) = 0
split_noted count (p, gate.Split) = count + 1
split_noted count (p, gate.CameBack) = count

abbrev pub splits_after : {P : Type 0} → ℕ → List (Option P × GateNote) → ℕ
splits_after count [] = count
splits_after count (n ∷ ns) = splits_after (split_noted count n) ns

-- before the first opening
abbrev pub none_shared : Shared
none_shared = record { openings = 0; opening = None; parts = [] }

-- the content, where the listener exposes what it did
abbrev pub content_with : Shared → Part → Content
content_with s own = record {
  openings = s.openings;
  opening = s.opening;
  parts = s.parts;
  own = own;
}

abbrev pub told_if : {A : Type 0} → Bool → A → Option A
told_if tells x = if tells then Some x else None
