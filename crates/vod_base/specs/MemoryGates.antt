-- A gate in memory as contracts see it.
use Rattle.std.specs.Prelude.{ℕ, Bool, true, List, [], ◌∷◌, map, drop, slice_index_or}
use Rattle.std.specs.Prelude.{Option, Some, None}
use Rattle.vod_base.specs.IoState.{one_more}
use Rattle.vod_base.specs.MemoryLinks.{LinkState}
use Rattle.vod_base.specs.Gates.{LastTake, NoneYet, Gave, NoMore, Failed, ReturnedConn, Part}
use Rattle.vod_base.specs.Gates.{Content, new_part}
use Rattle.vod_base.specs.declared.memory_gates.MemoryPart.{MemoryPart}
use Rattle.vod_base.specs.declared.part_links.TakeResult.{TakeResult}
use Rattle.vod_base.specs.declared.part_links.TakeResult.TheVariants.{Nothing, Link, NoLink, Fault}
use Rattle.vod_base.specs.declared.part_links.PartLinks.{PartLinks}

-- what a link in memory exposes
abbrev pub returned_conn_of : LinkState → ReturnedConn
returned_conn_of link = record { faults = link.faults; told = Some link.told }

abbrev pub last_of : TakeResult → LastTake
last_of Nothing = NoneYet
last_of Link = Gave
last_of NoLink = NoMore
last_of Fault = Failed

-- a share as the part that it represents
abbrev pub part_of : PartLinks → Part
part_of share = record {
  number = share.number;
  given = share.given;
  back = map returned_conn_of (drop share.waiting share.links.items);
  last = last_of share.last;
}

-- what a part is to give: its links, and which of its calls fail
pub record PartScript : Type 0 where
  pub links : List LinkState
  pub failing : List ℕ

abbrev pub script_of : MemoryPart → PartScript
script_of part = record { links = part.links.items; failing = part.failing.items }

-- what is exposed, the scripts of the parts that are still to be split off, the links that are
-- still to be given, whether it is a part, the failing calls, and the counts
pub record GateState : Type 0 where
  pub content : Content
  pub scripts : List PartScript
  pub waiting : List LinkState
  pub is_part : Bool
  pub failing : List ℕ
  pub calls : ℕ
  pub faults : ℕ

-- the state after a call, and after one that failed
abbrev pub gate_called : GateState → GateState
gate_called s = record s { calls = one_more s.calls }

abbrev pub gate_failed : GateState → GateState
gate_failed s = record s { calls = one_more s.calls; faults = one_more s.faults }

-- the script of the next part: the first that is left, or no link and no failing call
abbrev pub first_script : List PartScript → PartScript
first_script [] = record { links = []; failing = [] }
first_script (script ∷ scripts) = script

-- the part that is split off a gate
abbrev pub part_split_off : GateState → GateState
part_split_off s = record {
  content = new_part s.content;
  scripts = [];
  waiting = (first_script s.scripts).links;
  is_part = true;
  failing = (first_script s.scripts).failing;
  calls = 0;
  faults = 0;
}

-- those that came back of a part that is back
abbrev pub back_of_part : Option Part → List ReturnedConn
back_of_part (Some part) = part.back
back_of_part None = []

-- those that the part of a number got back; none while it is out
abbrev pub back_of : Content → ℕ → List ReturnedConn
back_of content number = back_of_part (slice_index_or content.parts number None)
