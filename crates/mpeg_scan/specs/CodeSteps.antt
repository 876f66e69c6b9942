-- What one code more makes of each word on the codes, and what the scanner keeps.
use Rattle.std.specs.Prelude.{ℕ, ◌+◌, ◌==◌, ◌&&◌, ◌||◌, Bool, true, false, not, List, []}
use Rattle.std.specs.Prelude.{◌∷◌, Option, Some, None, if◌then◌else◌, nat_lt}
use Rattle.mpeg_scan.specs.declared.codes.Code.{Code}
use Rattle.mpeg_scan.specs.declared.faults.FilmFault.{FilmFault}
use Rattle.mpeg_scan.specs.declared.progress.Progress.{Progress}
use Rattle.mpeg_scan.specs.declared.tallies.Header.{Header}
use Rattle.mpeg_scan.specs.Tallies.{Tally}
use Rattle.mpeg_scan.specs.CodeFacts.{is_head, is_slice, rate_after, header_of}
use Rattle.mpeg_scan.specs.FilmFaults.{first_refusal, header_fault, code_fault, last_fault}

abbrev pub next_begins : Tally → ℕ → Bool
next_begins t value = not t.begun || (is_head value && nat_lt 0 t.slices)

abbrev pub next_rate : Tally → Code → Option ℕ
next_rate t c = rate_after t.rate c

abbrev pub next_unit : Tally → Code → ℕ
next_unit t c = if next_begins t c.value then c.place else t.unit

abbrev pub next_picture : Tally → Code → Option Header
next_picture t c =
    if c.value == 0 then Some (header_of c) else (if next_begins t c.value then None else t.picture)

abbrev pub next_pictures : Tally → Code → ℕ
next_pictures t c = if c.value == 0 then t.pictures + 1 else t.pictures

abbrev pub next_before_group : Tally → Code → ℕ
next_before_group t c = if c.value == 0xb8 then t.pictures else t.before_group

abbrev pub next_slices : Tally → Code → ℕ
next_slices t c =
    if is_head c.value then 0 else (if is_slice c.value then t.slices + 1 else t.slices)

abbrev pub next_all_slices : Tally → Code → ℕ
next_all_slices t c = if is_slice c.value then t.all_slices + 1 else t.all_slices

abbrev pub next_head_end : Tally → Code → ℕ
next_head_end t c =
    if is_slice c.value && t.slices == 0 then c.place
    else (if is_head c.value then 0 else t.head_end)

abbrev pub next_slice : Tally → Code → ℕ
next_slice t c = if is_slice c.value then c.place else (if is_head c.value then 0 else t.slice)

abbrev pub next_has_sequence : Tally → Code → Bool
next_has_sequence t c =
    if c.value == 0xb3 then true else (if next_begins t c.value then false else t.has_sequence)

abbrev pub next_starts_group : Tally → Code → Bool
next_starts_group t c =
    if c.value == 0xb8 || not t.begun then true
    else (if next_begins t c.value then false else t.starts_group)

-- the tally after a code
unfoldable pub next : Tally → Code → Tally
next t c = record {
  begun = true;
  rate = next_rate t c;
  unit = next_unit t c;
  picture = next_picture t c;
  pictures = next_pictures t c;
  before_group = next_before_group t c;
  slices = next_slices t c;
  all_slices = next_all_slices t c;
  head_end = next_head_end t c;
  slice = next_slice t c;
  has_sequence = next_has_sequence t c;
  starts_group = next_starts_group t c;
}

-- the tally with the latest code, of which the scanner keeps the header bytes apart
abbrev pub tally_with : Option Code → Tally → Tally
tally_with None t = t
tally_with (Some c) t = next t c

-- that of what was read
abbrev pub tally_now : Progress → Tally
tally_now s = tally_with s.latest s.tally

abbrev pub latest_header_fault : Option Code → Option ℕ → ℕ → Option FilmFault
latest_header_fault None rate end = None
latest_header_fault (Some c) rate end = header_fault rate c end

-- the refusal at a code, from what the scanner keeps
unfoldable pub code_judgement : Option Code → Tally → ℕ → ℕ → Option FilmFault
code_judgement latest t place value =
    first_refusal (latest_header_fault latest t.rate place)
    (code_fault (tally_with latest t) place value)

-- the refusal at the film's end, from what the scanner keeps
unfoldable pub end_judgement : Option Code → Tally → ℕ → Option FilmFault
end_judgement latest t end =
    first_refusal (latest_header_fault latest t.rate end) (last_fault (tally_with latest t))

-- the same from what was read
abbrev pub judgement : Progress → ℕ → ℕ → Option FilmFault
judgement s place value = code_judgement s.latest s.tally place value

abbrev pub last_judgement : Progress → Option FilmFault
last_judgement s = end_judgement s.latest s.tally s.fed

-- the latest code, and those before it
abbrev pub latest_of : List Code → Option Code
latest_of [] = None
latest_of (c ∷ past) = Some c

abbrev pub older_of : List Code → List Code
older_of [] = []
older_of (c ∷ past) = past
