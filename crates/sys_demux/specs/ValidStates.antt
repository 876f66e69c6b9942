-- Which places an unwrapper can be at.
use Rattle.std.specs.Prelude.{ℕ, ◌&&◌, Bool, true, nat_lt, nat_le}
use Rattle.sys_demux.specs.declared.headers.Header.{Header}
use Rattle.sys_demux.specs.declared.headers.Header.TheVariants.{Stuffing, Second, Stamp, Rest}
use Rattle.sys_demux.specs.declared.parser_states.ParserState.{ParserState}
use Rattle.sys_demux.specs.declared.parser_states.ParserState.TheVariants.{Zeros, Value, Mark, High}
use Rattle.sys_demux.specs.declared.parser_states.ParserState.TheVariants.{Low, InHeader, Pass}
use Rattle.sys_demux.specs.declared.parser_states.ParserState.TheVariants.{Video, End, Failed}

-- the fewest bytes that the rest of a content has there
abbrev pub least_rest : Header → ℕ
least_rest (Stuffing count) = 1
least_rest Second = 2
least_rest Stamp = 1
least_rest (Rest count) = count

-- a header that isn't complete, and a packet that has bytes enough for it; an item that has bytes
-- to come
abbrev pub is_sound : ParserState → Bool
is_sound (Zeros _) = true
is_sound Value = true
is_sound Mark = true
is_sound (High value) = true
is_sound (Low value high) = true
is_sound (InHeader header left) = nat_lt 0 (least_rest header) && nat_le (least_rest header) left
is_sound (Pass left) = nat_lt 0 left
is_sound (Video left) = nat_lt 0 left
is_sound End = true
is_sound (Failed fault) = true
