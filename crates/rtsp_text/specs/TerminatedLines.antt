-- Lines with their ends, LF or CR LF (RFC 2326 section 4).
use Rattle.std.specs.Prelude.{◌≡◌, ◌≢◌, ℕ, ◌-◌, ◌<◌, ◌⊎◌, ◌++◌, true, List, [], ◌∷◌, length}
use Rattle.std.specs.Prelude.{flat_map, slice_index}
use Rattle.rtsp_text.specs.Lines.{is_one_line}

-- a line as it is sent: its text, and the bytes that end it
pub record EndedLine : Type 0 where
  pub text : List ℕ
  pub end : List ℕ

-- its bytes
abbrev pub line_bytes : EndedLine → List ℕ
line_bytes line = line.text ++ line.end

-- the text has no LF; it is ended by CR LF, or by LF alone where its last byte is no CR
pub record IsEnded (line : EndedLine) : Type 0 where
  pub one_line : is_one_line line.text ≡ true
  pub end_is : (line.end ≡ 13 ∷ 10 ∷ []) ⊎ ((line.end ≡ 10 ∷ [])
      × (0 < length line.text → slice_index line.text (length line.text - 1) ≢ 13))

-- the same, and the text isn't empty
pub record IsHeader (line : EndedLine) : Type 0 where
  pub is_ended : IsEnded line
  pub some : 0 < length line.text

-- the same, and the text is empty
pub record IsEmpty (line : EndedLine) : Type 0 where
  pub is_ended : IsEnded line
  pub none : line.text ≡ []

-- a first line, the header lines, and the last one
abbrev pub head_bytes : EndedLine → List EndedLine → EndedLine → List ℕ
head_bytes first headers last = line_bytes first ++ flat_map line_bytes headers ++ line_bytes last
