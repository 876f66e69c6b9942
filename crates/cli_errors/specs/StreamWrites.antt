-- What was written on a stream, part by part up to the first fault.
use Rattle.std.specs.Prelude.{◌≡◌, ℕ, ◌≤◌, Bool, true, false, List, ◌++◌, Option, codes, decimal}
use Rattle.vod_base.specs.IoState.{HasRisen, told_more, IsWrittenPrefix}

-- a blank and a number
abbrev pub number_text : ℕ → List ℕ
number_text n = codes " " ++ decimal n

-- a blank, a label, `=` and a number
abbrev pub with_label : List ℕ → ℕ → List ℕ
with_label label number = codes " " ++ label ++ codes "=" ++ decimal number

-- the text was written after what was exposed, and `whole` says whether all of it was; after a
-- fault, which was counted, a prefix of it was
pub record IsTextWritten (faults faults' : ℕ) (told told' : Option (List ℕ)) (text : List ℕ) (whole
    : Bool)
    : Type 0 where
  pub count : faults ≤ faults'
  pub all : whole ≡ true → told' ≡ told_more told text
  pub risen : whole ≡ false → HasRisen faults faults'
  pub front : whole ≡ false → IsWrittenPrefix told told' text
