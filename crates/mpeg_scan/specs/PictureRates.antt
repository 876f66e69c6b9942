-- The time of a picture by the code of its rate (ISO/IEC 11172-2, 2.4.3.2).
use Rattle.std.specs.Prelude.{ℕ, ◌-◌, ◌*◌, ◌≡◌, List, [], ◌∷◌, slice_index_or}

-- the times of the codes from 1 on, in 1/360,000 second
abbrev pub picture_times : List ℕ
picture_times = 15015 ∷ 15000 ∷ 14400 ∷ 12012 ∷ 12000 ∷ 7200 ∷ 6006 ∷ 6000 ∷ []

-- the time of a picture in 1/360,000 second, by the code
abbrev pub picture_time : ℕ → ℕ
picture_time rate = slice_index_or picture_times (rate - 1) 360000

-- so many pictures, each of a time in 1/360,000 second, take so many seconds
abbrev pub TakeSeconds : ℕ → ℕ → ℕ → Type 0
TakeSeconds pictures time seconds = pictures * time ≡ seconds * 360000

-- the table of picture_rate: pictures a second are 24000/1001, 24, 25, 30000/1001, 30, 50,
-- 60000/1001 and 60, for the codes from 1 to 8
pub record AreStandardTimes (time : ℕ → ℕ) : Type 0 where
  pub code_1 : TakeSeconds 24000 (time 1) 1001
  pub code_2 : TakeSeconds 24 (time 2) 1
  pub code_3 : TakeSeconds 25 (time 3) 1
  pub code_4 : TakeSeconds 30000 (time 4) 1001
  pub code_5 : TakeSeconds 30 (time 5) 1
  pub code_6 : TakeSeconds 50 (time 6) 1
  pub code_7 : TakeSeconds 60000 (time 7) 1001
  pub code_8 : TakeSeconds 60 (time 8) 1
