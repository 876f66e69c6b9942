-- Seeks by the picture rates.
use Rattle.std.proofs.Common.{ℕ, zero, suc, ◌-◌, ◌*◌, ◌<◌, ◌≤◌, ◌≡◌, length, Option, Some, None, slice_index_or, inl}
use Rattle.std.proofs.Common.{inr, arith, refl, sym, ap, ◌∙◌}
use Rattle.std.proofs.Math.Nat.{mul_left_comm, mul-le-mul_left, le_of_mul-le-mul_left}
use Rattle.std.proofs.lemmas.Bool.{cases_lt}
use Rattle.mpeg_scan.specs.declared.films.Film.{Film}
use Rattle.mpeg_scan.specs.PictureRates.{picture_time}
use Rattle.film_run.specs.declared.runs.Run.{Run}
use Rattle.film_run.specs.Seeks.{IsRequestedRange, IsEnd}
use Rattle.film_run.specs.SeekLaws.{IsEndFor, IsSeekResult, picture_rates}

-- the time of a picture, by the rates
abbrev rate : ℕ → ℕ × ℕ
rate code = slice_index_or picture_rates (code - 1) (1, 1)

-- a number of pictures against a time, in units of 1/360,000 second and by the rates
record Agree (code : ℕ) : Type 0 where
  past : (k time : ℕ) → k * picture_time code * 1000000000 ≤ time * 360000
      → k * (rate code).1 * 1000000000 ≤ time * (rate code).0
  begun : (k time : ℕ) → k * (rate code).1 * 1000000000 ≤ time * (rate code).0
      → k * picture_time code * 1000000000 ≤ time * 360000
  lasts : (k time : ℕ) → time * 360000 ≤ k * picture_time code * 1000000000
      → time * (rate code).0 ≤ k * (rate code).1 * 1000000000
  ended : (k time : ℕ) → time * (rate code).0 ≤ k * (rate code).1 * 1000000000
      → time * 360000 ≤ k * picture_time code * 1000000000

-- the time of a picture and 360,000 are the same multiple of the seconds and the pictures of its rate
record IsRate (code : ℕ) : Type 0 where
  factor : ℕ
  some : 0 < factor
  time_is : picture_time code ≡ factor * (rate code).1
  unit_is : 360000 ≡ factor * (rate code).0

is_rate : (code : ℕ) → 1 ≤ code → code ≤ 8 → IsRate code
is_rate zero least most = absurd (omega arith)
is_rate (suc zero) least most = record { factor = 15; some = omega arith; time_is = refl; unit_is = refl }
is_rate (suc (suc zero)) least most = record { factor = 15000; some = omega arith; time_is = refl; unit_is = refl }
is_rate (suc (suc (suc zero))) least most =
    record { factor = 14400; some = omega arith; time_is = refl; unit_is = refl }
is_rate (suc (suc (suc (suc zero)))) least most =
    record { factor = 12; some = omega arith; time_is = refl; unit_is = refl }
is_rate (suc (suc (suc (suc (suc zero))))) least most =
    record { factor = 12000; some = omega arith; time_is = refl; unit_is = refl }
is_rate (suc (suc (suc (suc (suc (suc zero)))))) least most =
    record { factor = 7200; some = omega arith; time_is = refl; unit_is = refl }
is_rate (suc (suc (suc (suc (suc (suc (suc zero))))))) least most =
    record { factor = 6; some = omega arith; time_is = refl; unit_is = refl }
is_rate (suc (suc (suc (suc (suc (suc (suc (suc zero)))))))) least most =
    record { factor = 6000; some = omega arith; time_is = refl; unit_is = refl }
is_rate (suc (suc (suc (suc (suc (suc (suc (suc (suc code))))))))) least most = absurd (omega arith)

-- a number of pictures and a time, by the rate and in 1/360,000 second
pictures_scaled : {code : ℕ} (its : IsRate code) (k : ℕ) → its.factor * (k * (rate code).1) ≡ k * picture_time code
pictures_scaled {code} its k = mul_left_comm its.factor k (rate code).1 ∙ ap (λ n. k * n) (sym its.time_is)

time_scaled : {code : ℕ} (its : IsRate code) (time : ℕ) → its.factor * (time * (rate code).0) ≡ time * 360000
time_scaled {code} its time = mul_left_comm its.factor time (rate code).0 ∙ ap (λ n. time * n) (sym its.unit_is)

agree : (code : ℕ) → 1 ≤ code → code ≤ 8 → Agree code
agree code least most =
    let its = is_rate code least most in
    record {
      past = λ k time h. le_of_mul-le-mul_left (omega (arith, h, pictures_scaled its k, time_scaled its time)) its.some;
      begun = λ k time h.
          omega (arith, mul-le-mul_left its.factor h, pictures_scaled its k, time_scaled its time);
      lasts = λ k time h.
          le_of_mul-le-mul_left (omega (arith, h, pictures_scaled its k, time_scaled its time)) its.some;
      ended = λ k time h.
          omega (arith, mul-le-mul_left its.factor h, pictures_scaled its k, time_scaled its time);
    }

ended-by : (film : Film) (to : Option ℕ) (first end : ℕ) → Agree film.rate
    → IsEnd film.units.items (picture_time film.rate) to first end
    → IsEndFor film to first end
ended-by film None first end same is = is
ended-by film (Some time) first end same is = record {
  later = is.later;
  lasts = λ inside.
      elim (cases_lt (end * picture_time film.rate * 1000000000) (time * 360000)) [
        | inl early ↦ absurd (is.from_then inside early)
        | inr from ↦ same.lasts end time from
      ];
  group = λ inside. elim is.group [ inl group ↦ group | inr all ↦ absurd (omega arith) ];
  least = λ other later group lasts.
      let from = same.ended other time lasts in
      is.first other later group
      (λ early. let h : other * picture_time film.rate * 1000000000 < time * 360000 = early in omega arith);
}

pub seeks_run : {film : Film} {from : ℕ} {to : Option ℕ} {run : Run} → 1 ≤ film.rate → film.rate ≤ 8
    → IsRequestedRange film from to run
    → IsSeekResult film from to run
seeks_run {film} {from} {to} {run} least most is =
    let same = agree film.rate least most in
    record {
      goes_on = λ past. is.some (inl (same.begun (length film.units.items) from past));
      group = is.begins.group;
      begins = same.past run.first_unit from is.begins.by_then;
      last = λ other group past. is.begins.last other group (same.begun other from past);
      ends = ended-by film to run.first_unit run.end_unit same is.ends;
    }
