-- Pictures that were read are within the limits of their curves.
use Rattle.std.proofs.Common.{◌≡◌, ℕ, zero, suc, ◌≤◌, List, sym, subst, arith}
use Rattle.mpeg_scan.specs.PictureRates.{picture_time}
use Rattle.wire_curve.specs.FilmCurves.{IsWithinLimits}
use Rattle.inputs.specs.WireSizes.{AreSizesWithin}
use Rattle.cli_args.specs.Invocations.{ClientParams}
use Rattle.cli_args.specs.ArgumentText.{IsValidBuffer, IsValidSlot, IsValidDelay}
use Rattle.offline_commands.specs.Pictures.{MayHaveCurves}
use Rattle.offline_commands.specs.Plans.{Pictures, timing_of}

record HasBounds (time : ℕ) : Type 0 where
  some : 1 ≤ time
  fits : time ≤ 360000

-- the time of a picture of each rate code
time_bounds : (rate : ℕ) → 1 ≤ rate → rate ≤ 8 → HasBounds (picture_time rate)
time_bounds zero low high = absurd (omega (arith, low))
time_bounds (suc zero) low high =
    let e : suc zero ≡ 1 =
    omega arith in subst (λ n. HasBounds (picture_time n)) (sym e) (record { some = omega arith; fits = omega arith })
time_bounds (suc (suc zero)) low high =
    let e : suc (suc zero) ≡ 2 =
    omega arith in subst (λ n. HasBounds (picture_time n)) (sym e) (record { some = omega arith; fits = omega arith })
time_bounds (suc (suc (suc zero))) low high =
    let e : suc (suc (suc zero)) ≡ 3 =
    omega arith in subst (λ n. HasBounds (picture_time n)) (sym e) (record { some = omega arith; fits = omega arith })
time_bounds (suc (suc (suc (suc zero)))) low high =
    let e : suc (suc (suc (suc zero))) ≡ 4 =
    omega arith in subst (λ n. HasBounds (picture_time n)) (sym e) (record { some = omega arith; fits = omega arith })
time_bounds (suc (suc (suc (suc (suc zero))))) low high =
    let e : suc (suc (suc (suc (suc zero)))) ≡ 5 =
    omega arith in subst (λ n. HasBounds (picture_time n)) (sym e) (record { some = omega arith; fits = omega arith })
time_bounds (suc (suc (suc (suc (suc (suc zero)))))) low high =
    let e : suc (suc (suc (suc (suc (suc zero))))) ≡ 6 =
    omega arith in subst (λ n. HasBounds (picture_time n)) (sym e) (record { some = omega arith; fits = omega arith })
time_bounds (suc (suc (suc (suc (suc (suc (suc zero))))))) low high =
    let e : suc (suc (suc (suc (suc (suc (suc zero)))))) ≡ 7 =
    omega arith in subst (λ n. HasBounds (picture_time n)) (sym e) (record { some = omega arith; fits = omega arith })
time_bounds (suc (suc (suc (suc (suc (suc (suc (suc zero)))))))) low high =
    let e : suc (suc (suc (suc (suc (suc (suc (suc zero))))))) ≡ 8 =
    omega arith in subst (λ n. HasBounds (picture_time n)) (sym e) (record { some = omega arith; fits = omega arith })
time_bounds (suc (suc (suc (suc (suc (suc (suc (suc (suc n))))))))) low high = absurd (omega (arith, high))

pub film_limits : (rate slot : ℕ) (sizes : List ℕ) → AreSizesWithin rate sizes → IsValidSlot slot →
    MayHaveCurves (record { sizes = sizes; picture_units = picture_time rate; slot_units = slot })
film_limits rate slot sizes within slot_fits =
    let time : HasBounds (picture_time rate) = time_bounds rate within.slowest within.fastest in
    record {
      few = within.few;
      few_bytes = within.few_bytes;
      some_picture_units = time.some;
      picture_units_fit = time.fits;
      some_slot_units = omega (arith, slot_fits.0);
      slot_units_fit = slot_fits.1;
    }

pub limits_of : (viewer : ClientParams) (pictures : Pictures) → MayHaveCurves pictures → IsValidBuffer viewer.buffer
    → IsValidDelay viewer.delay → IsWithinLimits pictures.sizes (timing_of viewer pictures)
limits_of viewer pictures within buffer delay = record {
  some_picture_units = within.some_picture_units;
  picture_units_fit = within.picture_units_fit;
  some_slot_units = within.some_slot_units;
  slot_units_fit = within.slot_units_fit;
  few_pictures = within.few;
  delay_fits = delay.1;
  some_buffer = buffer.0;
  buffer_fits = buffer.1;
  total_fits = omega (arith, within.few_bytes);
  played_was_sent = omega arith;
  sent_of_total = omega arith;
  sent_fits_buffer = omega arith;
}
