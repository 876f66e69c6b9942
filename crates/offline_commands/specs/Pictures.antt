-- Pictures that were read.
use Rattle.std.specs.Prelude.{◌≤◌, ◌^◌, length, sum}
use Rattle.offline_commands.specs.Plans.{Pictures}
use Rattle.offline_commands.specs.declared.curves.Pictures.{Pictures as PicturesRead}

abbrev pub pictures_of : PicturesRead → Pictures
pictures_of pictures =
    record {
      sizes = pictures.sizes.items;
      picture_units = pictures.picture_units;
      slot_units = pictures.slot_units;
    }

-- so few, small and short that they have curves
pub record MayHaveCurves (pictures : Pictures) : Type 0 where
  pub few : length pictures.sizes ≤ 4194304
  pub few_bytes : sum pictures.sizes ≤ 2 ^ 42
  pub some_picture_units : 1 ≤ pictures.picture_units
  pub picture_units_fit : pictures.picture_units ≤ 360000
  pub some_slot_units : 1 ≤ pictures.slot_units
  pub slot_units_fit : pictures.slot_units ≤ 360000
