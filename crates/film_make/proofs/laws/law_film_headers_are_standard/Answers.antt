use Rattle.std.proofs.Common.{refl}
use Rattle.film_make.proofs.FilmLemmas.{film-begins}
use Rattle.film_make.proofs.laws.law_film_headers_are_standard.Goals as goal

pub returns : goal.returns
unfolding Rattle.film_make.specs.Film.picture_header Rattle.film_make.specs.Film.coding_type
    Rattle.film_make.specs.Film.temporal_reference
returns c = record {
  begins = film-begins;
  sequence = record {
    code = refl;
    horizontal_size = refl;
    vertical_size = refl;
    pel_aspect_ratio = refl;
    picture_rate = refl;
    bit_rate = refl;
    marker_bit = refl;
    vbv_buffer_size = refl;
    no_flag = refl;
  };
  group = record { code = refl; time_code = refl; closed_gop = refl; broken_link = refl };
  types = refl;
  shown = refl;
  forward = refl;
  backward = refl;
}
