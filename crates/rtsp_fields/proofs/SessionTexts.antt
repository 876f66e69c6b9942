-- The id of a session is read back, alone and with parameters after it.
use Rattle.std.proofs.Common.{◌≡◌, ℕ, ◌-◌, ◌<◌, true, false, List, ◌∷◌, ◌++◌, length, get_or, refl, ap, ◌∙◌, arith}
use Rattle.std.specs.List.{list_all}
use Rattle.std.specs.Char.{is_ascii_alphanumeric}
use Rattle.std.proofs.lemmas.List.{take_at, take_all}
use Rattle.std.proofs.lemmas.List.Folds.{list_all_at}
use Rattle.std.proofs.lemmas.Grind.{common_steps}
use Rattle.vod_base.specs.Blanks.{is_blank, without_blanks}
use Rattle.rtsp_fields.specs.SeparatedParts.{in_lower_case}
use Rattle.rtsp_fields.specs.SessionIds.{IsSession}
use Rattle.rtsp_fields.proofs.SeparatedTexts.{text_of, part_first, part_whole, kind_other, none_from}
use Rattle.rtsp_fields.proofs.TransportTexts.{bare}

letter_at : (text : List ℕ) (k : ℕ) → list_all is_ascii_alphanumeric text ≡ true → k < length text
    → is_ascii_alphanumeric (get_or text k 0) ≡ true
letter_at text k all inside = grind (arith, common_steps, list_all_at)

letter_blank : (b : ℕ) → is_ascii_alphanumeric b ≡ true → is_blank b ≡ false
letter_blank b letter = grind arith

id_bare : (id : List ℕ) → list_all is_ascii_alphanumeric id ≡ true → 0 < length id → without_blanks id ≡ id
id_bare id all some =
    bare id some (letter_blank (get_or id 0 0) (letter_at id 0 all some))
    (letter_blank (get_or id (length id - 1) 0) (letter_at id (length id - 1) all (omega (arith, some))))

pub id_read : (id : List ℕ) → list_all is_ascii_alphanumeric id ≡ true → 0 < length id → IsSession id id
id_read id all some = record {
  end = length id;
  first = (part_whole 59 id (none_from 59 id (kind_other is_ascii_alphanumeric 59 id refl all))).end;
  same = ap (λ (t : List ℕ). in_lower_case (without_blanks t)) (take_all (length id) id (omega arith))
      ∙ ap in_lower_case (id_bare id all some);
}

pub id_read_before : (id rest : List ℕ) → list_all is_ascii_alphanumeric id ≡ true → 0 < length id
    → IsSession (id ++ 59 ∷ rest) id
unfolding text_of
id_read_before id rest all some = record {
  end = length id;
  first = (part_first 59 id rest (none_from 59 id (kind_other is_ascii_alphanumeric 59 id refl all))).end;
  same = ap (λ (t : List ℕ). in_lower_case (without_blanks t)) (take_at id (59 ∷ rest) (length id) refl)
      ∙ ap in_lower_case (id_bare id all some);
}
