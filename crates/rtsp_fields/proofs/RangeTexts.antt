-- A Range value, put together, is read back.
use Rattle.std.proofs.Common.{◌≡◌, ℕ, suc, ◌+◌, ◌-◌, ◌*◌, ◌/◌, ◌%◌, ◌^◌, ◌<◌, ◌≤◌, true, List, [], ◌∷◌, ◌++◌, codes}
use Rattle.std.proofs.Common.{decimal, length, take, drop, get_or, slice_range, Some, None, refl, sym, ap, subst, ◌∙◌}
use Rattle.std.proofs.Common.{arith}
use Rattle.std.specs.List.{list_all}
use Rattle.std.specs.Char.{is_ascii_digit}
use Rattle.std.proofs.lemmas.Fmt.{digits_decimal}
use Rattle.std.proofs.lemmas.List.{append_assoc, take_at, drop_at, take_all, length-append, get_or_append_left}
use Rattle.std.proofs.lemmas.List.{get_or-append-add}
use Rattle.vod_base.proofs.DigitLemmas.{decimal_numerals}
use Rattle.rtsp_text.proofs.LineBounds.{all-append}
use Rattle.rtsp_fields.specs.Sdp.{seconds_text}
use Rattle.rtsp_fields.specs.SeparatedParts.{HasNone, in_lower_case}
use Rattle.rtsp_fields.specs.Ranges.{IsLimit, IsOrigin, IsSpan}
use Rattle.rtsp_fields.specs.declared.ranges.Span.{Span}
use Rattle.rtsp_fields.specs.declared.ranges.Origin.TheVariants.{Now, At}
use Rattle.rtsp_fields.proofs.SecondsTexts.{seconds_read}
use Rattle.rtsp_fields.proofs.SeparatedTexts.{kind_other, none_from, other_than}

-- `npt=`, where the span begins, `-`, and where it ends
range_text : List ℕ → List ℕ → List ℕ
range_text from to = codes "npt=" ++ (from ++ 45 ∷ to)

range_long : (from to : List ℕ) → length (range_text from to) ≡ 4 + length from + 1 + length to
unfolding range_text
range_long from to = length-append (codes "npt=") (from ++ 45 ∷ to) ∙ omega (arith, length-append from (45 ∷ to))

at_place : (from to : List ℕ) (k : ℕ) → 4 ≤ k → get_or (from ++ 45 ∷ to) (k - 4) 0 ≡ get_or (range_text from to) k 0
unfolding range_text
at_place from to k low =
    let same : suc (suc (suc (suc (k - 4)))) ≡ k = omega (arith, low) in
    ap (λ n. get_or (codes "npt=" ++ (from ++ 45 ∷ to)) n 0) same

pub span_read : (from to : List ℕ) (span : Span) → list_all (other_than 45) from ≡ true →
    IsOrigin from span.from → IsLimit to span.to →
    IsSpan (codes "npt=" ++ (from ++ 45 ∷ to)) span
unfolding range_text
span_read from to span free begins ends =
    let text = range_text from to in
    let dash = 4 + length from in
    let long = range_long from to in
    let none : HasNone 45 from 0 (length from) = none_from 45 from free in
    let front : slice_range text 4 dash ≡ from = take_at from (45 ∷ to) (dash - 4) (omega arith) in
    let whole : (codes "npt=" ++ from ++ 45 ∷ []) ++ to ≡ text =
    append_assoc (codes "npt=" ++ from) (45 ∷ []) to ∙ append_assoc (codes "npt=") from (45 ∷ to) in
    let size : length (codes "npt=" ++ from ++ 45 ∷ []) ≡ dash + 1 =
    omega (arith, length-append (codes "npt=" ++ from) (45 ∷ []), length-append (codes "npt=") from) in
    let rest : drop (dash + 1) text ≡ to =
    ap (drop (dash + 1)) (sym whole) ∙ drop_at (codes "npt=" ++ from ++ 45 ∷ []) to (dash + 1) size in
    let back : slice_range text (dash + 1) (length text) ≡ to =
    ap (λ (l : List ℕ). take (length text - (dash + 1)) l) rest
    ∙ take_all (length text - (dash + 1)) to (omega (arith, long)) in
    record {
      unit = refl;
      dash = dash;
      is_dash = record {
        after = omega arith;
        within = omega (arith, long);
        none = λ k low below is. none (k - 4) (omega arith) (omega (arith, low, below))
            (sym (get_or_append_left from (45 ∷ to) 0 (k - 4) (omega (arith, low, below))) ∙ at_place from to k low
            ∙ is);
        ends = λ inside.
            sym (at_place from to dash (omega arith))
            ∙ ap (λ n. get_or (from ++ 45 ∷ to) n 0) (let e : dash - 4 ≡ length from + 0 = omega arith in e)
            ∙ get_or-append-add from (45 ∷ to) 0 0;
      };
      inside = omega (arith, long);
      from = subst (λ (t : List ℕ). IsOrigin t span.from) (sym front) begins;
      to = subst (λ (t : List ℕ). IsLimit t span.to) (sym back) ends;
    }

-- a text of seconds has no `-`
number_free : (n : ℕ) → n < 2 ^ 64 → list_all (other_than 45) (decimal n) ≡ true
number_free n fits = kind_other is_ascii_digit 45 (decimal n) refl (digits_decimal decimal_numerals n fits)

seconds_free : (ms : ℕ) → ms < 2 ^ 64 → list_all (other_than 45) (seconds_text ms) ≡ true
unfolding other_than
seconds_free ms small =
    all-append (other_than 45) (decimal (ms / 1000) ++ codes "." ++ decimal (ms / 100 % 10) ++ decimal (ms / 10 % 10))
    (decimal (ms % 10))
    (all-append (other_than 45) (decimal (ms / 1000) ++ codes "." ++ decimal (ms / 100 % 10)) (decimal (ms / 10 % 10))
    (all-append (other_than 45) (decimal (ms / 1000) ++ codes ".") (decimal (ms / 100 % 10))
    (all-append (other_than 45) (decimal (ms / 1000)) (codes ".") (number_free (ms / 1000) (omega (arith, small))) refl)
    (number_free (ms / 100 % 10) (omega arith)))
    (number_free (ms / 10 % 10) (omega arith)))
    (number_free (ms % 10) (omega arith))

pub from_read : (ms : ℕ) → ms < 10 ^ 12
    → IsSpan (codes "npt=" ++ (seconds_text ms ++ codes "-")) (record { from = At (ms * 1000000); to = None })
from_read ms small =
    span_read (seconds_text ms) [] (record { from = At (ms * 1000000); to = None })
    (seconds_free ms (omega (arith, small)))
    (seconds_read ms small) refl

pub between_read : (ms end_ms : ℕ) → ms < 10 ^ 12 → end_ms < 10 ^ 12 →
    IsSpan (codes "npt=" ++ (seconds_text ms ++ (codes "-" ++ seconds_text end_ms)))
    (record { from = At (ms * 1000000); to = Some (end_ms * 1000000) })
between_read ms end_ms small fits =
    span_read (seconds_text ms) (seconds_text end_ms)
    (record { from = At (ms * 1000000); to = Some (end_ms * 1000000) })
    (seconds_free ms (omega (arith, small))) (seconds_read ms small) (seconds_read end_ms fits)

pub now_read : IsSpan (codes "npt=now-") (record { from = Now; to = None })
unfolding other_than
now_read = span_read (codes "now") [] (record { from = Now; to = None }) refl refl refl

pub now_to_read : (end_ms : ℕ) → end_ms < 10 ^ 12
    → IsSpan (codes "npt=now-" ++ seconds_text end_ms) (record { from = Now; to = Some (end_ms * 1000000) })
unfolding other_than
now_to_read end_ms small =
    span_read (codes "now") (seconds_text end_ms) (record { from = Now; to = Some (end_ms * 1000000) }) refl refl
    (seconds_read end_ms small)

-- ---- `npt` in any case

-- texts that differ in their first four bytes alone
byte_later : (a b c : ℕ) (rest : List ℕ) (k : ℕ) → 4 ≤ k
    → get_or (codes "npt=" ++ rest) k 0 ≡ get_or (a ∷ b ∷ c ∷ 61 ∷ rest) k 0
byte_later a b c rest (suc (suc (suc (suc k)))) low = refl
byte_later a b c rest k low = absurd (omega (arith, low))

drop_later : (a b c : ℕ) (rest : List ℕ) (k : ℕ) → 4 ≤ k
    → drop k (codes "npt=" ++ rest) ≡ drop k (a ∷ b ∷ c ∷ 61 ∷ rest)
drop_later a b c rest (suc (suc (suc (suc k)))) low = refl
drop_later a b c rest k low = absurd (omega (arith, low))

pub any_case_read : (unit rest : List ℕ) (span : Span) → in_lower_case unit ≡ codes "npt"
    → IsSpan (codes "npt=" ++ rest) span → IsSpan (unit ++ codes "=" ++ rest) span
any_case_read [] rest span same s = absurd (let e : 0 ≡ 3 = ap (λ (l : List ℕ). length l) same in omega (arith, e))
any_case_read (a ∷ []) rest span same s =
    absurd (let e : 1 ≡ 3 = ap (λ (l : List ℕ). length l) same in omega (arith, e))
any_case_read (a ∷ (b ∷ [])) rest span same s =
    absurd (let e : 2 ≡ 3 = ap (λ (l : List ℕ). length l) same in omega (arith, e))
any_case_read (a ∷ (b ∷ (c ∷ []))) rest span same s =
    let text = a ∷ b ∷ c ∷ 61 ∷ rest in
    let low : 4 ≤ s.dash = s.is_dash.after in
    let back : slice_range (codes "npt=" ++ rest) (s.dash + 1) (length text)
    ≡ slice_range text (s.dash + 1) (length text) =
    ap (λ (l : List ℕ). take (length text - (s.dash + 1)) l) (drop_later a b c rest (s.dash + 1) (omega (arith, low)))
    in
    record {
      unit = ap (λ (l : List ℕ). l ++ 61 ∷ []) same;
      dash = s.dash;
      is_dash = record {
        after = low;
        within = s.is_dash.within;
        none = λ k from below is. s.is_dash.none k from below (byte_later a b c rest k from ∙ is);
        ends = λ inside. sym (byte_later a b c rest s.dash low) ∙ s.is_dash.ends inside;
      };
      inside = s.inside;
      from = s.from;
      to = subst (λ (t : List ℕ). IsLimit t span.to) back s.to;
    }
any_case_read (a ∷ (b ∷ (c ∷ (d ∷ more)))) rest span same s =
    absurd (let e : 4 + length (in_lower_case more) ≡ 3 = long ∙ ap (λ (l : List ℕ). length l) same in omega (arith, e))
  where
    long : 4 + length (in_lower_case more) ≡ length (in_lower_case (a ∷ (b ∷ (c ∷ (d ∷ more)))))
    long = omega arith
