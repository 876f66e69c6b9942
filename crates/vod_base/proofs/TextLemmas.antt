-- What the words on numbers, names and blanks come to.
use Rattle.std.proofs.Common.{◌≡◌, ◌≢◌, ◌<◌, ◌≤◌, ◌-◌, ◌^◌, ◌&&◌, ◌==◌, if◌then◌else◌, ℕ, zero, suc, Bool, true, false}
use Rattle.std.proofs.Common.{not, List, [], ◌∷◌, ◌++◌, length, slice_index, decimal, replicate, reverse, get_or, Some}
use Rattle.std.proofs.Common.{None, nat_lt, nat_le, inl, inr, arith, refl, sym, ap, subst, ◌∙◌, lt-ltb, ltb-true}
use Rattle.std.specs.List.{list_all}
use Rattle.std.specs.Char.{is_ascii_digit}
use Rattle.std.specs.Str.Parse.{digits_value}
use Rattle.std.proofs.lemmas.Bool.{cases_Bool, cases_eq, cond-true, cond-false, and_from, and_parts}
use Rattle.std.proofs.lemmas.Option.{none-some, same_Some}
use Rattle.std.proofs.lemmas.List.{append_assoc, reverse-append, reverse-reverse, length-reverse, get_or-reverse}
use Rattle.std.proofs.lemmas.List.{get_or_append_left, length-append}
use Rattle.std.proofs.lemmas.List.Folds.{list_all-append, list_all_at}
use Rattle.std.proofs.lemmas.Fmt.{digits_decimal, digits_value-decimal, decimal_nonempty, decimal-digits_value}
use Rattle.std.proofs.lemmas.Grind.{common_steps}
use Rattle.vod_base.specs.Blanks.{is_blank, without_leading_blanks, without_blanks, IsTrimmed}
use Rattle.vod_base.specs.Names.{is_name_byte, good_name, IsPlainFileName}
use Rattle.vod_base.specs.Numbers.{is_decimal, number_of}
use Rattle.vod_base.proofs.DigitLemmas.{decimal_numerals}

-- ---- numbers

abbrev fits : List ℕ → Bool
fits text = is_decimal text && nat_lt (digits_value 10 text) (2 ^ 64)

-- the decimal text of a number is read as it
pub decimal_read : (n : ℕ) → n < 2 ^ 64 → number_of (decimal n) ≡ Some n
decimal_read n small =
    let all : list_all is_ascii_digit (decimal n) ≡ true = digits_decimal decimal_numerals n small in
    let value : digits_value 10 (decimal n) ≡ n = digits_value-decimal decimal_numerals n small in
    let some : nat_lt 0 (length (decimal n)) ≡ true = lt-ltb 0 (length (decimal n)) (decimal_nonempty n small) in
    let below : nat_lt (digits_value 10 (decimal n)) (2 ^ 64) ≡ true =
    lt-ltb (digits_value 10 (decimal n)) (2 ^ 64) (omega (arith, value, small)) in
    let test : fits (decimal n) ≡ true =
    and_from (is_decimal (decimal n)) (nat_lt (digits_value 10 (decimal n)) (2 ^ 64))
    (and_from (nat_lt 0 (length (decimal n))) (list_all is_ascii_digit (decimal n)) some all) below in
    cond-true (fits (decimal n)) (Some (digits_value 10 (decimal n))) None test ∙ ap (λ v. Some v) value

-- digits without a leading zero are the decimal text of the number that is read
pub read_decimal : (ds : List ℕ) (n : ℕ) → number_of ds ≡ Some n → (slice_index ds 0 ≡ 48 → length ds ≡ 1)
    → ds ≡ decimal n
read_decimal ds n read lead =
    elim (cases_Bool (fits ds)) [
      | inl good ↦ (
          let found : number_of ds ≡ Some (digits_value 10 ds) =
          cond-true (fits ds) (Some (digits_value 10 ds)) None good in
          let same : digits_value 10 ds ≡ n = same_Some (digits_value 10 ds) n (sym found ∙ read) in
          let parts = and_parts (is_decimal ds) (nat_lt (digits_value 10 ds) (2 ^ 64)) good in
          let digits = and_parts (nat_lt 0 (length ds)) (list_all is_ascii_digit ds) parts.0 in
          let whole : decimal (digits_value 10 ds) ≡ ds =
          decimal-digits_value decimal_numerals ds digits.1 (ltb-true 0 (length ds) digits.0) lead
          (ltb-true (digits_value 10 ds) (2 ^ 64) parts.1) in
          sym whole ∙ ap decimal same
          )
      | inr wrong ↦ (
          let none : number_of ds ≡ None = cond-false (fits ds) (Some (digits_value 10 ds)) None wrong in
          absurd (none-some n (sym none ∙ read))
          )
    ]

-- a zero before a byte changes nothing
zero_in_front : (d : ℕ) (ds : List ℕ) → number_of (48 ∷ d ∷ ds) ≡ number_of (d ∷ ds)
zero_in_front d ds =
    let one : nat_lt 0 (length (48 ∷ d ∷ ds)) ≡ true = lt-ltb 0 (length (48 ∷ d ∷ ds)) (omega arith) in
    let other : nat_lt 0 (length (d ∷ ds)) ≡ true = lt-ltb 0 (length (d ∷ ds)) (omega arith) in
    ap (λ some. if (some && list_all is_ascii_digit (d ∷ ds))
    && nat_lt (digits_value 10 (d ∷ ds)) (2 ^ 64) then Some (digits_value 10 (d ∷ ds)) else None) (one ∙ sym other)

zeros_in_front : (zeros d : ℕ) (ds : List ℕ) → number_of (replicate zeros 48 ++ d ∷ ds) ≡ number_of (d ∷ ds)
zeros_in_front zero d ds = refl
zeros_in_front (suc zero) d ds = zero_in_front d ds
zeros_in_front (suc (suc zeros)) d ds =
    zero_in_front 48 (replicate zeros 48 ++ d ∷ ds) ∙ zeros_in_front (suc zeros) d ds

some_byte : (ds : List ℕ) → 0 < length ds → (d : ℕ) × ((rest : List ℕ) × (ds ≡ d ∷ rest))
some_byte [] some = absurd (omega (arith, some))
some_byte (d ∷ ds) some = (d, (ds, refl))

pub written_read : (zeros n : ℕ) → n < 2 ^ 64 → number_of (replicate zeros 48 ++ decimal n) ≡ Some n
written_read zeros n small =
    let cut = some_byte (decimal n) (decimal_nonempty n small) in
    ap (λ ds. number_of (replicate zeros 48 ++ ds)) cut.1.1 ∙ zeros_in_front zeros cut.0 cut.1.0
    ∙ ap number_of (sym cut.1.1) ∙ decimal_read n small

pub read_written : (text : List ℕ) (n : ℕ) → number_of text ≡ Some n
    → (zeros : ℕ) × (text ≡ replicate zeros 48 ++ decimal n)
read_written [] n read = absurd (none-some n read)
read_written (x ∷ []) n read = (0, read_decimal (x ∷ []) n read (λ _. refl))
read_written (x ∷ (y ∷ rest)) n read =
    elim (cases_eq x 48) [
      | inl is ↦ (
          let inner = read_written (y ∷ rest) n
          (sym (zero_in_front y rest) ∙ ap (λ c. number_of (c ∷ (y ∷ rest))) (sym is) ∙ read) in
          (suc inner.0, ap (λ c. c ∷ (y ∷ rest)) is ∙ ap (λ ds. 48 ∷ ds) inner.1)
          )
      | inr other ↦ (0, read_decimal (x ∷ (y ∷ rest)) n read (λ first. absurd (other first)))
    ]

-- ---- names

name_byte : (b : ℕ) → is_name_byte b ≡ true → (33 ≤ b) × (b ≤ 126) × (b ≢ 47) × (b ≢ 92)
name_byte b is = grind arith

is_other : (b : ℕ) → not (b == 46) ≡ true → b ≢ 46
is_other b is = grind arith

is_short : (n : ℕ) → nat_le n 64 ≡ true → n ≤ 64
is_short n is = grind arith

name_byte_at : (name : List ℕ) (k : ℕ) → list_all is_name_byte name ≡ true → k < length name
    → is_name_byte (get_or name k 0) ≡ true
name_byte_at name k all h = grind (arith, common_steps, list_all_at)

pub good_is_plain : (name : List ℕ) → good_name name ≡ true → IsPlainFileName name
good_is_plain name good =
    let three = and_parts (nat_lt 0 (length name) && nat_le (length name) 64 && not (slice_index name 0 == 46))
    (list_all is_name_byte name) good in
    let two = and_parts (nat_lt 0 (length name) && nat_le (length name) 64) (not (slice_index name 0 == 46)) three.0 in
    let one = and_parts (nat_lt 0 (length name)) (nat_le (length name) 64) two.0 in
    let first : slice_index name 0 ≢ 46 = is_other (slice_index name 0) two.1 in
    let at : (k : ℕ) → k < length name → _ = λ k h. name_byte (slice_index name k) (name_byte_at name k three.1 h) in
    record {
      some = omega (arith, ltb-true 0 (length name) one.0);
      short = is_short (length name) one.1;
      printable = λ k h. ((at k h).0, (at k h).1);
      one_part = λ k h. ((at k h).2, (at k h).3);
      not_here = λ e. first (ap (λ l. slice_index l 0) e);
      not_above = λ e. first (ap (λ l. slice_index l 0) e);
    }

-- ---- blanks

-- a text is its first blanks and the rest, which begins with no blank
record FrontCut (text rest : List ℕ) : Type 0 where
  front : List ℕ
  parts : text ≡ front ++ rest
  blank : list_all is_blank front ≡ true
  begins : 0 < length rest → is_blank (slice_index rest 0) ≡ false

front_cut : (text : List ℕ) → FrontCut text (without_leading_blanks text)
front_cut [] = record { front = []; parts = refl; blank = refl; begins = λ some. absurd (omega (arith, some)) }
front_cut (c ∷ text) =
    let P : List ℕ → Type 0 = FrontCut (c ∷ text) in
    elim (cases_Bool (is_blank c)) [
      | inl blank ↦ (
          let inner = front_cut text in
          subst P (sym (cond-true (is_blank c) (without_leading_blanks text) (c ∷ text) blank)) (record {
            front = c ∷ inner.front;
            parts = ap (λ l. c ∷ l) inner.parts;
            blank = and_from (is_blank c) (list_all is_blank inner.front) blank inner.blank;
            begins = inner.begins;
          })
          )
      | inr other ↦ subst P (sym (cond-false (is_blank c) (without_leading_blanks text) (c ∷ text) other))
          (record { front = []; parts = refl; blank = refl; begins = λ some. other })
    ]

-- all of a text are all of it reversed
pub all-reverse : (p : ℕ → Bool) (text : List ℕ) → list_all p text ≡ true → list_all p (reverse text) ≡ true
all-reverse p [] all = refl
all-reverse p (x ∷ text) all =
    let parts = and_parts (p x) (list_all p text) all in
    ap (list_all p) (reverse-append (x ∷ []) text) ∙ list_all-append p (reverse text) (x ∷ [])
    ∙ and_from (list_all p (reverse text)) (list_all p (x ∷ [])) (all-reverse p text parts.1)
    (and_from (p x) true parts.0 refl)

-- a text without these blanks at its beginning, and then, from its end, without those of the rest
both_cut : (text middle back_first : List ℕ) → FrontCut text middle → FrontCut (reverse middle) back_first
    → IsTrimmed text (reverse back_first)
both_cut text middle back_first one two =
    let middle_is : middle ≡ reverse back_first ++ reverse two.front =
    sym (reverse-reverse middle) ∙ ap reverse two.parts ∙ reverse-append two.front back_first in
    let long : length (reverse back_first) ≡ length back_first = length-reverse back_first in
    record {
      front = one.front;
      back = reverse two.front;
      parts = one.parts ∙ ap (λ l. one.front ++ l) middle_is
          ∙ sym (append_assoc one.front (reverse back_first) (reverse two.front));
      front_is_blank = one.blank;
      back_is_blank = all-reverse is_blank two.front two.blank;
      begins = λ some.
          let first : slice_index middle 0 ≡ slice_index (reverse back_first) 0 =
          ap (λ l. slice_index l 0) middle_is ∙ get_or_append_left (reverse back_first) (reverse two.front) 0 0 some in
          let more : 0 < length middle =
          omega (arith, some, ap length middle_is, length-append (reverse back_first) (reverse two.front)) in
          ap is_blank (sym first) ∙ one.begins more;
      ends = λ some.
          let last : slice_index (reverse back_first) (length back_first - 1)
          ≡ slice_index back_first (length back_first - 1 - (length back_first - 1)) =
          get_or-reverse back_first (length back_first - 1) 0 (omega (arith, some, long)) in
          let none : length back_first - 1 - (length back_first - 1) ≡ 0 = omega arith in
          ap (λ n. is_blank (slice_index (reverse back_first) (n - 1))) long ∙ ap is_blank last
          ∙ ap (λ n. is_blank (slice_index back_first n)) none
          ∙ two.begins (omega (arith, some, long));
    }

pub trimmed_is : (text : List ℕ) → IsTrimmed text (without_blanks text)
trimmed_is text =
    both_cut text (without_leading_blanks text) (without_leading_blanks (reverse (without_leading_blanks text)))
    (front_cut text) (front_cut (reverse (without_leading_blanks text)))
