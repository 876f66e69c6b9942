-- Hours, minutes and seconds, put together with `:`, are read back.
use Rattle.std.proofs.Common.{◌≡◌, ◌≢◌, ℕ, ◌+◌, ◌-◌, ◌*◌, ◌^◌, ◌<◌, ◌≤◌, ◌||◌, ◌==◌, Bool, true, false}
use Rattle.std.proofs.Common.{List, [], ◌∷◌, ◌++◌, length, take, drop, get_or, slice_range, decimal, refl, sym, ap}
use Rattle.std.proofs.Common.{subst, ◌∙◌, arith, inl, inr, nat_lt}
use Rattle.std.specs.List.{list_all}
use Rattle.std.specs.Char.{is_ascii_digit}
use Rattle.std.proofs.lemmas.Bool.{and_parts, and_from, lt-ltb}
use Rattle.std.proofs.lemmas.Fmt.{digits_decimal, digits_value-decimal, decimal_nonempty, length-decimal-le}
use Rattle.std.proofs.lemmas.List.{append_assoc, take_at, drop_at, take_all, length-append, get_or_append_left}
use Rattle.std.proofs.lemmas.List.{get_or-append-add}
use Rattle.std.proofs.lemmas.List.Folds.{list_all_at, list_all-append}
use Rattle.vod_base.proofs.DigitLemmas.{decimal_numerals}
use Rattle.rtsp_fields.specs.SeparatedParts.{IsPartEnd}
use Rattle.rtsp_fields.specs.NptTimes.{IsClock, IsDigits, IsTime}

-- a digit is neither `:` nor `.`
digit_is_other : (text : List ℕ) (k : ℕ) → list_all is_ascii_digit text ≡ true → k < length text → get_or text k 0 ≢ 58
digit_is_other text k all inside = λ colon.
    let other : is_ascii_digit (get_or text k 0) ≡ false = rw colon refl in
    let wrong : true ≡ false = sym all ∙ list_all_at is_ascii_digit text k 0 inside other in
    cc

-- digits up to the next `:`
digits_end : (front digits tail : List ℕ) → list_all is_ascii_digit digits ≡ true →
    IsPartEnd 58 (front ++ (digits ++ 58 ∷ tail)) (length front) (length front + length digits)
digits_end front digits tail all =
    let long : length (front ++ (digits ++ 58 ∷ tail)) ≡ length front + (length digits + (1 + length tail)) =
    length-append front (digits ++ 58 ∷ tail)
    ∙ ap (λ n. length front + n) (length-append digits (58 ∷ tail) ∙ omega arith) in
    record {
      after = omega arith;
      within = omega (arith, long);
      none = λ k from below.
          let same : length front + (k - length front) ≡ k = omega (arith, from) in
          let inside : k - length front < length digits = omega (arith, from, below) in
          let here : get_or (front ++ (digits ++ 58 ∷ tail)) k 0 ≡ get_or digits (k - length front) 0 =
          ap (λ n. get_or (front ++ (digits ++ 58 ∷ tail)) n 0) (sym same)
          ∙ get_or-append-add front (digits ++ 58 ∷ tail) (k - length front) 0
          ∙ get_or_append_left digits (58 ∷ tail) 0 (k - length front) inside in
          λ colon. digit_is_other digits (k - length front) all inside (sym here ∙ colon);
      ends = λ inside.
          get_or-append-add front (digits ++ 58 ∷ tail) (length digits) 0
          ∙ ap (λ n. get_or (digits ++ 58 ∷ tail) n 0) (let e : length digits ≡ length digits + 0 = omega arith in e)
          ∙ get_or-append-add digits (58 ∷ tail) 0 0;
    }

digits_of : (most : ℕ) (text : List ℕ) (n : ℕ) → IsDigits most text n → list_all is_ascii_digit text ≡ true
digits_of most text n is = (and_parts (nat_lt 0 (length text)) (list_all is_ascii_digit text) is.decimal).1

clock_text : List ℕ → List ℕ → List ℕ → List ℕ
clock_text h m s = h ++ (58 ∷ (m ++ (58 ∷ s)))

-- the digits of the hours, the minutes and the seconds
record AreClockDigits (h m s : List ℕ) (a b c : ℕ) : Type 0 where
  hours : IsDigits 5 h a
  minutes : IsDigits 2 m b
  seconds : IsDigits 2 s c
  small_minutes : b ≤ 59
  small_seconds : c ≤ 59

-- a clock's text up to its second colon, and what stands after each of the two
clock_split : (h m s : List ℕ) → (h ++ 58 ∷ []) ++ (m ++ 58 ∷ s) ≡ clock_text h m s
unfolding clock_text
clock_split h m s = append_assoc h (58 ∷ []) (m ++ 58 ∷ s)

clock_joined : (h m s : List ℕ) → ((h ++ 58 ∷ []) ++ (m ++ 58 ∷ [])) ++ s ≡ clock_text h m s
clock_joined h m s =
    append_assoc (h ++ 58 ∷ []) (m ++ 58 ∷ []) s ∙ ap (λ l. (h ++ 58 ∷ []) ++ l) (append_assoc m (58 ∷ []) s)
    ∙ clock_split h m s

hours_size : (h : List ℕ) → length (h ++ 58 ∷ []) ≡ length h + 1
hours_size h = length-append h (58 ∷ [])

minutes_size : (h m : List ℕ) → length ((h ++ 58 ∷ []) ++ (m ++ 58 ∷ [])) ≡ length h + 1 + length m + 1
minutes_size h m = length-append (h ++ 58 ∷ []) (m ++ 58 ∷ []) ∙ omega (arith, hours_size h, length-append m (58 ∷ []))

clock_size : (h m s : List ℕ) → length (clock_text h m s) ≡ length h + 1 + length m + 1 + length s
clock_size h m s =
    ap length (sym (clock_joined h m s)) ∙ length-append ((h ++ 58 ∷ []) ++ (m ++ 58 ∷ [])) s
    ∙ omega (arith, minutes_size h m)

minutes_in : (h m s : List ℕ) → slice_range (clock_text h m s) (length h + 1) (length h + 1 + length m) ≡ m
minutes_in h m s =
    let middle : drop (length h + 1) (clock_text h m s) ≡ m ++ 58 ∷ s =
    ap (drop (length h + 1)) (sym (clock_split h m s))
    ∙ drop_at (h ++ 58 ∷ []) (m ++ 58 ∷ s) (length h + 1) (hours_size h) in
    ap (λ (l : List ℕ). take (length h + 1 + length m - (length h + 1)) l) middle
    ∙ take_at m (58 ∷ s) (length h + 1 + length m - (length h + 1)) (omega arith)

seconds_in : (h m s : List ℕ)
    → slice_range (clock_text h m s) (length h + 1 + length m + 1) (length (clock_text h m s)) ≡ s
seconds_in h m s =
    let text = clock_text h m s in
    let last : drop (length h + 1 + length m + 1) text ≡ s =
    ap (drop (length h + 1 + length m + 1)) (sym (clock_joined h m s))
    ∙ drop_at ((h ++ 58 ∷ []) ++ (m ++ 58 ∷ [])) s (length h + 1 + length m + 1) (minutes_size h m) in
    ap (λ (l : List ℕ). take (length text - (length h + 1 + length m + 1)) l) last
    ∙ take_all (length text - (length h + 1 + length m + 1)) s (omega (arith, clock_size h m s))

clock_of : {h m s : List ℕ} {a b c : ℕ} → AreClockDigits h m s a b c
    → IsClock (clock_text h m s) (a * 3600 + b * 60 + c)
unfolding clock_text
clock_of {h} {m} {s} {a} {b} {c} digits =
    let front = h ++ 58 ∷ [] in
    let text = clock_text h m s in
    let E : List ℕ → ℕ → Type 0 = λ t n. IsPartEnd 58 t n (n + length m) in
    record {
      first = length h;
      second = length h + 1 + length m;
      hours_end = subst (λ (n : ℕ). IsPartEnd 58 text 0 n) (let e : 0 + length h ≡ length h = omega arith in e)
          (digits_end [] h (m ++ 58 ∷ s) (digits_of 5 h a digits.hours));
      minutes_end = subst (λ (n : ℕ). E text n) (hours_size h)
          (subst (λ (t : List ℕ). E t (length front)) (clock_split h m s)
          (digits_end front m s (digits_of 2 m b digits.minutes)));
      hours = a;
      minutes = b;
      rest = c;
      at = record {
        inside = omega (arith, clock_size h m s);
        are_hours =
            subst (λ (t : List ℕ). IsDigits 5 t a) (sym (take_at h (58 ∷ (m ++ 58 ∷ s)) (length h) refl)) digits.hours;
        are_minutes = subst (λ (t : List ℕ). IsDigits 2 t b) (sym (minutes_in h m s)) digits.minutes;
        are_seconds = subst (λ (t : List ℕ). IsDigits 2 t c) (sym (seconds_in h m s)) digits.seconds;
        small_minutes = digits.small_minutes;
        small_seconds = digits.small_seconds;
      };
      seconds_are = refl;
    }

is_clock_byte : ℕ → Bool
is_clock_byte c = is_ascii_digit c || c == 58

all_clock : (text : List ℕ) → list_all is_ascii_digit text ≡ true → list_all is_clock_byte text ≡ true
unfolding is_clock_byte
all_clock [] all = refl
all_clock (x ∷ text) all =
    let parts = and_parts (is_ascii_digit x) (list_all is_ascii_digit text) all in
    and_from (is_clock_byte x) (list_all is_clock_byte text) (ap (λ b. b || x == 58) parts.0) (all_clock text parts.1)

no_point : (text : List ℕ) (k : ℕ) → list_all is_clock_byte text ≡ true → k < length text → get_or text k 0 ≢ 46
unfolding is_clock_byte
no_point text k all inside = λ point.
    let other : is_clock_byte (get_or text k 0) ≡ false = rw point refl in
    let wrong : true ≡ false = sym all ∙ list_all_at is_clock_byte text k 0 inside other in
    cc

clock_is_time : (text : List ℕ) (n : ℕ) → list_all is_clock_byte text ≡ true → IsClock text n
    → IsTime text (n * 1000000000)
clock_is_time text n all clock = record {
  point = length text;
  point_is = record {
    after = omega arith;
    within = omega arith;
    none = λ k from below. no_point text k all below;
    ends = λ inside. absurd (omega (arith, inside));
  };
  seconds = n;
  fraction = 0;
  whole = inr (subst (λ (t : List ℕ). IsClock t n) (sym (take_all (length text) text (omega arith))) clock);
  part = inl (refl, refl);
  nanoseconds_are = omega arith;
}

short_digits : (most n : ℕ) → 1 ≤ most → most ≤ 9 → n < 10 ^ most → n < 10 ^ 9 → IsDigits most (decimal n) n
short_digits most n some few small below =
    let fits : n < 2 ^ 64 = omega (arith, below) in
    record {
      decimal = and_from (nat_lt 0 (length (decimal n))) (list_all is_ascii_digit (decimal n))
          (lt-ltb 0 (length (decimal n)) (decimal_nonempty n fits)) (digits_decimal decimal_numerals n fits);
      short = length-decimal-le most n some small fits;
      value = sym (digits_value-decimal decimal_numerals n fits);
    }

all_text : (h m s : List ℕ) → list_all is_ascii_digit h ≡ true → list_all is_ascii_digit m ≡ true
    → list_all is_ascii_digit s ≡ true → list_all is_clock_byte (clock_text h m s) ≡ true
unfolding clock_text is_clock_byte
all_text h m s hs ms ss =
    list_all-append is_clock_byte h (58 ∷ (m ++ (58 ∷ s)))
    ∙ and_from (list_all is_clock_byte h) (list_all is_clock_byte (m ++ (58 ∷ s))) (all_clock h hs)
    (list_all-append is_clock_byte m (58 ∷ s)
    ∙ and_from (list_all is_clock_byte m) (list_all is_clock_byte s) (all_clock m ms) (all_clock s ss))

pub clock_read : (hours minutes seconds : ℕ) → hours < 10 ^ 5 → minutes ≤ 59 → seconds ≤ 59 →
    IsTime (decimal hours ++ 58 ∷ (decimal minutes ++ 58 ∷ decimal seconds))
    ((hours * 3600 + minutes * 60 + seconds) * 1000000000)
unfolding clock_text
clock_read hours minutes seconds h m s =
    let hd : IsDigits 5 (decimal hours) hours = short_digits 5 hours (omega arith) (omega arith) h (omega (arith, h)) in
    let md : IsDigits 2 (decimal minutes) minutes =
    short_digits 2 minutes (omega arith) (omega arith) (omega (arith, m)) (omega (arith, m)) in
    let sd : IsDigits 2 (decimal seconds) seconds =
    short_digits 2 seconds (omega arith) (omega arith) (omega (arith, s)) (omega (arith, s)) in
    clock_is_time (clock_text (decimal hours) (decimal minutes) (decimal seconds))
    (hours * 3600 + minutes * 60 + seconds)
    (all_text (decimal hours) (decimal minutes) (decimal seconds) (digits_of 5 (decimal hours) hours hd)
    (digits_of 2 (decimal minutes) minutes md) (digits_of 2 (decimal seconds) seconds sd))
    (clock_of (record { hours = hd; minutes = md; seconds = sd; small_minutes = m; small_seconds = s }))
