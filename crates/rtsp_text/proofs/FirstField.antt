-- The first field of a name, found as a function of the lines.
use Rattle.std.proofs.Common.{◌≡◌, ◌≢◌, ℕ, ◌<◌, ◌==◌, true, not, List, [], ◌∷◌, Option, Some, None, map, get_or, refl}
use Rattle.std.proofs.Common.{sym, ap, ◌∙◌, arith, inl, inr, suc, zero}
use Rattle.std.specs.Prelude.{option_map, option_and_then, IfSome, IfNone}
use Rattle.std.specs.List.{list_all}
use Rattle.std.specs.Str.{str_eq_ignore_ascii_case}
use Rattle.std.specs.Char.{to_ascii_lowercase}
use Rattle.std.specs.Cmp.Lexicographic.{bytes_decides}
use Rattle.std.proofs.lemmas.Bool.{cases_Bool, cases_eq, and_from}
use Rattle.std.proofs.lemmas.Option.{same_Some}
use Rattle.vod_base.specs.Numbers.{number_of}
use Rattle.vod_base.specs.Blanks.{without_blanks}
use Rattle.vod_base.specs.Splits.{IsSplitAtFirst}
use Rattle.rtsp_text.specs.Fields.{value_in, first_value, IsField, first_number, IsFirstField, HasNoField}
use Rattle.rtsp_text.specs.Fields.{IsFirstNumber, HasNoNumber}
use Rattle.rtsp_text.proofs.CutUniqueness.{other_is}
use Rattle.rtsp_text.proofs.HeaderValues.{value_some, value_other, value_none, first_value-nil, first_value_some}
use Rattle.rtsp_text.proofs.HeaderValues.{first_value_more, first_number-nil, first_number_some, first_number_more}

-- a line that is a field of that name gives its value
pub field_value : (name line value : List ℕ) → IsField name line value → value_in name line ≡ Some value
field_value name line value f =
    value_some name line f.front f.after f.cut
    ((bytes_decides (map to_ascii_lowercase f.front) (map to_ascii_lowercase name)).1 f.name_is)
    ∙ ap Some (sym f.value_is)

no_value : (name line other : List ℕ) → value_in name line ≡ None → IsField name line other → ⊥
no_value name line other none f = let bad : None ≡ Some other = sym none ∙ field_value name line other f in cc

-- a line has a first colon or none
data Colon (line : List ℕ) : Type 0 where
  NoColon : list_all (λ byte. not (byte == 58)) line ≡ true → Colon line
  Cut : (front after : List ℕ) → IsSplitAtFirst 58 line front after → Colon line

colon_more : (x : ℕ) (line : List ℕ) → x ≢ 58 → Colon line → Colon (x ∷ line)
colon_more x line other (NoColon none) =
    NoColon (and_from (not (x == 58)) (list_all (λ byte. not (byte == 58)) line) (other_is x 58 other) none)
colon_more x line other (Cut front after cut) = Cut (x ∷ front) after (record {
  parts = ap (λ l. x ∷ l) cut.parts;
  first = and_from (not (x == 58)) (list_all (λ byte. not (byte == 58)) front) (other_is x 58 other) cut.first;
})

colon_of : (line : List ℕ) → Colon line
colon_of [] = NoColon refl
colon_of (x ∷ line) =
    elim (cases_eq x 58) [
      | inl colon ↦ Cut [] line (record { parts = ap (λ b. b ∷ line) colon; first = refl })
      | inr other ↦ colon_more x line other (colon_of line)
    ]

-- a line that gives a value is a field of that name
value_field : (name line value : List ℕ) → value_in name line ≡ Some value → IsField name line value
value_field name line value is = go (colon_of line)
  where
    go : Colon line → IsField name line value
    go (NoColon none) = absurd (let bad : None ≡ Some value = sym (value_none name line none) ∙ is in cc)
    go (Cut front after cut) =
        elim (cases_Bool (str_eq_ignore_ascii_case front name)) [
          | inl same ↦ record {
            front = front;
            after = after;
            cut = cut;
            name_is = (bytes_decides (map to_ascii_lowercase front) (map to_ascii_lowercase name)).0 same;
            value_is = same_Some value (without_blanks after) (sym is ∙ value_some name line front after cut same);
          }
          | inr other ↦
              absurd (let bad : None ≡ Some value = sym (value_other name line front after cut other) ∙ is in cc)
        ]

-- one line more at the start
first_more : (name line : List ℕ) (lines : List (List ℕ)) (value : List ℕ) → value_in name line ≡ None
    → IsFirstField name lines value → IsFirstField name (line ∷ lines) value
first_more name line lines value none f = record {
  index = suc f.index;
  inside = omega (arith, f.inside);
  field = f.field;
  before = before;
}
  where
    before : (k : ℕ) (other : List ℕ) → k < suc f.index → IsField name (get_or (line ∷ lines) k []) other → ⊥
    before zero other below field = no_value name line other none field
    before (suc k) other below field = f.before k other (omega (arith, below)) field

none_more : (name line : List ℕ) (lines : List (List ℕ)) → value_in name line ≡ None → HasNoField name lines
    → HasNoField name (line ∷ lines)
none_more name line lines none f zero other below field = no_value name line other none field
none_more name line lines none f (suc k) other below field = f k other (omega (arith, below)) field

-- what the function of the lines says of them
pub record TellsFirst (name : List ℕ) (lines : List (List ℕ)) (found : Option (List ℕ)) : Type 0 where
  pub first : (value : List ℕ) → found ≡ Some value → IsFirstField name lines value
  pub none : found ≡ None → HasNoField name lines

pub first_tells : (name : List ℕ) (lines : List (List ℕ)) → TellsFirst name lines (first_value name lines)
first_tells name [] = record {
  first = λ value is. absurd (let bad : None ≡ Some value = sym (first_value-nil name [] refl) ∙ is in cc);
  none = λ is k other below. absurd (omega (arith, below));
}
first_tells name (line ∷ lines) = go (value_in name line) refl (first_tells name lines)
  where
    go : (o : Option (List ℕ)) → value_in name line ≡ o → TellsFirst name lines (first_value name lines)
        → TellsFirst name (line ∷ lines) (first_value name (line ∷ lines))
    go None o_is rest =
        let same = first_value_more name line (line ∷ lines) lines refl o_is in
        record {
          first = λ value is. first_more name line lines value o_is (rest.first value (sym same ∙ is));
          none = λ is. none_more name line lines o_is (rest.none (sym same ∙ is));
        }
    go (Some v) o_is rest =
        let same = first_value_some name line lines o_is in
        record {
          first = λ value is. record {
            index = 0;
            inside = omega arith;
            field = value_field name line value (o_is ∙ sym same ∙ is);
            before = λ k other below. absurd (omega (arith, below));
          };
          none = λ is. absurd (let bad : Some v ≡ None = sym same ∙ is in cc);
        }

-- the same of what was found
pub found_first : {X : Type 0} (now : X → List ℕ) (r : Option X) (name : List ℕ) (lines : List (List ℕ))
    → option_map now r ≡ first_value name lines → IfSome r (λ x. IsFirstField name lines (now x))
found_first now None name lines is = tt
found_first now (Some x) name lines is = (first_tells name lines).first (now x) (sym is)

pub found_none : {X : Type 0} (now : X → List ℕ) (r : Option X) (name : List ℕ) (lines : List (List ℕ))
    → option_map now r ≡ first_value name lines → IfNone r (HasNoField name lines)
found_none now None name lines is = (first_tells name lines).none (sym is)
found_none now (Some x) name lines is = tt

-- the same of numbers: a field whose value is no number is passed over
number_less : (name line value : List ℕ) → option_and_then number_of (value_in name line) ≡ None
    → IsField name line value → number_of value ≡ None
number_less name line value none f = ap (option_and_then number_of) (sym (field_value name line value f)) ∙ none

number_first_more : (name line : List ℕ) (lines : List (List ℕ)) (n : ℕ)
    → option_and_then number_of (value_in name line) ≡ None → IsFirstNumber name lines n
    → IsFirstNumber name (line ∷ lines) n
number_first_more name line lines n none f = record {
  index = suc f.index;
  value = f.value;
  inside = omega (arith, f.inside);
  field = f.field;
  number_is = f.number_is;
  before = before;
}
  where
    before : (k : ℕ) (other : List ℕ) → k < suc f.index → IsField name (get_or (line ∷ lines) k []) other
        → number_of other ≡ None
    before zero other below field = number_less name line other none field
    before (suc k) other below field = f.before k other (omega (arith, below)) field

number_none_more : (name line : List ℕ) (lines : List (List ℕ))
    → option_and_then number_of (value_in name line) ≡ None → HasNoNumber name lines → HasNoNumber name (line ∷ lines)
number_none_more name line lines none f zero other below field = number_less name line other none field
number_none_more name line lines none f (suc k) other below field = f k other (omega (arith, below)) field

pub record TellsNumber (name : List ℕ) (lines : List (List ℕ)) (found : Option ℕ) : Type 0 where
  pub first : (n : ℕ) → found ≡ Some n → IsFirstNumber name lines n
  pub none : found ≡ None → HasNoNumber name lines

-- the value of which a number was read
pub record IsRead (o : Option (List ℕ)) (n : ℕ) : Type 0 where
  pub value : List ℕ
  pub value_is : o ≡ Some value
  pub number_is : number_of value ≡ Some n

pub read_of : (o : Option (List ℕ)) (n : ℕ) → option_and_then number_of o ≡ Some n → IsRead o n
read_of None n is = absurd (let bad : None ≡ Some n = is in cc)
read_of (Some value) n is = record { value = value; value_is = refl; number_is = is }

pub number_tells : (name : List ℕ) (lines : List (List ℕ)) → TellsNumber name lines (first_number name lines)
number_tells name [] = record {
  first = λ n is. absurd (let bad : None ≡ Some n = sym (first_number-nil name [] refl) ∙ is in cc);
  none = λ is k other below. absurd (omega (arith, below));
}
number_tells name (line ∷ lines) = go (option_and_then number_of (value_in name line)) refl (number_tells name lines)
  where
    go : (o : Option ℕ) → option_and_then number_of (value_in name line) ≡ o
        → TellsNumber name lines (first_number name lines)
        → TellsNumber name (line ∷ lines) (first_number name (line ∷ lines))
    go None o_is rest =
        let same = first_number_more name line (line ∷ lines) lines refl o_is in
        record {
          first = λ n is. number_first_more name line lines n o_is (rest.first n (sym same ∙ is));
          none = λ is. number_none_more name line lines o_is (rest.none (sym same ∙ is));
        }
    go (Some m) o_is rest =
        let same = first_number_some name line lines o_is in
        record {
          first = λ n is. (
              let read = read_of (value_in name line) n (o_is ∙ sym same ∙ is) in
              record {
                index = 0;
                value = read.value;
                inside = omega arith;
                field = value_field name line read.value read.value_is;
                number_is = read.number_is;
                before = λ k other below. absurd (omega (arith, below));
              });
          none = λ is. absurd (let bad : Some m ≡ None = sym same ∙ is in cc);
        }

pub number_first : (r : Option ℕ) (name : List ℕ) (lines : List (List ℕ)) → r ≡ first_number name lines
    → IfSome r (IsFirstNumber name lines)
number_first None name lines is = tt
number_first (Some n) name lines is = (number_tells name lines).first n (sym is)

pub number_none : (r : Option ℕ) (name : List ℕ) (lines : List (List ℕ)) → r ≡ first_number name lines
    → IfNone r (HasNoNumber name lines)
number_none None name lines is = (number_tells name lines).none (sym is)
number_none (Some n) name lines is = tt
