-- What a fault says of a message's lines.
use Rattle.std.proofs.Common.{◌≡◌, ℕ, true, List, [], ◌∷◌, ◌++◌, All, codes, get_or, drop, Option, Some, None, refl}
use Rattle.std.proofs.Common.{sym, ap, subst, ◌∙◌, inl, inr}
use Rattle.std.specs.Prelude.{IfSome, option_and_then, slice_index_or}
use Rattle.std.proofs.lemmas.Bool.{cases_Bool, cases_order}
use Rattle.std.proofs.lemmas.List.{append_assoc}
use Rattle.vod_base.specs.Numbers.{is_decimal, number_of}
use Rattle.rtsp_text.specs.Lines.{before_empty, first_line, header_lines}
use Rattle.rtsp_text.specs.Grammar.{IsRequestLine, IsHeaderLine}
use Rattle.rtsp_text.specs.Fields.{first_value, header_value, sequence_number, value_in, IsFirstField}
use Rattle.rtsp_text.specs.Requests.{HasLength, HasVersion, IsFault, IsFirstBad}
use Rattle.rtsp_text.specs.RequestTexts.{IsNamedText}
use Rattle.rtsp_text.specs.RequestFaults.{HasLines, IsFirstUnnamed, IsLineOf, IsWrong, Writes, WritesNoDigits}
use Rattle.rtsp_text.specs.declared.requests.RequestFault.{RequestFault}
use Rattle.rtsp_text.specs.declared.requests.RequestFault.TheVariants.{BadLine, BadVersion, BadHeader}
use Rattle.rtsp_text.specs.declared.requests.RequestFault.TheVariants.{NoSequenceNumber, BadLength}
use Rattle.rtsp_text.proofs.FirstField.{field_value, first_tells, read_of}
use Rattle.rtsp_text.proofs.LineIteration.{before_empty-all}
use Rattle.rtsp_text.proofs.GrammarBytes.{line_named, named_line, named_texts, word_is, word_of}

-- the first line and the header lines
first_is : (message first : List ℕ) (texts : List (List ℕ)) → HasLines message first texts → first_line message ≡ first
unfolding first_line
first_is message first texts has = ap (λ (ls : List (List ℕ)). slice_index_or ls 0 []) has.lines_are

pub headers_are : (message first : List ℕ) (texts : List (List ℕ)) → HasLines message first texts
    → header_lines message ≡ texts
unfolding header_lines
headers_are message first texts has =
    ap (λ (ls : List (List ℕ)). before_empty (drop 1 ls)) has.lines_are ∙ before_empty-all texts has.others has.some

-- a request line
spaced : (method url version : List ℕ)
    → method ++ codes " " ++ url ++ codes " " ++ version ≡ method ++ 32 ∷ (url ++ 32 ∷ version)
spaced method url version =
    append_assoc (method ++ codes " " ++ url) (codes " ") version
    ∙ append_assoc (method ++ codes " ") url (codes " " ++ version)
    ∙ append_assoc method (codes " ") (url ++ (codes " " ++ version))

line_of : (first method url version : List ℕ) → IsRequestLine first method url version → IsLineOf version first
line_of first method url version line = record {
  method = method;
  url = url;
  parts = line.parts ∙ sym (spaced method url version);
  method_is = word_of method line.method_is;
  url_is = line.url_is;
  version_is = line.version_is;
}

request_line_of : (first version : List ℕ) (line : IsLineOf version first)
    → IsRequestLine first line.method line.url version
request_line_of first version line = record {
  parts = line.parts ∙ spaced line.method line.url version;
  method_is = word_is line.method line.method_is;
  url_is = line.url_is;
  version_is = line.version_is;
}

-- the first field of a name, as the function of the lines finds it
found_value : (name : List ℕ) (texts : List (List ℕ)) (value : List ℕ) → IsFirstField name texts value
    → (o : Option (List ℕ)) → first_value name texts ≡ o → o ≡ Some value
found_value name texts value f None is = absurd ((first_tells name texts).none is f.index value f.inside f.field)
found_value name texts value f (Some v) is =
    let g = (first_tells name texts).first v is in
    elim (cases_order f.index g.index) [
      | inl same ↦ (
          let here = field_value name (get_or texts f.index []) value f.field in
          let there = field_value name (get_or texts g.index []) v g.field in
          sym there ∙ ap (λ i. value_in name (get_or texts i [])) (sym same) ∙ here
          )
      | inr (inl below) ↦ absurd (g.before f.index value below f.field)
      | inr (inr below) ↦ absurd (f.before g.index v below g.field)
    ]

written : (name : List ℕ) (texts : List (List ℕ)) (number : ℕ) → Writes name texts number
    → option_and_then number_of (first_value name texts) ≡ Some number
written name texts number w =
    ap (option_and_then number_of) (found_value name texts w.value w.field (first_value name texts) refl) ∙ w.number_is

writes : (name : List ℕ) (texts : List (List ℕ)) (number : ℕ)
    → option_and_then number_of (first_value name texts) ≡ Some number → Writes name texts number
writes name texts number is =
    let read = read_of (first_value name texts) number is in
    record {
      value = read.value;
      field = (first_tells name texts).first read.value read.value_is;
      number_is = read.number_is;
    }

-- a value that isn't all digits
no_digits : (name : List ℕ) (texts : List (List ℕ)) (o : Option (List ℕ)) → first_value name texts ≡ o
    → ¬ IfSome o (λ value. is_decimal value ≡ true) → WritesNoDigits name texts
no_digits name texts None is wrong = absurd (wrong tt)
no_digits name texts (Some v) is wrong =
    elim (cases_Bool (is_decimal v)) [
      | inl good ↦ absurd (wrong good)
      | inr bad ↦ record { value = v; field = (first_tells name texts).first v is; no_digits = bad }
    ]

-- the first line that isn't named
first_unnamed : (texts : List (List ℕ)) (number : ℕ) → IsFirstBad texts number → IsFirstUnnamed texts number
first_unnamed texts number f = record {
  index = f.index;
  number_is = f.number_is;
  inside = f.inside;
  before = λ k below. line_named (slice_index_or texts k []) (f.before k below);
  unnamed = λ named. f.bad (named_line (slice_index_or texts f.index []) named);
}

-- the lines that a message's head is read as
record ReadsAs (message first : List ℕ) (texts : List (List ℕ)) : Type 0 where
  line_is : first_line message ≡ first
  texts_are : header_lines message ≡ texts

line_read : {message first : List ℕ} {texts : List (List ℕ)} (version : List ℕ) → ReadsAs message first texts
    → HasVersion message version → IsLineOf version first
line_read {first} version reads has =
    line_of first has.0 has.1.0 version
    (subst (λ (t : List ℕ). IsRequestLine t has.0 has.1.0 version) reads.line_is has.1.1)

all_named : {message first : List ℕ} {texts : List (List ℕ)} → ReadsAs message first texts
    → All IsHeaderLine (header_lines message) → All IsNamedText texts
all_named {texts} reads all = named_texts texts (subst (All IsHeaderLine) reads.texts_are all)

value_read : {message first : List ℕ} {texts : List (List ℕ)} (name : List ℕ) → ReadsAs message first texts
    → header_value message name ≡ first_value name texts
value_read name reads = ap (first_value name) reads.texts_are

-- what a Content-Length that isn't all digits says of the lines
wrong_length : {message first : List ℕ} {texts : List (List ℕ)} → ReadsAs message first texts
    → IsFault message BadLength → IsWrong first texts BadLength
wrong_length {texts} reads has = (
  record { line = line_read (codes "RTSP/1.0") reads has.0; named = all_named reads has.1 },
  (
    (
      has.2.0,
      writes (codes "CSeq") texts has.2.0
          (ap (option_and_then number_of) (sym (value_read (codes "CSeq") reads)) ∙ has.2.1),
    ),
    no_digits (codes "Content-Length") texts (first_value (codes "Content-Length") texts) refl
        (λ good. has.3
        (subst (λ (o : Option (List ℕ)). IfSome o (λ value. is_decimal value ≡ true))
        (sym (value_read (codes "Content-Length") reads)) good)),
  ),
)

-- what a fault says of the lines
wrong : {message first : List ℕ} {texts : List (List ℕ)} (fault : RequestFault)
    → ReadsAs message first texts → IsFault message fault → IsWrong first texts fault
wrong {first} BadLine reads none =
    λ version l. none version (
      l.method,
      (
        l.url,
        subst (λ (t : List ℕ). IsRequestLine t l.method l.url version) (sym reads.line_is)
            (request_line_of first version l),
      ),
    )
wrong BadVersion reads has = (has.0, (line_read has.0 reads has.1.0, has.1.1))
wrong {texts} (BadHeader number) reads has = (
  line_read (codes "RTSP/1.0") reads has.0,
  first_unnamed texts number (subst (λ ts. IsFirstBad ts number) reads.texts_are has.1),
)
wrong {texts} NoSequenceNumber reads has = (
  record { line = line_read (codes "RTSP/1.0") reads has.0; named = all_named reads has.1 },
  λ number w. let bad : None ≡ Some number =
      sym has.2 ∙ ap (option_and_then number_of) (value_read (codes "CSeq") reads)
      ∙ written (codes "CSeq") texts number w in let no : ⊥ = cc in no,
)
wrong BadLength reads has = wrong_length reads has

pub fault_wrong : (message first : List ℕ) (texts : List (List ℕ)) (fault : RequestFault)
    → HasLines message first texts → IsFault message fault → IsWrong first texts fault
fault_wrong message first texts fault has is =
    wrong fault
    (record { line_is = first_is message first texts has; texts_are = headers_are message first texts has }) is

-- the sequence number of a request, and its length
pub sequence_written : {message first : List ℕ} {texts : List (List ℕ)} {sequence : ℕ} →
    HasLines message first texts → sequence_number message ≡ Some sequence → Writes (codes "CSeq") texts sequence
sequence_written {message} {first} {texts} {sequence} has is =
    writes (codes "CSeq") texts sequence
    (ap (λ ls. option_and_then number_of (first_value (codes "CSeq") ls))
    (sym (headers_are message first texts has)) ∙ is)

pub length_digits : (message : List ℕ) {texts : List (List ℕ)} {value : List ℕ} →
    header_lines message ≡ texts → HasLength message →
    IsFirstField (codes "Content-Length") texts value → is_decimal value ≡ true
length_digits message {texts} {value} are has field =
    let found : header_value message (codes "Content-Length") ≡ Some value =
    ap (first_value (codes "Content-Length")) are
    ∙ found_value (codes "Content-Length") texts value field (first_value (codes "Content-Length") texts) refl in
    subst (λ (o : Option (List ℕ)). IfSome o (λ v. is_decimal v ≡ true)) found has
