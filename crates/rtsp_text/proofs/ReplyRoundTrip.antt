-- A reply that was written is read back.
use Rattle.std.proofs.Common.{◌≡◌, ℕ, true, List, [], ◌∷◌, ◌++◌, All, codes, decimal, map, flat_map, length, Option}
use Rattle.std.proofs.Common.{Some, None, refl, sym, ap, subst, ◌∙◌, arith, inl, inr}
use Rattle.std.specs.Str.{str_eq_ignore_ascii_case}
use Rattle.std.proofs.lemmas.Bool.{cases_Bool, cond-true, cond-false}
use Rattle.std.proofs.lemmas.List.{append_assoc, length-append}
use Rattle.std.proofs.lemmas.List.Elements.{All-nil, All-cons, All-head, All-tail}
use Rattle.vod_base.specs.Splits.{IsSplitAtFirst}
use Rattle.interleave.specs.Elements.{IsMessageLength}
use Rattle.rtsp_text.specs.Lines.{first_line, header_lines, IsSplit}
use Rattle.rtsp_text.specs.Fields.{first_value}
use Rattle.rtsp_text.specs.Replies.{is_code, phrase, Field, field_line, sequence_line, status_line, reply_front}
use Rattle.rtsp_text.specs.Replies.{reply_text, all_fields, IsPlain, value_named, IsReadBack}
use Rattle.rtsp_text.specs.StatusLines.{IsStatusLine}
use Rattle.rtsp_text.proofs.RequestBounds.{lengths_of}
use Rattle.rtsp_text.proofs.SingleLineTexts.{one_line-append}
use Rattle.rtsp_text.proofs.HeaderValues.{value_some, value_other, first_value-nil, first_value_some, first_value_more}
use Rattle.rtsp_text.proofs.LineWords.{token_without}
use Rattle.rtsp_text.proofs.LineTexts.{IsLineText, core, flat}
use Rattle.rtsp_text.proofs.StatusTable.{status_of, status_text, status_text-line, status_text-status}

-- the text of a field's line
abbrev pub text_of : Field → List ℕ
text_of field = field.name ++ codes ": " ++ field.value

pub text_line : (field : Field) → IsPlain field → IsLineText (text_of field)
text_line field plain = record {
  some = omega (arith, length-append (field.name ++ codes ": ") field.value, length-append field.name (codes ": "));
  one_line = one_line-append (field.name ++ codes ": ") field.value
      (one_line-append field.name (codes ": ") (token_without 10 refl field.name plain.name_is) refl) plain.one_line;
}

pub texts_lines : (fields : List Field) → All IsPlain fields → All IsLineText (map text_of fields)
texts_lines [] all = All-nil IsLineText
texts_lines (f ∷ fs) all =
    All-cons IsLineText (text_of f) (map text_of fs) (text_line f (All-head IsPlain f fs all))
    (texts_lines fs (All-tail IsPlain f fs all))

pub flat-fields : (fields : List Field) → flat (map text_of fields) ≡ flat_map field_line fields
flat-fields [] = refl
flat-fields (f ∷ fs) = ap (λ l. field_line f ++ l) (flat-fields fs)

-- the value of a field's line
field_cut : (field : Field) → IsPlain field → IsSplitAtFirst 58 (text_of field) field.name (32 ∷ field.value)
field_cut field plain =
    record {
      parts = append_assoc field.name (codes ": ") field.value;
      first = token_without 58 refl field.name plain.name_is;
    }

pub values_named : (name : List ℕ) (fields : List Field) → All IsPlain fields
    → first_value name (map text_of fields) ≡ value_named name fields
unfolding value_named
values_named name [] all = first_value-nil name [] refl
values_named name (f ∷ fs) all =
    let plain = All-head IsPlain f fs all in
    let cut = field_cut f plain in
    elim (cases_Bool (str_eq_ignore_ascii_case f.name name)) [
      | inl same ↦
          first_value_some name (text_of f) (map text_of fs)
          (value_some name (text_of f) f.name (32 ∷ f.value) cut same ∙ ap Some plain.bare)
          ∙ sym (cond-true (str_eq_ignore_ascii_case f.name name) (Some f.value) (value_named name fs) same)
      | inr other ↦
          first_value_more name (text_of f) (map text_of (f ∷ fs)) (map text_of fs) refl
          (value_other name (text_of f) f.name (32 ∷ f.value) cut other)
          ∙ values_named name fs (All-tail IsPlain f fs all)
          ∙ sym (cond-false (str_eq_ignore_ascii_case f.name name) (Some f.value) (value_named name fs) other)
    ]

-- a reply up to its last field, by its lines
pub front_lines : (code : ℕ) (sequence : Option ℕ) (fields : List Field)
    → reply_front code sequence fields ≡ flat (status_text code ∷ map text_of (all_fields sequence fields))
unfolding reply_front status_line sequence_line
front_lines code sequence fields =
    append_assoc (status_line code) (sequence_line sequence) (flat_map field_line fields)
    ∙ ap (λ l. status_line code ++ l) (all_lines_of sequence)
  where
    all_lines_of : (o : Option ℕ)
        → sequence_line o ++ flat_map field_line fields ≡ flat (map text_of (all_fields o fields))
    all_lines_of None = sym (flat-fields fields)
    all_lines_of (Some n) = sym (flat-fields (record { name = codes "CSeq"; value = decimal n } ∷ fields))

-- what a reply is written from
pub record ReplyParts : Type 0 where
  pub code : ℕ
  pub sequence : Option ℕ
  pub fields : List Field
  pub body : List ℕ

-- a reply that was written is read back
pub read_back : {message : List ℕ} (parts : ReplyParts) → IsMessageLength message (length message)
    → is_code parts.code ≡ true →
    All IsPlain (all_fields parts.sequence parts.fields) →
    message ≡ reply_text parts.code parts.sequence parts.fields parts.body
    → IsReadBack message parts.code parts.sequence parts.fields parts.body
unfolding reply_text
read_back {message} parts whole is plain text =
    let status = status_of code is in
    let ts = map text_of (all_fields sequence fields) in
    let front = reply_front code sequence fields in
    let lines_are = front_lines code sequence fields in
    let c = core (status_text code) ts body (status_text-line code status)
    (texts_lines (all_fields sequence fields) plain) in
    let split : IsSplit message (front ++ codes "\r\n") body =
    subst (λ (w : List ℕ). IsSplit w (front ++ codes "\r\n") body) (sym text)
    (subst (λ (f : List ℕ). IsSplit ((f ++ codes "\r\n") ++ body) (f ++ codes "\r\n") body) (sym lines_are) c.split) in
    let first : first_line message ≡ status_text code =
    ap first_line text ∙ ap (λ (f : List ℕ). first_line ((f ++ codes "\r\n") ++ body)) lines_are ∙ c.first in
    let headers : header_lines (front ++ codes "\r\n") ≡ ts =
    ap (λ (f : List ℕ). header_lines (f ++ codes "\r\n")) lines_are ∙ c.headers in
    record {
      reply = record {
        split = split;
        line = subst (λ (t : List ℕ). IsStatusLine t code (phrase code)) (sym first) (status_text-status code status);
        body_is = (lengths_of whole split).body_is;
      };
      values = λ name. ap (first_value name) headers ∙ values_named name (all_fields sequence fields) plain;
    }
  where
    open parts use {code, sequence, fields, body}
