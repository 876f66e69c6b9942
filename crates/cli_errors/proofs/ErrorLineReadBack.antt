-- The line of an error is read back.
use Rattle.std.proofs.Common.{◌≡◌, ◌≢◌, ℕ, ◌<◌, ◌^◌, ◌&&◌, not, ◌==◌, nat_lt, nat_le, if◌then◌else◌, true}
use Rattle.std.proofs.Common.{false, List, [], ◌∷◌, ◌++◌, flat_map, drop, length, slice_index, Option, Some}
use Rattle.std.proofs.Common.{None, codes, decimal, refl, sym, ap, ◌∙◌, arith}
use Rattle.std.specs.List.{list_all}
use Rattle.std.specs.Str.{bytes_eq}
use Rattle.std.proofs.lemmas.Bool.{and_parts}
use Rattle.std.proofs.lemmas.List.{append_assoc}
use Rattle.std.proofs.lemmas.List.Elements.{All-append, All-cons, All-nil}
use Rattle.vod_base.specs.Names.{good_name, is_name_byte}
use Rattle.plan_cert.proofs.DecimalLemmas.{not_in_decimal}
use Rattle.cli_errors.specs.ErrorLines.{cause_text, cause_words, error_text}
use Rattle.cli_errors.specs.StreamWrites.{number_text}
use Rattle.cli_errors.specs.ErrorReports.{ErrorReport, no_meaning, refused_input, failed_library, failed_output}
use Rattle.cli_errors.specs.ErrorReports.{no_memory, failed_gate, failed_link, HasShortNumbers, IsErrorLine}
use Rattle.cli_errors.specs.ErrorReports.{IsPrintableError, error_report_of}
use Rattle.cli_errors.specs.declared.errors.InputError.{InputError}
use Rattle.cli_errors.specs.declared.errors.CliError.{CliError}
use Rattle.cli_errors.specs.declared.errors.CliError.TheVariants.{Usage, Refused, StoreFault, SinkFault}
use Rattle.cli_errors.specs.declared.errors.CliError.TheVariants.{NoMemory, GateFault, LinkFault}
use Rattle.cli_errors.proofs.CauseReadBack.{fault_from, is_plain, each_is_known}
use Rattle.vod_base.proofs.SplitLemmas.{none_is}
use Rattle.cli_errors.proofs.NumberTextLemmas.{HasNo, none_in_numbers, numbers_back, numbers_of, split, split_at}
use Rattle.cli_errors.proofs.NumberTextLemmas.{split_none, split_words}

-- ---- how a line is read
abbrev first_part : List (List ℕ) → List ℕ
first_part [] = []
first_part (part ∷ parts) = part

-- what stands after a colon: a blank, a refusal's name, its numbers
abbrev fault_read : List (List ℕ) → Option InputError
fault_read [] = None
fault_read (blank ∷ []) = None
fault_read (blank ∷ name ∷ numbers) = fault_from name (numbers_of numbers)

abbrev of_input : List ℕ → Option InputError → ErrorReport
of_input name None = failed_library name
of_input name (Some fault) = refused_input name fault

abbrev of_none : List ℕ → ErrorReport
of_none text =
    if bytes_eq text (codes "SinkFault\n") then failed_output
    else if bytes_eq text (codes "NoMemory\n") then no_memory
    else if bytes_eq text (codes "GateFault\n") then failed_gate
    else if bytes_eq text (codes "LinkFault\n") then failed_link else no_meaning

abbrev message_from : List (List ℕ) → ErrorReport
message_from [] = no_meaning
message_from (text ∷ []) = of_none text
message_from (name ∷ text ∷ []) = of_input name (fault_read (split 32 (first_part (split 10 text))))
message_from (name ∷ text ∷ more ∷ parts) = no_meaning

abbrev read_line : List ℕ → ErrorReport
read_line text = message_from (split 58 (drop 10 text))

-- ---- names and refusals have no colon and no end of a line
name_has_no : (c : ℕ) (name : List ℕ) → is_name_byte c ≡ false → good_name name ≡ true → HasNo c name
name_has_no c name other good =
    let parts = and_parts (nat_lt 0 (length name) && nat_le (length name) 64 && not (slice_index name 0 == 46))
    (list_all is_name_byte name) good in
    by name parts.1
  where
    apart : true ≡ false → ⊥
    apart e = cc

    by : (text : List ℕ) → list_all is_name_byte text ≡ true → HasNo c text
    by [] all = All-nil (λ b. b ≢ c)
    by (b ∷ text) all =
        let here = and_parts (is_name_byte b) (list_all is_name_byte text) all in
        All-cons (λ x. x ≢ c) b text (λ same. apart (sym here.0 ∙ ap is_name_byte same ∙ other)) (by text here.1)

plain_has_no : (c : ℕ) (word : List ℕ) → is_plain c ≡ false → list_all is_plain word ≡ true → HasNo c word
plain_has_no c [] other all = All-nil (λ b. b ≢ c)
plain_has_no c (b ∷ word) other all =
    let here = and_parts (is_plain b) (list_all is_plain word) all in
    All-cons (λ x. x ≢ c) b word (λ same. apart (sym here.0 ∙ ap is_plain same ∙ other))
    (plain_has_no c word other here.1)
  where
    apart : true ≡ false → ⊥
    apart e = cc

fault_has_no : (c : ℕ) (fault : InputError) → is_plain c ≡ false → 32 ≢ c
    → ((n : ℕ) → n < 2 ^ 64 → HasNo c (decimal n)) → HasShortNumbers fault → HasNo c (cause_text fault)
fault_has_no c fault other blank digits short =
    All-append (λ b. b ≢ c) (cause_words fault).name (flat_map number_text (cause_words fault).numbers)
    (plain_has_no c (cause_words fault).name other (each_is_known fault).word)
    (none_in_numbers c (cause_words fault).numbers blank digits short)

no_end : (fault : InputError) → HasShortNumbers fault → HasNo 10 (cause_text fault)
no_end fault short =
    fault_has_no 10 fault refl (λ e. omega (arith, e))
    (λ (n : ℕ) few. not_in_decimal 10 n few (λ within. omega (arith, within.0))) short

no_colon : (fault : InputError) → HasShortNumbers fault → HasNo 58 (cause_text fault)
no_colon fault short =
    fault_has_no 58 fault refl (λ e. omega (arith, e))
    (λ (n : ℕ) few. not_in_decimal 58 n few (λ within. omega (arith, within.1))) short

-- ---- a line that names an input
-- a line with a name and what stands after it
abbrev naming_line : List ℕ → List ℕ → List ℕ
naming_line name said = codes "vodserve: " ++ (name ++ 58 ∷ (32 ∷ (said ++ codes "\n")))

named_shape : (name said : List ℕ) → codes "vodserve: " ++ name ++ codes ": " ++ said ++ codes "\n"
    ≡ naming_line name said
named_shape name said = simp append_assoc

named_read : (name said : List ℕ) → good_name name ≡ true → HasNo 58 said → HasNo 10 said →
    read_line (naming_line name said) ≡ of_input name (fault_read ([] ∷ split 32 said))
named_read name said good colon end =
    let after = 32 ∷ (said ++ codes "\n") in
    let clean : HasNo 58 after =
    All-cons (λ b. b ≢ 58) 32 (said ++ codes "\n") (λ e. omega (arith, e))
    (All-append (λ b. b ≢ 58) said (codes "\n") colon (none_is 58 (codes "\n") refl)) in
    let line : HasNo 10 (32 ∷ said) = All-cons (λ b. b ≢ 10) 32 said (λ e. omega (arith, e)) end in
    ap message_from (split_at 58 name after refl (name_has_no 58 name refl good))
    ∙ ap (λ (parts : List (List ℕ)). message_from (name ∷ parts)) (split_none 58 after clean)
    ∙ ap (λ (parts : List (List ℕ)). of_input name (fault_read (split 32 (first_part parts))))
    (split_at 10 (32 ∷ said) [] refl line)

fault_back : (fault : InputError) → HasShortNumbers fault → fault_read ([] ∷ split 32 (cause_text fault)) ≡ Some fault
fault_back fault short =
    let words = cause_words fault in
    ap (λ (parts : List (List ℕ)). fault_read ([] ∷ parts))
    (split_words words.name words.numbers (plain_has_no 32 words.name refl (each_is_known fault).word) short)
    ∙ ap (fault_from words.name) (numbers_back words.numbers short)
    ∙ (each_is_known fault).from

-- ---- each line
line_back : (error : CliError) → IsPrintableError error → read_line (error_text error) ≡ error_report_of error
line_back (Refused name fault) may =
    ap read_line (named_shape name.now (cause_text fault))
    ∙ named_read name.now (cause_text fault) may.0 (no_colon fault may.1) (no_end fault may.1)
    ∙ ap (of_input name.now) (fault_back fault may.1)
line_back (StoreFault name) may =
    ap read_line (append_assoc (codes "vodserve: ") name.now (codes ": StoreFault\n"))
    ∙ named_read name.now (codes "StoreFault") may (none_is 58 (codes "StoreFault") refl)
    (none_is 10 (codes "StoreFault") refl)
line_back _ may = refl

pub message_told : (error error' : CliError) → IsPrintableError error → IsPrintableError error'
    → error_text error ≡ error_text error' → error_report_of error ≡ error_report_of error'
message_told error error' may may' same = sym (line_back error may) ∙ ap read_line same ∙ line_back error' may'

-- ---- each is one line
lone_line : (word : List ℕ) → list_all (λ b. not (b == 10)) word ≡ true →
    IsErrorLine (codes "vodserve: " ++ (word ++ codes "\n"))
lone_line word clean = record { rest = word; text_is = refl; one_line = none_is 10 word clean }

named_line : (name said : List ℕ) → good_name name ≡ true → HasNo 10 said
    → IsErrorLine (codes "vodserve: " ++ name ++ codes ": " ++ said ++ codes "\n")
named_line name said good no_end = record {
  rest = name ++ (codes ": " ++ said);
  text_is = simp append_assoc;
  one_line = All-append (λ b. b ≢ 10) name (codes ": " ++ said) (name_has_no 10 name refl good)
      (All-append (λ b. b ≢ 10) (codes ": ") said (none_is 10 (codes ": ") refl) no_end);
}

pub own_line : (error : CliError) → IsPrintableError error → IsErrorLine (error_text error)
own_line Usage may = lone_line (codes "usage") refl
own_line (Refused name fault) may = named_line name.now (cause_text fault) may.0 (no_end fault may.1)
own_line (StoreFault name) may = record {
  rest = name.now ++ codes ": StoreFault";
  text_is = simp append_assoc;
  one_line = All-append (λ b. b ≢ 10) name.now (codes ": StoreFault") (name_has_no 10 name.now refl may)
      (none_is 10 (codes ": StoreFault") refl);
}
own_line SinkFault may = lone_line (codes "SinkFault") refl
own_line NoMemory may = lone_line (codes "NoMemory") refl
own_line GateFault may = lone_line (codes "GateFault") refl
own_line LinkFault may = lone_line (codes "LinkFault") refl
