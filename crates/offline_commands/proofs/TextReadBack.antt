-- The texts of a scan and of a verdict are read back.
use Rattle.std.proofs.Common.{◌≡◌, ◌≢◌, ◌∙◌, ℕ, ◌+◌, ◌<◌, ◌^◌, ◌==◌, ◌&&◌, if◌then◌else◌, Bool, true, false, List, []}
use Rattle.std.proofs.Common.{◌∷◌, ◌++◌, All, length, map, flat_map, get_or, codes, decimal, refl, sym, ap, arith}
use Rattle.std.proofs.Common.{Option, Some, None}
use Rattle.std.specs.List.{AllZip}
use Rattle.std.specs.Option.{option_to_list}
use Rattle.std.specs.Prelude.{IfSome}
use Rattle.std.specs.Str.{bytes_eq}
use Rattle.std.proofs.lemmas.Fmt.{decimal_injective}
use Rattle.std.proofs.lemmas.List.{append-nil, append_assoc, append_cancel_left, append_cancel_right}
use Rattle.std.proofs.lemmas.List.Elements.{All-cons, All-head, All-nil, All-tail}
use Rattle.mpeg_scan.specs.declared.units.Kind.{Kind}
use Rattle.mpeg_scan.specs.declared.units.Kind.TheVariants.{I, P, B, D}
use Rattle.mpeg_scan.specs.declared.units.Unit.{Unit as PictureUnit}
use Rattle.cert_check.specs.CertFaults.{fault_number}
use Rattle.cert_check.specs.declared.CertFault.{CertFault}
use Rattle.cert_check.specs.declared.CertFault.TheVariants.{EmptySegment, WrongLength, WrongTotal, BelowLow, AboveUp}
use Rattle.cert_check.specs.declared.CertFault.TheVariants.{EqualSlopes, RiseOffUpper, FallOffLower}
use Rattle.plan_cert.proofs.DecimalLemmas.{not_in_decimal}
use Rattle.cli_errors.specs.StreamWrites.{number_text}
use Rattle.vod_base.proofs.SplitLemmas.{none_is}
use Rattle.cli_errors.proofs.NumberTextLemmas.{AreShort, HasNo, numbers_back, numbers_of, split, split_words}
use Rattle.offline_commands.specs.ScanText.{film_line, kind_text, word_if, scan_text, unit_line, unit_lines, unit_marks}
use Rattle.offline_commands.specs.ScanText.{unit_places}
use Rattle.offline_commands.specs.TextLaws.{AreAlike, IsSameScan, IsShortFault, IsShortUnit}
use Rattle.offline_commands.specs.VerdictText.{refused_line, cert_fault_text, fault_name}
use Rattle.offline_commands.proofs.NumberFieldLemmas.{field_cut, line_cut, two_cut}
use Rattle.offline_commands.proofs.ScanTextLemmas.{marks}

-- ---- a scan

-- a kind by its letter
kind_from : ℕ → Kind
kind_from b = if b == 73 then I else if b == 80 then P else if b == 66 then B else D

kind_byte : Kind → ℕ
kind_byte I = 73
kind_byte P = 80
kind_byte B = 66
kind_byte D = 68

kind_shape : (kind : Kind) → kind_text kind ≡ kind_byte kind ∷ []
unfolding kind_byte
kind_shape I = refl
kind_shape P = refl
kind_shape B = refl
kind_shape D = refl

kind_back : (kind : Kind) → kind_from (kind_byte kind) ≡ kind
unfolding kind_from kind_byte
kind_back I = refl
kind_back P = refl
kind_back B = refl
kind_back D = refl

-- what the words at the end of a unit's line say
sequence_of : List ℕ → Bool
sequence_of text = (get_or text 0 0 == 32) && (get_or text 1 0 == 115)

group_of : List ℕ → Bool
group_of text = if sequence_of text then get_or text 9 0 == 32 else get_or text 0 0 == 32

sequence_back : (sequence group : Bool) (rest : List ℕ) → sequence_of (marks sequence group ++ rest) ≡ sequence
unfolding sequence_of
sequence_back true true rest = refl
sequence_back true false rest = refl
sequence_back false true rest = refl
sequence_back false false rest = refl

group_back : (sequence group : Bool) (rest : List ℕ) → group_of (marks sequence group ++ rest) ≡ group
unfolding group_of sequence_of
group_back true true rest = refl
group_back true false rest = refl
group_back false true rest = refl
group_back false false rest = refl

-- the first byte of those words, which is no digit, and the others
mark_first : Bool → Bool → ℕ
mark_first true group = 32
mark_first false true = 32
mark_first false false = 10

mark_rest : Bool → Bool → List ℕ → List ℕ
mark_rest true group rest = codes "sequence" ++ (word_if group (codes " group") ++ codes "\n" ++ rest)
mark_rest false true rest = codes "group\n" ++ rest
mark_rest false false rest = rest

mark_shape : (sequence group : Bool) (rest : List ℕ)
    → marks sequence group ++ rest ≡ mark_first sequence group ∷ mark_rest sequence group rest
unfolding mark_first mark_rest
mark_shape true true rest = refl
mark_shape true false rest = refl
mark_shape false true rest = refl
mark_shape false false rest = refl

no_digit : (sequence group : Bool) (n : ℕ) → n < 2 ^ 64 → All (λ b. b ≢ mark_first sequence group) (decimal n)
unfolding mark_first
no_digit true group n small = not_in_decimal 32 n small (λ within. omega (arith, within.0))
no_digit false true n small = not_in_decimal 32 n small (λ within. omega (arith, within.0))
no_digit false false n small = not_in_decimal 10 n small (λ within. omega (arith, within.0))

-- what the words at the end of a line say, with what follows
record AreMarked (sequence sequence' group group' : Bool) (xs ys : List ℕ) : Type 0 where
  sequence_is : sequence ≡ sequence'
  group_is : group ≡ group'
  rest : xs ≡ ys

marks_told : {sequence sequence' group group' : Bool} {xs ys : List ℕ}
    → marks sequence group ++ xs ≡ marks sequence' group' ++ ys → AreMarked sequence sequence' group group' xs ys
marks_told {sequence} {sequence'} {group} {group'} {xs} {ys} e =
    let s : sequence ≡ sequence' = sym (sequence_back sequence group xs) ∙ ap sequence_of e
    ∙ sequence_back sequence' group' ys in
    let g : group ≡ group' = sym (group_back sequence group xs) ∙ ap group_of e ∙ group_back sequence' group' ys in
    let same : marks sequence' group' ≡ marks sequence group =
    ap (λ (b : Bool). marks b group') (sym s) ∙ ap (marks sequence) (sym g) in
    record {
      sequence_is = s;
      group_is = g;
      rest = append_cancel_left (marks sequence group) xs ys (e ∙ ap (λ (m : List ℕ). m ++ ys) same);
    }

-- the number of slices, the words after it, and what follows
record AreEnded (n m : ℕ) (sequence sequence' group group' : Bool) (xs ys : List ℕ) : Type 0 where
  number : n ≡ m
  marked : AreMarked sequence sequence' group group' xs ys

ends_told : {n m : ℕ} {sequence sequence' group group' : Bool} {xs ys : List ℕ} → n < 2 ^ 64 → m < 2 ^ 64 →
    decimal n ++ (marks sequence group ++ xs) ≡ decimal m ++ (marks sequence' group' ++ ys)
    → AreEnded n m sequence sequence' group group' xs ys
ends_told {n} {m} {sequence} {sequence'} {group} {group'} {xs} {ys} small small' e =
    let cut = two_cut
    (ap (λ (l : List ℕ). decimal n ++ l) (sym (mark_shape sequence group xs)) ∙ e
    ∙ ap (λ (l : List ℕ). decimal m ++ l) (mark_shape sequence' group' ys))
    (no_digit sequence' group' n small) (no_digit sequence group m small') in
    record {
      number = decimal_injective n m small small' cut.front;
      marked = marks_told (mark_shape sequence group xs ∙ cut.rest ∙ sym (mark_shape sequence' group' ys));
    }

-- a unit's line, from its kind on, with what follows
after_number : PictureUnit → List ℕ → List ℕ
after_number unit rest =
    kind_byte unit.kind
    ∷ (codes " show="
    ++ (decimal unit.presentation ++ 32
    ∷ (codes "from=" ++ (decimal unit.from ++ 32 ∷ (codes "head=" ++ (decimal unit.head_end ++ 32 ∷ (codes "to="
    ++ (decimal unit.to ++ 32
    ∷ (codes "slices=" ++ (decimal unit.slices ++ (marks unit.has_sequence unit.starts_group ++ rest)))))))))))

unit_shape : (number : ℕ) (unit : PictureUnit) (rest : List ℕ)
    → unit_line number unit ++ rest ≡ decimal number ++ 32 ∷ after_number unit rest
unfolding after_number
unit_shape number unit rest =
    ap (λ (k : List ℕ).
    (decimal number ++ codes " " ++ k ++ codes " show=" ++ decimal unit.presentation ++ unit_places unit
    ++ unit_marks unit) ++ rest) (kind_shape unit.kind)
    ∙ (simp append_assoc)

-- units that are alike, with what follows
record AreTold (unit other : PictureUnit) (xs ys : List ℕ) : Type 0 where
  alike : AreAlike unit other
  rest : xs ≡ ys

tail_of : List ℕ → List ℕ
tail_of [] = []
tail_of (b ∷ text) = text

-- two units, neither of them long
record ShortUnits (unit other : PictureUnit) : Type 0 where
  short : IsShortUnit unit
  also_short : IsShortUnit other

unit_told : {unit other : PictureUnit} (xs ys : List ℕ) → ShortUnits unit other →
    after_number unit xs ≡ after_number other ys → AreTold unit other xs ys
unfolding after_number tail_of
unit_told {unit} {other} xs ys shorts e =
    let kind : unit.kind ≡ other.kind =
    sym (kind_back unit.kind) ∙ ap (λ (l : List ℕ). kind_from (get_or l 0 0)) e ∙ kind_back other.kind in
    let show = field_cut (codes "from=") short.presentation short'.presentation
    (append_cancel_left (codes " show=") _ _ (ap tail_of e)) in
    let from = field_cut (codes "head=") short.from short'.from show.rest in
    let head = field_cut (codes "to=") short.head_end short'.head_end from.rest in
    let to = field_cut (codes "slices=") short.to short'.to head.rest in
    let end = ends_told short.slices short'.slices to.rest in
    record {
      alike = assumption (kind, show.number, from.number, head.number, to.number, end.number, end.marked);
      rest = end.marked.rest;
    }
  where
    open shorts use {short, also_short as short'}

-- as many units as others, none of them long, with numbers in their range
record ShortLists (number : ℕ) (units others : List PictureUnit) : Type 0 where
  long : length units ≡ length others
  few : number + length units < 2 ^ 64
  short : All IsShortUnit units
  also_short : All IsShortUnit others

-- the lines of as many units, with what follows
units_told : (number : ℕ) (units others : List PictureUnit) (xs : List ℕ) → ShortLists number units others →
    unit_lines number units ++ xs ≡ unit_lines number others ++ xs → AllZip AreAlike units others
unfolding tail_of
units_told number [] [] xs lists e = tt
units_told number [] (other ∷ others) xs lists e = absurd (omega (arith, lists.long))
units_told number (unit ∷ units) [] xs lists e = absurd (omega (arith, lists.long))
units_told number (unit ∷ units) (other ∷ others) xs lists e =
    let more = unit_lines (number + 1) units ++ xs in
    let more' = unit_lines (number + 1) others ++ xs in
    let line : decimal number ++ 32 ∷ after_number unit more ≡ decimal number ++ 32 ∷ after_number other more' =
    sym (append_assoc (unit_line number unit) (unit_lines (number + 1) units) xs ∙ unit_shape number unit more) ∙ e
    ∙ append_assoc (unit_line number other) (unit_lines (number + 1) others) xs ∙ unit_shape number other more' in
    let told = unit_told more more' (record {
      short = All-head IsShortUnit unit units short;
      also_short = All-head IsShortUnit other others short';
    })
    (ap tail_of (append_cancel_left (decimal number) (32 ∷ after_number unit more)
    (32 ∷ after_number other more') line)) in (
      told.alike,
      units_told (number + 1) units others xs (record {
        long = omega (arith, long);
        few = omega (arith, few);
        short = All-tail IsShortUnit unit units short;
        also_short = All-tail IsShortUnit other others short';
      }) told.rest,
    )
  where
    open lists use {long, few, short, also_short as short'}

film_shape : (bytes rate pictures : ℕ) (rest : List ℕ) → film_line bytes rate pictures ++ rest
    ≡ codes "film bytes=" ++
    (decimal bytes ++ 32 ∷
    (codes "rate=" ++ (decimal rate ++ 32 ∷ (codes "pictures=" ++ (decimal pictures ++ 10 ∷ rest)))))
film_shape bytes rate pictures rest = simp append_assoc

-- what a scan says about a film, in its ranges
pub record ScannedFilm : Type 0 where
  pub bytes : ℕ
  pub rate : ℕ
  pub units : List PictureUnit
  pub bytes_fit : bytes < 2 ^ 64
  pub rate_fits : rate < 2 ^ 64
  pub units_fit : length units < 2 ^ 64
  pub short : All IsShortUnit units

abbrev pub scanned_film : {bytes rate : ℕ} (units : List PictureUnit) → bytes < 2 ^ 64 → rate < 2 ^ 64 →
    length units < 2 ^ 64 → All IsShortUnit units → ScannedFilm
scanned_film {bytes} {rate} units b r n short =
    record { bytes = bytes; rate = rate; units = units; bytes_fit = b; rate_fits = r; units_fit = n; short = short }

pub scan_told : (scanned other : ScannedFilm) →
    scan_text scanned.bytes scanned.rate scanned.units ≡ scan_text other.bytes other.rate other.units →
    IsSameScan scanned.bytes other.bytes scanned.rate other.rate scanned.units other.units
scan_told scanned other e =
    let more = unit_lines 0 units ++ codes "end\n" in
    let more' = unit_lines 0 units' ++ codes "end\n" in
    let shape = append_assoc (film_line bytes rate (length units)) (unit_lines 0 units) (codes "end\n")
    ∙ film_shape bytes rate (length units) more in
    let shape' =
    append_assoc (film_line bytes' rate' (length units')) (unit_lines 0 units') (codes "end\n")
    ∙ film_shape bytes' rate' (length units') more' in
    let first =
    field_cut (codes "rate=") b b' (append_cancel_left (codes "film bytes=") _ _ (sym shape ∙ e ∙ shape')) in
    let second = field_cut (codes "pictures=") r r' first.rest in
    let third = line_cut n n' second.rest in
    record {
      bytes_are = first.number;
      rate_is = second.number;
      units_are = units_told 0 units units' (codes "end\n") (record {
        long = third.number;
        few = omega (arith, n);
        short = short;
        also_short = short';
      }) third.rest;
    }
  where
    open scanned use {bytes, rate, units, bytes_fit as b, rate_fits as r, units_fit as n, short}
    open other use {
      bytes as bytes',
      rate as rate',
      units as units',
      bytes_fit as b',
      rate_fits as r',
      units_fit as n',
      short as short',
    }

-- ---- a verdict
abbrev numbers_after : CertFault → List ℕ
numbers_after fault = option_to_list (fault_number fault)

numbers_short : (number : Option ℕ) → IfSome number (λ n. n < 2 ^ 64) → AreShort (option_to_list number)
numbers_short None short = All-nil (λ k. k < 2 ^ 64)
numbers_short (Some n) short = All-cons (λ k. k < 2 ^ 64) n [] short (All-nil (λ k. k < 2 ^ 64))

abbrev first_or : CertFault → List ℕ → (ℕ → CertFault) → CertFault
first_or none [] fault = none
first_or none (n ∷ ns) fault = fault n

fault_of : List (List ℕ) → CertFault
fault_of [] = WrongLength
fault_of (name ∷ words) =
    if bytes_eq name (codes "EmptySegment") then first_or WrongLength (numbers_of words) EmptySegment
    else if bytes_eq name (codes "WrongTotal") then WrongTotal
    else if bytes_eq name (codes "BelowLow") then first_or WrongLength (numbers_of words) BelowLow
    else if bytes_eq name (codes "AboveUp") then first_or WrongLength (numbers_of words) AboveUp
    else if bytes_eq name (codes "EqualSlopes") then first_or WrongLength (numbers_of words) EqualSlopes
    else if bytes_eq name (codes "RiseOffUpper") then first_or WrongLength (numbers_of words) RiseOffUpper
    else if bytes_eq name (codes "FallOffLower") then first_or WrongLength (numbers_of words) FallOffLower
    else WrongLength

-- a fault's text is its name and its numbers, by which it is known
record IsFaultRead (fault : CertFault) (numbers : List ℕ) : Type 0 where
  shape : cert_fault_text fault ≡ fault_name fault ++ flat_map number_text numbers
  word : HasNo 32 (fault_name fault)
  back : AreShort numbers → fault_of (fault_name fault ∷ map decimal numbers) ≡ fault

-- a fault without a number
alone_read : (fault : CertFault) → cert_fault_text fault ≡ fault_name fault → HasNo 32 (fault_name fault) →
    fault_of (fault_name fault ∷ []) ≡ fault → IsFaultRead fault []
alone_read fault text word back = record {
  shape = text ∙ sym (append-nil (fault_name fault));
  word = word;
  back = λ _. back;
}

-- a fault with one
number_read : (fault : ℕ → CertFault) (n : ℕ) → cert_fault_text (fault n) ≡ fault_name (fault n) ++ number_text n
    → HasNo 32 (fault_name (fault n)) → fault_of (fault_name (fault n) ∷ decimal n ∷ [])
    ≡ first_or WrongLength (numbers_of (decimal n ∷ [])) fault → IsFaultRead (fault n) (n ∷ [])
number_read fault n text word back = record {
  shape = text ∙ ap (λ (l : List ℕ). fault_name (fault n) ++ l) (sym (append-nil (number_text n)));
  word = word;
  back = λ short. back ∙ ap (λ (ns : List ℕ). first_or WrongLength ns fault) (numbers_back (n ∷ []) short);
}

fault_read : (fault : CertFault) → IsFaultRead fault (numbers_after fault)
unfolding fault_of
fault_read (EmptySegment i) = number_read EmptySegment i refl (none_is 32 (codes "EmptySegment") refl) refl
fault_read WrongLength = alone_read WrongLength refl (none_is 32 (codes "WrongLength") refl) refl
fault_read WrongTotal = alone_read WrongTotal refl (none_is 32 (codes "WrongTotal") refl) refl
fault_read (BelowLow t) = number_read BelowLow t refl (none_is 32 (codes "BelowLow") refl) refl
fault_read (AboveUp t) = number_read AboveUp t refl (none_is 32 (codes "AboveUp") refl) refl
fault_read (EqualSlopes i) = number_read EqualSlopes i refl (none_is 32 (codes "EqualSlopes") refl) refl
fault_read (RiseOffUpper i) = number_read RiseOffUpper i refl (none_is 32 (codes "RiseOffUpper") refl) refl
fault_read (FallOffLower i) = number_read FallOffLower i refl (none_is 32 (codes "FallOffLower") refl) refl

text_read : (fault : CertFault) → IsShortFault fault → fault_of (split 32 (cert_fault_text fault)) ≡ fault
text_read fault short =
    let own = fault_read fault in
    let numbers = numbers_short (fault_number fault) short in
    ap (λ (t : List ℕ). fault_of (split 32 t)) own.shape
    ∙ ap fault_of (split_words (fault_name fault) (numbers_after fault) own.word numbers) ∙ own.back numbers

pub fault_told : (fault fault' : CertFault) → IsShortFault fault → IsShortFault fault'
    → refused_line fault ≡ refused_line fault' → fault ≡ fault'
fault_told fault fault' short short' e =
    let texts : cert_fault_text fault ≡ cert_fault_text fault' =
    append_cancel_left (codes "refused ") (cert_fault_text fault) (cert_fault_text fault')
    (append_cancel_right (codes "refused " ++ cert_fault_text fault)
    (codes "refused " ++ cert_fault_text fault') (codes "\n") e) in
    sym (text_read fault short) ∙ ap (λ (t : List ℕ). fault_of (split 32 t)) texts ∙ text_read fault' short'

pub not_least : (fault : CertFault) → refused_line fault ≢ codes "least\n"
not_least fault e = let first : 114 ≡ 108 = ap (λ (l : List ℕ). get_or l 0 0) e in omega (arith, first)
