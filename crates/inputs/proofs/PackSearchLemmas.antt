-- The first start code of bytes, looked for from the beginning on.
use Rattle.std.proofs.Common.{◌≡◌, ℕ, ◌+◌, ◌-◌, ◌<◌, ◌≤◌, true, false, cond, eqb, List, [], ◌∷◌, ◌++◌}
use Rattle.std.proofs.Common.{append_assoc, length, take, drop, Option, Some, None, inl, inr, refl, sym, ap}
use Rattle.std.proofs.Common.{subst, ◌∙◌, arith, get_or, length-append}
use Rattle.std.specs.Prelude.{IfSome, option_map}
use Rattle.std.proofs.lemmas.Bool.{cases_Bool}
use Rattle.std.proofs.lemmas.List.{length-take-le, take_more, take-append-drop}
use Rattle.mpeg_scan.specs.declared.codes.Code.{Code}
use Rattle.mpeg_scan.specs.StartCodes.{codes_of, is_whole, latest_prefix, next_prefix, note, note_latest, read_after}
use Rattle.mpeg_scan.proofs.CodeLemmas.{matched-more}
use Rattle.mpeg_scan.proofs.FilmLemmas.{length-read}
use Rattle.mpeg_scan.proofs.ByteReadLemmas.{read-append}
use Rattle.mpeg_scan.proofs.ScanStepLemmas.{codes-none, codes-plain, codes-code}
use Rattle.vod_base.specs.IoState.{File, file_named}
use Rattle.inputs.specs.FileReads.{IsFilePrefix}
use Rattle.inputs.proofs.ReadLemmas.{FileFront, first_front, front_rest}
use Rattle.inputs.specs.ChunkScans.{IsOpened}
use Rattle.inputs.specs.PackSearch.{HasNoCode}
use Rattle.inputs.specs.Videos.{pack_in, pack_of}
use Rattle.mpeg_scan.specs.declared.codes.Prefix.{Prefix}
use Rattle.mpeg_scan.specs.declared.codes.Prefix.TheVariants.{Nothing, Zero, Zeros, Whole}

-- before the first byte
pub open_none : HasNoCode Nothing []
unfolding latest_prefix
open_none = record { none = codes-none; prefix_is = refl }

-- a byte that isn't the value of a start code
open_more : {prefix : Prefix} {seen : List ℕ} (byte : ℕ) → HasNoCode prefix seen → is_whole prefix ≡ false
    → HasNoCode (next_prefix prefix byte) (seen ++ byte ∷ [])
open_more {seen} byte so_far part =
    let joined : read_after [] (seen ++ byte ∷ []) ≡ byte ∷ read_after [] seen = read-append [] seen (byte ∷ []) in
    let plain : is_whole (latest_prefix (read_after [] seen)) ≡ false = ap is_whole (sym so_far.prefix_is) ∙ part in
    record {
      none = ap codes_of joined ∙ codes-plain byte (read_after [] seen) plain
          ∙ ap (λ (l : List Code). note_latest l byte) so_far.none;
      prefix_is = ap (λ p. next_prefix p byte) so_far.prefix_is ∙ sym (matched-more byte (read_after [] seen))
          ∙ ap latest_prefix (sym joined);
    }

-- ---- the first code stays the first one

pack-note : (c : Code) (older : List Code) (x : ℕ) → pack_of (note c x ∷ older) ≡ pack_of (c ∷ older)
pack-note c [] x = refl
pack-note c (o ∷ older) x = refl

record HasOlder (r : List ℕ) (pack : Option ℕ) : Type 0 where
  code : Code
  older : List Code
  are : codes_of r ≡ code ∷ older
  pack_is : pack_of (code ∷ older) ≡ pack

older-more : (r : List ℕ) (x : ℕ) (pack : Option ℕ) → HasOlder r pack → HasOlder (x ∷ r) pack
older-more r x pack has =
    let noted : note_latest (codes_of r) x ≡ note has.code x ∷ has.older =
    ap (λ (l : List Code). note_latest l x) has.are in
    elim (cases_Bool (is_whole (latest_prefix r))) [
      | inl e ↦ record {
        code = record { place = length r - 3; value = x; header = [] };
        older = note has.code x ∷ has.older;
        are = codes-code x r e
            ∙ ap (λ (l : List Code). (record { place = length r - 3; value = x; header = [] }) ∷ l) noted;
        pack_is = pack-note has.code has.older x ∙ has.pack_is;
      }
      | inr e ↦ record {
        code = note has.code x;
        older = has.older;
        are = codes-plain x r e ∙ noted;
        pack_is = pack-note has.code has.older x ∙ has.pack_is;
      }
    ]

pack-stays : (more r : List ℕ) (pack : Option ℕ) → HasOlder r pack → pack_of (codes_of (read_after r more)) ≡ pack
pack-stays [] r pack has = ap pack_of has.are ∙ has.pack_is
pack-stays (x ∷ more) r pack has = pack-stays more (x ∷ r) pack (older-more r x pack has)

-- a byte that is the value of the first code
first_code : (prefix : Prefix) (seen : List ℕ) (byte : ℕ) → HasNoCode prefix seen → prefix ≡ Whole →
    HasOlder (byte ∷ read_after [] seen) (cond (eqb byte 0xba) (Some (length seen - 3)) None)
first_code prefix seen byte so_far whole =
    let is : is_whole (latest_prefix (read_after [] seen)) ≡ true = ap is_whole (sym so_far.prefix_is ∙ whole) in
    let long : length (read_after [] seen) ≡ length seen = length-read seen [] ∙ omega arith in
    record {
      code = record { place = length (read_after [] seen) - 3; value = byte; header = [] };
      older = [];
      are = codes-code byte (read_after [] seen) is
          ∙ ap (λ (l : List Code). (record { place = length (read_after [] seen) - 3; value = byte; header = [] })
          ∷ note_latest l byte) so_far.none;
      pack_is = ap (λ n. cond (eqb byte 0xba) (Some (n - 3)) None) long;
    }

-- whatever follows it
first_found : {prefix : Prefix} {seen : List ℕ} (byte : ℕ) (more : List ℕ) → HasNoCode prefix seen → prefix ≡ Whole
    → pack_in ((seen ++ byte ∷ []) ++ more) ≡ cond (eqb byte 0xba) (Some (length seen - 3)) None
first_found {prefix} {seen} byte more so_far whole =
    let joined : read_after [] ((seen ++ byte ∷ []) ++ more) ≡ read_after (byte ∷ read_after [] seen) more =
    read-append [] (seen ++ byte ∷ []) more
    ∙ ap (λ (r : List ℕ). read_after r more) (read-append [] seen (byte ∷ [])) in
    ap (λ (r : List ℕ). pack_of (codes_of r)) joined
    ∙ pack-stays more (byte ∷ read_after [] seen) (cond (eqb byte 0xba) (Some (length seen - 3)) None)
    (first_code prefix seen byte so_far whole)

-- bytes without a start code begin no system stream
pub open_plain : (prefix : Prefix) (seen : List ℕ) → HasNoCode prefix seen → pack_in seen ≡ None
open_plain prefix seen so_far = ap pack_of so_far.none

-- a byte of a chunk, and what follows it
pub at_byte : (seen chunk more : List ℕ) (index : ℕ) → index < length chunk →
    (seen ++ chunk) ++ more ≡ ((seen ++ take index chunk) ++ get_or chunk index 0 ∷ [])
    ++ (drop (index + 1) chunk ++ more)
at_byte seen chunk more index inside =
    let split : chunk ≡ (take index chunk ++ get_or chunk index 0 ∷ []) ++ drop (index + 1) chunk =
    sym (take-append-drop (index + 1) chunk)
    ∙ ap (λ (l : List ℕ). l ++ drop (index + 1) chunk) (take_more chunk index 0 inside) in
    ap (λ (l : List ℕ). (seen ++ l) ++ more) split ∙ search (append_assoc, sym)

-- a file of the library, of which a prefix was looked through
pub record HasLooked (held : List File) (name : List ℕ) (size place : ℕ) (prefix : Prefix) : Type 0 where
  pub bytes : List ℕ
  pub front : IsFilePrefix held name size bytes
  pub long : length bytes ≡ place
  pub unfound : HasNoCode prefix bytes

pub none_looked : (held : List File) (name : List ℕ) (size : ℕ)
    → Some size ≡ option_map length (file_named held name) → HasLooked held name size 0 Nothing
none_looked held name size found =
    record { bytes = []; front = first_front held name size found; long = refl; unfound = open_none }

-- the first start code of a file stands in a prefix of it
pub opened_by : (prefix : FileFront) (pack : Option ℕ)
    → ((rest : List ℕ) → pack_in (prefix.bytes ++ rest) ≡ pack) → IfSome pack (λ place. place ≤ prefix.size)
    → IsOpened prefix.held prefix.name prefix.size pack
opened_by prefix pack is within = record {
  file = front.whole;
  found = front.found;
  sized = front.sized;
  pack = ap pack_in (sym (front_rest held name size bytes front)) ∙ is (drop (length bytes) front.whole);
  within = within;
}
  where
    open prefix use {held, name, size, bytes, front}

-- the bytes before one of a chunk, which stands at `at`, have no start code
pub record OpenBefore : Type 0 where
  pub prefix : Prefix
  pub seen : List ℕ
  pub chunk : List ℕ
  pub index : ℕ
  pub at : ℕ
  pub inside : index < length chunk
  pub long : length seen ≡ at
  pub so_far : HasNoCode prefix (seen ++ take index chunk)

-- one byte of a chunk more
pub open_step : {next : Prefix} (before : OpenBefore) → is_whole before.prefix ≡ false
    → next ≡ next_prefix before.prefix (get_or before.chunk before.index 0)
    → HasNoCode next (before.seen ++ take (before.index + 1) before.chunk)
open_step before part is =
    let byte = get_or chunk index 0 in
    let joined : (seen ++ take index chunk) ++ byte ∷ [] ≡ seen ++ take (index + 1) chunk =
    append_assoc seen (take index chunk) (byte ∷ [])
    ∙ ap (λ (l : List ℕ). seen ++ l) (sym (take_more chunk index 0 before.inside)) in
    let Open : Prefix → Type 0 = λ p. HasNoCode p (seen ++ take (index + 1) chunk) in
    subst Open (sym is) (subst (HasNoCode (next_prefix prefix byte)) joined (open_more byte before.so_far part))
  where
    open before use {prefix, seen, chunk, index}

-- the first code of a chunk is found
pub found_step : {pack : Option ℕ} (before : OpenBefore) → before.prefix ≡ Whole
    → cond (eqb (get_or before.chunk before.index 0) 0xba) (Some (before.at + before.index - 3)) None ≡ pack
    → (more : List ℕ) → pack_in ((before.seen ++ before.chunk) ++ more) ≡ pack
found_step before whole is more =
    let byte = get_or chunk index 0 in
    let place : length (seen ++ take index chunk) ≡ at + index =
    omega (
      arith,
      length-append seen (take index chunk),
      before.long,
      length-take-le index chunk (omega (arith, before.inside)),
    ) in
    ap pack_in (at_byte seen chunk more index before.inside)
    ∙ first_found byte (drop (index + 1) chunk ++ more) before.so_far whole
    ∙ ap (λ n. cond (eqb byte 0xba) (Some (n - 3)) None) place ∙ is
  where
    open before use {seen, chunk, index, at}

pub not_whole : (prefix : Prefix) → (prefix ≡ Whole → ⊥) → is_whole prefix ≡ false
not_whole Nothing other = refl
not_whole Zero other = refl
not_whole Zeros other = refl
not_whole Whole other = absurd (other refl)
