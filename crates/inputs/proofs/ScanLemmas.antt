-- A film that is scanned chunk by chunk.
use Rattle.std.proofs.Common.{◌≡◌, ℕ, ◌≤◌, ◌^◌, List, [], ◌++◌, length, drop, Some, None}
use Rattle.std.proofs.Common.{Option, Result, Ok, Err, inr, refl, sym, ap, ◌∙◌, arith, subst}
use Rattle.std.specs.Prelude.{IfErr, IfOk, IsErrAnd}
use Rattle.vod_base.specs.IoState.{File, file_named}
use Rattle.mpeg_scan.specs.declared.faults.FilmFault.{FilmFault}
use Rattle.mpeg_scan.specs.declared.scanner.Ending.{Ending}
use Rattle.mpeg_scan.specs.declared.scanner.Scanner.{Scanner}
use Rattle.mpeg_scan.specs.StartCodes.{read_after, codes_of}
use Rattle.mpeg_scan.specs.Calls.{Call, calls_of}
use Rattle.mpeg_scan.specs.FilmFaults.{first_fault}
use Rattle.mpeg_scan.specs.Films.{refusal}
use Rattle.mpeg_scan.specs.ScannerState.{HasScannedBytes}
use Rattle.mpeg_scan.proofs.ByteReadLemmas.{read-append, fault-stays}
use Rattle.mpeg_scan.proofs.FilmLemmas.{calls-none, refusal-at_code}
use Rattle.sys_demux.specs.declared.faults.SystemFault.{SystemFault}
use Rattle.cli_errors.specs.declared.errors.InputError.{InputError}
use Rattle.cli_errors.specs.declared.errors.InputError.TheVariants.{Film, System}
use Rattle.cli_errors.specs.declared.errors.CliError.{CliError}
use Rattle.cli_errors.specs.ReadErrors.{IsReadError, IsLibraryUnchanged}
use Rattle.cli_errors.proofs.ReadErrorLemmas.{causes_of, trouble_map}
use Rattle.inputs.specs.LoadErrors.{IsFilmFault, IsFilmError, IsSystemFault, IsSystemError}
use Rattle.inputs.specs.FileReads.{IsFilePrefix, IsThatName, IsNever}
use Rattle.inputs.specs.ChunkScans.{HasScannedFilm, HasRefused, HasReportedParts, HoldsVideo}
use Rattle.inputs.specs.ChunkScans.{IsFilmRefused, IsOpened, IsScanError}
use Rattle.inputs.specs.Videos.{IsVideo, IsVideoFrom}
use Rattle.inputs.proofs.ReadLemmas.{front_rest, one_file}
use Rattle.inputs.proofs.RefusalLemmas.{LibraryCall, each_film_fault, each_system_fault, refusal_read}

-- a file of a library whose first start code was looked for, of at most 2^40 bytes
pub record FilmFile (from : Option ℕ) : Type 0 where
  pub held : List File
  pub name : List ℕ
  pub size : ℕ
  pub opened : IsOpened held name size from
  pub short : size ≤ 2 ^ 40

abbrev pub film_file : {held : List File} {name : List ℕ} {size : ℕ} {from : Option ℕ} → IsOpened held name size from
    → size ≤ 2 ^ 40 → FilmFile from
film_file {held} {name} {size} opened short =
    record { held = held; name = name; size = size; opened = opened; short = short }

pub file_short : {from : Option ℕ} (file : FilmFile from) → length file.opened.file ≤ 2 ^ 40
file_short file = omega (arith, file.opened.sized, file.short)

-- the video that a file is, as the library holds it, and its refusal
pub plain_video : (file : FilmFile None) → IsVideo file.opened.file file.opened.file
plain_video file =
    let bytes = file.opened.file in
    subst (λ (o : Option ℕ). IsVideoFrom o bytes bytes) (sym file.opened.pack) refl

pub plain_holds : {bytes : List ℕ} (file : FilmFile None) → file_named file.held file.name ≡ Some bytes
    → refusal bytes ≡ None → HoldsVideo file.held file.name bytes
plain_holds {bytes} file found accepted =
    let same : file.opened.file ≡ bytes =
    one_file file.held file.name file.opened.file bytes file.opened.found found in
    subst (HoldsVideo file.held file.name) same (record {
      file = file.opened.file;
      found = file.opened.found;
      short = file_short file;
      is_video = plain_video file;
      accepted = ap refusal same ∙ accepted;
    })

pub plain_refused : {bytes : List ℕ} {fault : FilmFault} (file : FilmFile None)
    → file_named file.held file.name ≡ Some bytes → refusal bytes ≡ Some fault
    → IsFilmRefused file.held file.name (Film fault)
plain_refused {bytes} file found refused =
    let opened = file.opened in
    let same : opened.file ≡ bytes = one_file file.held file.name opened.file bytes opened.found found in
    inr (
      opened.file,
      (opened.found, inr (file_short file, (opened.file, (plain_video file, ap refusal same ∙ refused)))),
    )

-- a scanner that is fed a chunk
pub record ScanStep : Type 1 where
  pub Heard : List Call → Type 0
  pub Next : List Call → Type 0
  pub scanner : Scanner
  pub next : Scanner
  pub chunk : List ℕ
  pub kept : (r : List ℕ) → HasScannedBytes scanner r → HasScannedBytes next (read_after r chunk)
  pub tells : (r : List ℕ) (calls : List Call) → HasScannedBytes scanner r → Heard (calls ++ calls_of (codes_of r))
      → Next (calls ++ calls_of (codes_of (read_after r chunk)))

pub more_told : {video : List ℕ} (step : ScanStep) → HasReportedParts step.Heard step.scanner video
    → HasReportedParts step.Next step.next (video ++ step.chunk)
more_told {video} step so_far =
    let joined : read_after [] (video ++ chunk) ≡ read_after (read_after [] video) chunk = read-append [] video chunk in
    record {
      fed = subst (HasScannedBytes next) (sym joined) (kept (read_after [] video) so_far.fed);
      heard = subst (λ (r : List ℕ). Next (calls_of (codes_of r))) (sym joined)
          (tells (read_after [] video) [] so_far.fed so_far.heard);
    }
  where
    open step use {Next, next, chunk, kept, tells}

-- what is refused at a code of a prefix of the bytes is refused
pub front_refused : (front rest : List ℕ) (fault : FilmFault) → length (front ++ rest) ≤ 2 ^ 40 →
    first_fault (codes_of (read_after [] front)) ≡ Some fault →
    refusal (front ++ rest) ≡ Some fault
front_refused front rest fault short is =
    refusal-at_code (front ++ rest) fault short
    (ap (λ (r : List ℕ). first_fault (codes_of r)) (read-append [] front rest)
    ∙ fault-stays rest (read_after [] front) fault is)

pub chunk_refused : {fault : FilmFault} (file : FilmFile None) (bytes chunk : List ℕ)
    → IsFilePrefix file.held file.name file.size (bytes ++ chunk)
    → first_fault (codes_of (read_after (read_after [] bytes) chunk)) ≡ Some fault
    → IsFilmRefused file.held file.name (Film fault)
chunk_refused {fault} file bytes chunk front is =
    let rest : List ℕ = drop (length (bytes ++ chunk)) front.whole in
    let whole : (bytes ++ chunk) ++ rest ≡ front.whole =
    front_rest file.held file.name file.size (bytes ++ chunk) front in
    let few : length ((bytes ++ chunk) ++ rest) ≤ 2 ^ 40 = omega (arith, front.sized, file.short, ap length whole) in
    let at : first_fault (codes_of (read_after [] (bytes ++ chunk))) ≡ Some fault =
    ap (λ (r : List ℕ). first_fault (codes_of r)) (read-append [] bytes chunk) ∙ is in
    plain_refused file front.found (ap refusal (sym whole) ∙ front_refused (bytes ++ chunk) rest fault few at)

-- before the first chunk
pub none_told : (Heard : List Call → Type 0) (scanner : Scanner) → HasScannedBytes scanner [] → Heard []
    → HasReportedParts Heard scanner []
none_told Heard scanner fed fresh = record { fed = fed; heard = subst Heard (sym calls-none) fresh }

pub refused_ended : (scanner : Scanner) (video : List ℕ) → length video ≤ 2 ^ 40
    → (so_far : HasRefused scanner video) → refusal video ≡ Some so_far.fault
refused_ended scanner video short so_far =
    ap refusal so_far.video_is
    ∙ front_refused so_far.front so_far.rest so_far.fault
    (omega (arith, short, ap length so_far.video_is)) so_far.refused

-- ---- answers that are handed on

pub handed_on : {T E : Type 0} {e : E} (P : E → Type 0) (r : Result T E) → IsErrAnd r (λ y. y ≡ e) → P e → IfErr r P
handed_on P (Ok x) is p = tt
handed_on P (Err y) is p = subst P (sym is) p

pub ok_map : {T E : Type 0} (P Q : T → Type 0) (r : Result T E) → ((x : T) → P x → Q x) → IfOk r P → IfOk r Q
ok_map P Q (Ok x) f h = f x h
ok_map P Q (Err e) f h = tt

pub film_trouble : {Refuses : FilmFault → Type 0} (call : LibraryCall) (t : CliError)
    → ((held : List File) (fault : FilmFault) → call.told ≡ Some held → Refuses fault
    → IsFilmRefused held call.name (Film fault)) → IsFilmError call.name Refuses t
    → IsScanError call.name call.told call.before call.after t
film_trouble {Refuses} call t refuses h = refusal_read {Reason = IsFilmFault Refuses} _ call t (λ held fault is r.
    each_film_fault (IsFilmRefused held call.name) fault (λ own its. refuses held own is its) r) h

pub film_troubles : {T : Type 0} {Refuses : FilmFault → Type 0} (call : LibraryCall) (r : Result T CliError)
    → ((held : List File) (fault : FilmFault) → call.told ≡ Some held → Refuses fault
    → IsFilmRefused held call.name (Film fault)) → IfErr r (IsFilmError call.name Refuses)
    → IfErr r (IsScanError call.name call.told call.before call.after)
film_troubles call (Ok x) refuses h = tt
film_troubles call (Err t) refuses h = film_trouble call t refuses h

pub system_trouble : {Refuses : SystemFault → Type 0} (call : LibraryCall) (t : CliError)
    → ((held : List File) (fault : SystemFault) → call.told ≡ Some held → Refuses fault
    → IsFilmRefused held call.name (System fault)) → IsSystemError call.name Refuses t
    → IsScanError call.name call.told call.before call.after t
system_trouble {Refuses} call t refuses h = refusal_read {Reason = IsSystemFault Refuses} _ call t (λ held fault is r.
    each_system_fault (IsFilmRefused held call.name) fault (λ own its. refuses held own is its) r) h

-- the error of a read, where each cause follows from another
pub read_trouble_map : {Reads Reads' : List ℕ → Type 0} {Refuses Refuses' : List File → List ℕ → InputError → Type 0}
    {told : Option (List File)} (before after : ℕ) (t : CliError) → ((name : List ℕ) → Reads name → Reads' name) →
    ((held : List File) (name : List ℕ) (fault : InputError) → told ≡ Some held → Reads name → Refuses held name fault →
    Refuses' held name fault) →
    IsReadError Reads Refuses told before after t → IsReadError Reads' Refuses' told before after t
read_trouble_map {Reads} {Reads'} {Refuses} {Refuses'} {told} before after t reads refuses h =
    trouble_map (causes_of Reads Refuses told before after) (causes_of Reads' Refuses' told before after) t (record {
      reads = reads;
      refuses = refuses;
      keeps = λ held is. is;
      low = omega arith;
      high = omega arith;
    }) h

-- a library that is read on, which exposes as much as before
pub record LaterRead : Type 0 where
  pub told : Option (List File)
  pub next : Option (List File)
  pub before : ℕ
  pub after : ℕ
  pub on : IsLibraryUnchanged told next before after

abbrev pub later_read : {told next : Option (List File)} {before after : ℕ}
    → IsLibraryUnchanged told next before after → LaterRead
later_read {told} {next} {before} {after} on =
    record { told = told; next = next; before = before; after = after; on = on }

-- what was found out before is not less known after that
pub trouble_on : (later : LaterRead) (name : List ℕ) (Refuses : List File → List ℕ → InputError → Type 0) (c : ℕ)
    (t : CliError) → IsReadError (IsThatName name) Refuses later.next later.after c t
    → IsReadError (IsThatName name) Refuses later.told later.before c t
trouble_on later name Refuses c t h =
    trouble_map (causes_of (IsThatName name) Refuses later.next later.after c)
    (causes_of (IsThatName name) Refuses later.told later.before c) t (record {
      reads = λ n is. is;
      refuses = λ held n fault is named refused. refused;
      keeps = λ held is. later.on.kept ∙ is;
      low = omega (arith, later.on.count);
      high = omega arith;
    }) h

-- the same of a read that is never refused
pub never_refused : (later : LaterRead) (name : List ℕ) (Refuses : List File → List ℕ → InputError → Type 0) (c : ℕ)
    (t : CliError) → IsReadError (IsThatName name) IsNever later.next later.after c t
    → IsReadError (IsThatName name) Refuses later.told later.before c t
never_refused later name Refuses c t h =
    read_trouble_map later.before c t (λ n is. is) (λ held n fault told_is named never. absurd never)
    (trouble_on later name IsNever c t h)

-- and of a call's answer
pub troubles_on : (later : LaterRead) (name : List ℕ) (c : ℕ) (r : Result Ending CliError)
    → IfErr r (IsReadError (IsThatName name) IsFilmRefused later.next later.after c)
    → IfErr r (IsReadError (IsThatName name) IsFilmRefused later.told later.before c)
troubles_on later name c (Ok ending) h = tt
troubles_on later name c (Err t) h = trouble_on later name IsFilmRefused c t h

-- a film that was scanned, where the library exposes as much as before
pub heard_on : (later : LaterRead) (Heard : List Call → Type 0) (name : List ℕ) (r : Result Ending CliError)
    → IfOk r (λ e. HasScannedFilm Heard later.next name e.bytes e.rate)
    → IfOk r (λ e. HasScannedFilm Heard later.told name e.bytes e.rate)
heard_on later Heard name r h =
    subst (λ (t : Option (List File)). IfOk r (λ e. HasScannedFilm Heard t name e.bytes e.rate)) later.on.kept h
