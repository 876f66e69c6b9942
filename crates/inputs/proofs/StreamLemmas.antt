-- A system stream that is unwrapped and scanned chunk by chunk.
use Rattle.std.proofs.Common.{◌≡◌, ℕ, ◌+◌, ◌-◌, ◌≤◌, ◌^◌, List, [], ◌∷◌, ◌++◌, append_assoc, length, take, drop}
use Rattle.std.proofs.Common.{replicate, Some, None, Option, inl, inr, refl, sym, ap, ◌∙◌, arith, subst, length-append}
use Rattle.std.proofs.lemmas.List.{length-take-le, length-drop, length-replicate, append-nil, take-append-drop}
use Rattle.std.proofs.Math.Seq.{drop-append_seam, take-add}
use Rattle.vod_base.specs.IoState.{File, file_named}
use Rattle.mpeg_scan.specs.declared.faults.FilmFault.{FilmFault}
use Rattle.mpeg_scan.specs.declared.scanner.Scanner.{Scanner}
use Rattle.mpeg_scan.specs.Films.{refusal}
use Rattle.sys_demux.specs.StreamItems.{bytes_of}
use Rattle.sys_demux.specs.SystemStreams.{IsFault, IsBadStream, IsSystem}
use Rattle.sys_demux.specs.declared.faults.SystemFault.{SystemFault}
use Rattle.sys_demux.specs.declared.faults.SystemFault.TheVariants.{NotPack, BadCode, BadPacket, Truncated}
use Rattle.sys_demux.proofs.ItemPartLemmas.{length_prefixed}
use Rattle.cli_errors.specs.declared.errors.InputError.TheVariants.{Film, System}
use Rattle.inputs.specs.FileReads.{IsFilePrefix}
use Rattle.inputs.specs.LoadErrors.{IsMovedFault, IsToldFault}
use Rattle.inputs.specs.ChunkScans.{HasRefused, HoldsVideo, IsFilmRefused, IsOpened, IsChunkRefused, IsStreamFront}
use Rattle.inputs.specs.declared.streams.StreamError.{StreamError}
use Rattle.inputs.specs.declared.streams.StreamError.TheVariants.{Fault as StreamFault, NoMemory as NoRoom}
use Rattle.inputs.proofs.TokenLemmas.{slice_from}
use Rattle.inputs.specs.Videos.{IsStreamFaultFrom, IsVideo, IsVideoFrom, place_of}
use Rattle.inputs.proofs.ReadLemmas.{front_rest, one_file}
use Rattle.inputs.proofs.ScanLemmas.{FilmFile, file_short}

-- ---- the place of a fault lies in the stream

length-zeros : (count : ℕ) (rest : List ℕ) → count ≤ length (replicate count 0 ++ rest)
length-zeros count rest = omega (arith, length-append (replicate count 0) rest, length-replicate {A = ℕ} count 0)

tail-within : (chosen : Option ℕ) (start : ℕ) (tail : List ℕ) (fault : SystemFault)
    → IsFault chosen start tail fault → place_of fault ≤ start + length tail
tail-within chosen start tail (NotPack place) h =
    omega (arith, h.place_is, ap length h.is, length_prefixed h.zeros (186 ∷ h.mark ∷ h.rest))
tail-within chosen start tail (BadCode place) (inl h) =
    omega (arith, h.place_is, ap length h.is, length-zeros h.count (h.byte ∷ h.rest))
tail-within chosen start tail (BadCode place) (inr h) =
    omega (arith, h.place_is, ap length h.is, length_prefixed h.zeros (h.value ∷ h.rest))
tail-within chosen start tail (BadPacket place) h =
    omega (arith, h.place_is, ap length h.is, length_prefixed h.zeros (h.value ∷ h.high ∷ h.low ∷ (h.front ++ h.rest)))
tail-within chosen start tail (Truncated place) h = omega (arith, h.place_is, h.begun)

pub fault_within : (bytes : List ℕ) (fault : SystemFault) → IsBadStream bytes fault → place_of fault ≤ length bytes
fault_within bytes fault h =
    omega (
      arith,
      tail-within _ (length (bytes_of h.items)) h.tail fault h.fault_is,
      ap length h.bytes_are,
      length-append (bytes_of h.items) h.tail,
    )

-- ---- a chunk more

pub refused_more : (scanner scanner' : Scanner) (video more : List ℕ) → scanner' ≡ scanner
    → HasRefused scanner video → HasRefused scanner' (video ++ more)
refused_more scanner scanner' video more same so_far =
    subst (λ (s : Scanner). HasRefused s (video ++ more)) (sym same) (record {
      fault = so_far.fault;
      answers = so_far.answers;
      front = so_far.front;
      rest = so_far.rest ++ more;
      video_is = ap (λ (l : List ℕ). l ++ more) so_far.video_is ∙ append_assoc so_far.front so_far.rest more;
      refused = so_far.refused;
    })

-- what was read of a stream of a file
pub record StreamFront : Type 0 where
  pub held : List File
  pub name : List ℕ
  pub size : ℕ
  pub from : ℕ
  pub seen : List ℕ
  pub front : IsStreamFront size from seen held name

abbrev pub stream_front : {held : List File} {name seen : List ℕ} {size from : ℕ} →
    IsStreamFront size from seen held name → StreamFront
stream_front {held} {name} {seen} {size} {from} front =
    record { held = held; name = name; size = size; from = from; seen = seen; front = front }

-- a chunk of it more
pub front_more : (stream : StreamFront) (more : List ℕ)
    → ((bytes : List ℕ) → IsFilePrefix stream.held stream.name stream.size bytes
    → length bytes ≡ stream.from + length stream.seen
    → IsFilePrefix stream.held stream.name stream.size (bytes ++ more))
    → IsStreamFront stream.size stream.from (stream.seen ++ more) stream.held stream.name
front_more stream more read = (
  front.0,
  (
    front.1.0,
    subst (IsFilePrefix held name size) (append_assoc front.0 seen more)
        (read (front.0 ++ seen) front.1.1 (omega (arith, length-append front.0 seen, front.1.0))),
  ),
)
  where
    open stream use {held, name, size, seen, front}

-- before the first chunk
pub first_stream : {from : ℕ} {held : List File} {name : List ℕ} {size : ℕ} → IsOpened held name size (Some from)
    → IsStreamFront size from [] held name
first_stream {from} opened =
    let file = opened.file in
    let begun : length (take from file) ≡ from =
    length-take-le from file (omega (arith, opened.sized, opened.within)) in
    let long : length (take from file ++ []) ≡ from = ap length (append-nil (take from file)) ∙ begun in (
      take from file,
      (
        begun,
        record {
          whole = file;
          found = opened.found;
          sized = opened.sized;
          front = append-nil (take from file) ∙ ap (λ (n : ℕ). take n file) (sym long);
        },
      ),
    )

-- ---- refusals of the stream

pub stream_rest : (before rest whole : List ℕ) (from : ℕ) → before ++ rest ≡ whole → length before ≡ from →
    drop from whole ≡ rest
stream_rest before rest whole from is long =
    ap (drop from) (sym is) ∙ ap (λ (n : ℕ). drop n (before ++ rest)) (sym long) ∙ drop-append_seam before rest

-- the stream of a file, and one of its faults
pub stream_fault : {from : ℕ} {own fault : SystemFault} (file : FilmFile (Some from))
    → IsBadStream (drop from file.opened.file) own → IsMovedFault from own fault
    → IsFilmRefused file.held file.name (System fault)
stream_fault {from} {own} {fault} file refused moves =
    let opened = file.opened in
    let bytes = opened.file in
    let room : from + length (drop from bytes) ≤ 2 ^ 40 =
    omega (arith, length-drop from bytes, opened.sized, opened.within, file.short) in
    let its : IsStreamFaultFrom (Some from) bytes fault = (own, (refused, moves (drop from bytes) refused room)) in
    inr (
      bytes,
      (
        opened.found,
        inr (file_short file, subst (λ (o : Option ℕ). IsStreamFaultFrom o bytes fault) (sym opened.pack) its),
      ),
    )

-- what was read of a stream up to the end of a chunk
pub record ChunkRead (from : ℕ) : Type 0 where
  pub file : FilmFile (Some from)
  pub seen : List ℕ
  pub chunk : List ℕ
  pub front : IsStreamFront file.size from (seen ++ chunk) file.held file.name

pub chunk_fault : {from : ℕ} {own fault : SystemFault} (read : ChunkRead from)
    → ((more : List ℕ) → IsBadStream (read.seen ++ read.chunk ++ more) own) → IsMovedFault from own fault
    → IsFilmRefused read.file.held read.file.name (System fault)
chunk_fault {from} {own} read refused moves =
    let bytes = front.1.1.whole in
    let rest : List ℕ = drop (length (front.0 ++ (seen ++ chunk))) bytes in
    let whole : front.0 ++ (seen ++ chunk ++ rest) ≡ bytes =
    sym (append_assoc front.0 (seen ++ chunk) rest)
    ∙ front_rest file.held file.name file.size (front.0 ++ (seen ++ chunk)) front.1.1 in
    let same : bytes ≡ file.opened.file =
    one_file file.held file.name bytes file.opened.file front.1.1.found file.opened.found in
    stream_fault file (subst (λ (l : List ℕ). IsBadStream l own)
    (sym (stream_rest front.0 (seen ++ chunk ++ rest) bytes from whole front.1.0) ∙ ap (drop from) same)
    (refused rest)) moves
  where
    open read use {file, seen, chunk, front}

-- the same of why the chunk can't be taken
pub chunk_told : {from : ℕ} {fault : SystemFault} (refused : StreamError) (read : ChunkRead from)
    → IsChunkRefused read.seen read.chunk refused → IsToldFault from refused fault
    → IsFilmRefused read.file.held read.file.name (System fault)
chunk_told (StreamFault own) read is moves = chunk_fault read is moves
chunk_told NoRoom read is moves = absurd moves

-- ---- the entire stream

-- what was read of a stream is all of it
pub stream_seen : {from : ℕ} {seen : List ℕ} (file : FilmFile (Some from))
    → (bytes : List ℕ) × ((file_named file.held file.name ≡ Some bytes) × (drop from bytes ≡ seen))
    → drop from file.opened.file ≡ seen
stream_seen {from} file whole =
    ap (drop from) (one_file file.held file.name file.opened.file whole.0 file.opened.found whole.1.0) ∙ whole.1.1

stream_video : {from : ℕ} {seen video : List ℕ} (file : FilmFile (Some from)) → drop from file.opened.file ≡ seen
    → IsSystem seen video → IsVideo file.opened.file video
stream_video {video} file is system =
    subst (λ (o : Option ℕ). IsVideoFrom o file.opened.file video) (sym file.opened.pack)
    (subst (λ (l : List ℕ). IsSystem l video) (sym is) system)

pub stream_holds : {from : ℕ} {seen video : List ℕ} (file : FilmFile (Some from)) → drop from file.opened.file ≡ seen
    → IsSystem seen video × (refusal video ≡ None) → HoldsVideo file.held file.name video
stream_holds file is video = record {
  file = file.opened.file;
  found = file.opened.found;
  short = file_short file;
  is_video = stream_video file is video.0;
  accepted = video.1;
}

pub stream_refused : {from : ℕ} {video : List ℕ} {fault : FilmFault} (file : FilmFile (Some from))
    → IsSystem (drop from file.opened.file) video → refusal video ≡ Some fault
    → IsFilmRefused file.held file.name (Film fault)
stream_refused {video} file system refused =
    inr (
      file.opened.file,
      (file.opened.found, inr (file_short file, (video, (stream_video file refl system, refused)))),
    )

-- the parts of a chunk, one after another
pub parts_joined : (seen chunk : List ℕ) (at taken : ℕ)
    → (seen ++ take at chunk) ++ take taken (take (length chunk - at) (drop at chunk)) ≡ seen ++ take (at + taken) chunk
parts_joined seen chunk at taken =
    append_assoc seen (take at chunk) (take taken (take (length chunk - at) (drop at chunk)))
    ∙ ap (λ (l : List ℕ). seen ++ (take at chunk ++ take taken l)) (slice_from chunk at)
    ∙ ap (λ (l : List ℕ). seen ++ l) (sym (take-add at taken chunk))

pub rest_joined : (seen chunk more : List ℕ) (at : ℕ)
    → (seen ++ take at chunk) ++ take (length chunk - at) (drop at chunk) ++ more ≡ seen ++ chunk ++ more
rest_joined seen chunk more at =
    ap (λ (l : List ℕ). l ++ more) (append_assoc seen (take at chunk) (take (length chunk - at) (drop at chunk))
    ∙ ap (λ (l : List ℕ). seen ++ l) (ap (λ (l : List ℕ). take at chunk ++ l) (slice_from chunk at)
    ∙ take-append-drop at chunk))

-- a refusal in a part of a chunk
pub part_refused : (seen chunk : List ℕ) (at : ℕ) (e : StreamError)
    → IsChunkRefused (seen ++ take at chunk) (take (length chunk - at) (drop at chunk)) e → IsChunkRefused seen chunk e
part_refused seen chunk at (StreamFault fault) h =
    λ more. subst (λ (l : List ℕ). IsBadStream l fault) (rest_joined seen chunk more at) (h more)
part_refused seen chunk at NoRoom h = tt
