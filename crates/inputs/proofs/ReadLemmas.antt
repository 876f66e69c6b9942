-- What was read of a file so far.
use Rattle.std.proofs.Common.{◌≡◌, ℕ, ◌+◌, ◌≤◌, List, [], ◌++◌, length, take, drop, Some, None, Option}
use Rattle.std.proofs.Common.{refl, sym, ap, ◌∙◌, arith, unwrap_or, length-append}
use Rattle.std.specs.Prelude.{option_map}
use Rattle.std.proofs.Math.Seq.{take-add}
use Rattle.std.proofs.lemmas.List.{length-take-le, take-append-drop, take-take}
use Rattle.vod_base.specs.IoState.{File, file_named, bytes_named, IsRead}
use Rattle.inputs.specs.FileReads.{IsChunk, IsFilePrefix}

-- a size that was found is that of a file
found_size : (o : Option (List ℕ)) (n : ℕ) → Some n ≡ option_map length o →
    (b : List ℕ) × ((o ≡ Some b) × (n ≡ length b))
found_size None n e = ([], ((cc), (cc)))
found_size (Some b) n e = (b, (refl, (cc)))

pub first_front : (held : List File) (name : List ℕ) (size : ℕ)
    → Some size ≡ option_map length (file_named held name) → IsFilePrefix held name size []
first_front held name size e =
    let file : (b : List ℕ) × ((file_named held name ≡ Some b) × (size ≡ length b)) =
    found_size (file_named held name) size e in
    record { whole = file.0; found = file.1.0; sized = file.1.1; front = refl }

named : (held : List File) (name b : List ℕ) → file_named held name ≡ Some b → bytes_named held name ≡ b
named held name b e = ap (λ (o : Option (List ℕ)). unwrap_or o []) e

-- a read of n bytes after a prefix of a file
pub record ReadOn : Type 0 where
  pub held : List File
  pub name : List ℕ
  pub size : ℕ
  pub bytes : List ℕ
  pub n : ℕ
  pub chunk : List ℕ
  pub so_far : IsFilePrefix held name size bytes
  pub read : IsRead (bytes_named held name) (length bytes) n chunk

-- what it gives, of which k are taken
pub more_front : (on : ReadOn) (k : ℕ) → k ≤ on.n
    → IsFilePrefix on.held on.name on.size (on.bytes ++ take k on.chunk)
more_front on k fits =
    let whole : bytes_named held name ≡ so_far.whole = named held name so_far.whole so_far.found in
    let there : take n chunk ≡ take n (drop (length bytes) so_far.whole) =
    read.front ∙ ap (λ (b : List ℕ). take n (drop (length bytes) b)) whole in
    let shorter : take k chunk ≡ take k (drop (length bytes) so_far.whole) =
    sym (take-take k n chunk fits) ∙ ap (take k) there ∙ take-take k n (drop (length bytes) so_far.whole) fits in
    let long : length (bytes ++ take k chunk) ≡ length bytes + k =
    omega (arith, length-append bytes (take k chunk), length-take-le k chunk (omega (arith, read.within, fits))) in
    record {
      whole = so_far.whole;
      found = so_far.found;
      sized = so_far.sized;
      front = ap (λ (b : List ℕ). b ++ take k chunk) so_far.front
          ∙ ap (λ (b : List ℕ). take (length bytes) so_far.whole ++ b) shorter
          ∙ sym (take-add (length bytes) k so_far.whole) ∙ ap (λ (m : ℕ). take m so_far.whole) (sym long);
    }
  where
    open on use {held, name, bytes, n, chunk, so_far, read}

-- bytes, and what a read gave after them
pub chunk_long : {size at count : ℕ} (seen into : List ℕ) → IsChunk size at (length into) count
    → length (seen ++ take count into) ≡ length seen + count
chunk_long {count} seen into chunk =
    omega (arith, length-append seen (take count into), length-take-le count into chunk.fits)

pub one_file : (held : List File) (name a b : List ℕ) → file_named held name ≡ Some a →
    file_named held name ≡ Some b → a ≡ b
one_file held name a b p q = let e : Some a ≡ Some b = sym p ∙ q in cc

-- a prefix of a file of a library
pub record FileFront : Type 0 where
  pub held : List File
  pub name : List ℕ
  pub size : ℕ
  pub bytes : List ℕ
  pub front : IsFilePrefix held name size bytes

abbrev pub file_front : {held : List File} {name : List ℕ} {size : ℕ} {bytes : List ℕ}
    → IsFilePrefix held name size bytes → FileFront
file_front {held} {name} {size} {bytes} front =
    record { held = held; name = name; size = size; bytes = bytes; front = front }

-- a prefix of a file, and the rest of it
pub front_rest : (held : List File) (name : List ℕ) (size : ℕ) (bytes : List ℕ)
    → (front : IsFilePrefix held name size bytes) → bytes ++ drop (length bytes) front.whole ≡ front.whole
front_rest held name size bytes front =
    ap (λ (l : List ℕ). l ++ drop (length bytes) front.whole) front.front ∙ take-append-drop (length bytes) front.whole
