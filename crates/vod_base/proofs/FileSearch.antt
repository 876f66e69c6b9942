-- Looking for a file by its name, from the first on.
use Rattle.std.proofs.Common.{◌≡◌, ℕ, suc, ◌+◌, ◌<◌, ◌≤◌, List, length, map, drop, get_or, Some, None, if◌then◌else◌}
use Rattle.std.proofs.Common.{true, false, refl, subst, sym, ap, ◌∙◌, add-one, drop-cons, String, Vec, Global}
use Rattle.std.proofs.Common.{string_bytes}
use Rattle.std.proofs.Math.ListN.{get_or-map}
use Rattle.std.proofs.lemmas.List.{length-map, drop_all}
use Rattle.std.specs.Str.{bytes_eq}
use Rattle.vod_base.specs.IoState.{File, file_named}

-- a name and bytes as a file
abbrev pub file_of : String Global × Vec ℕ Global → File
file_of f = record { name = string_bytes f.0; bytes = f.1.items }

-- one file more: it is the one, or the search goes on after it
named_step : (files : List File) (name : List ℕ) (i : ℕ) (file : File) → i < length files → get_or files i file ≡ file →
    file_named (drop i files) name
    ≡ (if bytes_eq file.name name then Some file.bytes else file_named (drop (i + 1) files) name)
named_step files name i file h e =
    rw (add-one, drop-cons files i file)
    (subst (λ (f : File). (if bytes_eq f.name name then Some f.bytes else file_named (drop (suc i) files) name)
    ≡ (if bytes_eq file.name name then Some file.bytes else file_named (drop (suc i) files) name)) (sym e) refl)

-- the same over the stored pairs, where the name is equal, and where it isn't
stored_step : (items : List (String Global × Vec ℕ Global)) (name : List ℕ) (i : ℕ)
    (item : String Global × Vec ℕ Global) →
    i < length items → item ≡ get_or items i item →
    file_named (drop i (map file_of items)) name
    ≡ (if bytes_eq (string_bytes item.0) name then Some item.1.items
    else file_named (drop (i + 1) (map file_of items)) name)
stored_step items name i item h e =
    named_step (map file_of items) name i (file_of item) (rw length-map h)
    (get_or-map file_of items i item ∙ ap file_of (sym e))

-- the search has come to a place of the stored pairs: this is the pair
pub record AtStored (items : List (String Global × Vec ℕ Global)) (i : ℕ)
    (item : String Global × Vec ℕ Global) : Type 0 where
  pub inside : i < length items
  pub is : item ≡ get_or items i item

pub stored_here : {items : List (String Global × Vec ℕ Global)} {i : ℕ} {item : String Global × Vec ℕ Global}
    (name : List ℕ) →
    AtStored items i item → bytes_eq (string_bytes item.0) name ≡ true
    → file_named (drop i (map file_of items)) name ≡ Some item.1.items
stored_here {items} {i} {item} name at same =
    stored_step items name i item at.inside at.is
    ∙ ap (λ b. if b then Some item.1.items else file_named (drop (i + 1) (map file_of items)) name) same

pub stored_after : {items : List (String Global × Vec ℕ Global)} {i : ℕ} {item : String Global × Vec ℕ Global}
    (name : List ℕ) →
    AtStored items i item → bytes_eq (string_bytes item.0) name ≡ false
    → file_named (drop i (map file_of items)) name ≡ file_named (drop (i + 1) (map file_of items)) name
stored_after {items} {i} {item} name at other =
    stored_step items name i item at.inside at.is
    ∙ ap (λ b. if b then Some item.1.items else file_named (drop (i + 1) (map file_of items)) name) other

pub stored_none : (items : List (String Global × Vec ℕ Global)) (name : List ℕ) (i : ℕ) → length items ≤ i →
    file_named (drop i (map file_of items)) name ≡ None
stored_none items name i past =
    ap (λ (fs : List File). file_named fs name) (drop_all i (map file_of items) (rw length-map past))
