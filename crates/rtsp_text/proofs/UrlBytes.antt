-- Bytes that a URL may have.
use Rattle.std.proofs.Common.{◌≡◌, ℕ, Bool, true, List, [], ◌∷◌, refl, arith}
use Rattle.std.specs.List.{list_all}
use Rattle.std.proofs.lemmas.Bool.{and_parts, and_from}
use Rattle.vod_base.specs.Names.{is_name_byte}
use Rattle.rtsp_text.specs.Grammar.{is_url_byte}

-- bytes of one kind are bytes of another
pub all_of : (p q : ℕ → Bool) → ((c : ℕ) → p c ≡ true → q c ≡ true) → (text : List ℕ) → list_all p text ≡ true
    → list_all q text ≡ true
all_of p q is [] all = refl
all_of p q is (c ∷ text) all =
    let parts = and_parts (p c) (list_all p text) all in
    and_from (q c) (list_all q text) (is c parts.0) (all_of p q is text parts.1)

-- a byte of a name, and all bytes of one
name_byte_in_url : (c : ℕ) → is_name_byte c ≡ true → is_url_byte c ≡ true
name_byte_in_url c is = grind arith

pub name_in_url : (name : List ℕ) → list_all is_name_byte name ≡ true → list_all is_url_byte name ≡ true
name_in_url name all = all_of is_name_byte is_url_byte name_byte_in_url name all
