-- The path of a film, put together.
use Rattle.std.proofs.Common.{◌≡◌, ◌≢◌, ℕ, suc, ◌+◌, ◌-◌, ◌<◌, ◌≤◌, ◌&&◌, ◌==◌, not, List, [], ◌∷◌, codes, ◌++◌}
use Rattle.std.proofs.Common.{length, take, drop, get_or, refl, sym, ◌∙◌, ap, subst, arith, inl, inr, slice_range}
use Rattle.std.proofs.Common.{slice_index, true, false, nat_lt, nat_le}
use Rattle.std.specs.List.{list_all}
use Rattle.std.proofs.lemmas.Bool.{and_parts}
use Rattle.std.proofs.lemmas.List.{take_at, drop_at, take_all, append-nil, length-append, length-drop}
use Rattle.std.proofs.lemmas.List.{take-append-drop, get_or_append_left, get_or-append_right}
use Rattle.std.proofs.lemmas.List.Folds.{list_all_at}
use Rattle.vod_base.specs.Names.{good_name, is_name_byte}
use Rattle.rtsp_fields.specs.Laws.{IsFilmPath}
use Rattle.rtsp_fields.specs.SeparatedParts.{IsPartEnd}
use Rattle.rtsp_fields.specs.Urls.{IsTail, NamesFilm}

-- a good name has no `/`
no_slash : (name : List ℕ) (k : ℕ) → good_name name ≡ true → k < length name → get_or name k 0 ≢ 47
no_slash name k good inside = λ slash.
    let bytes = and_parts (nat_lt 0 (length name) && nat_le (length name) 64 && not (slice_index name 0 == 46))
    (list_all is_name_byte name) good in
    let other : is_name_byte (get_or name k 0) ≡ false = rw slash refl in
    let wrong : true ≡ false = sym bytes.1 ∙ list_all_at is_name_byte name k 0 inside other in
    cc

first_of_tail : (tail : List ℕ) → IsTail tail → 0 < length tail → get_or tail 0 0 ≡ 47
first_of_tail tail (inl e) some = let none : length tail ≡ 0 = ap length e in omega (arith, none, some)
first_of_tail tail (inr (inl e)) some = rw e refl
first_of_tail tail (inr (inr (inl e))) some = rw e refl
first_of_tail tail (inr (inr (inr e))) some = rw e refl

path_end : (name tail : List ℕ) → good_name name ≡ true → IsTail tail
    → IsPartEnd 47 (47 ∷ name ++ tail) 1 (1 + length name)
path_end name tail good is_tail = record {
  after = omega arith;
  within = omega (arith, length-append (47 ∷ name) tail);
  none = λ k from below.
      let same : suc (k - 1) ≡ k = omega (arith, from) in
      let inside : k - 1 < length name = omega (arith, from, below) in
      let here : get_or (47 ∷ name ++ tail) k 0 ≡ get_or name (k - 1) 0 =
      ap (λ n. get_or (47 ∷ name ++ tail) n 0) (sym same) ∙ get_or_append_left name tail 0 (k - 1) inside in
      λ slash. no_slash name (k - 1) good inside (sym here ∙ slash);
  ends = λ inside.
      let some : 0 < length tail = omega (arith, inside, length-append (47 ∷ name) tail) in
      let zero : 1 + length name - (1 + length name) ≡ 0 = omega arith in
      get_or-append_right (47 ∷ name) tail (1 + length name) (1 + length name) 0 (omega arith) (omega arith)
      ∙ ap (λ n. get_or tail n 0) zero ∙ first_of_tail tail is_tail some;
}

pub film_path : (name tail : List ℕ) → good_name name ≡ true → IsTail tail → NamesFilm (47 ∷ name ++ tail) name
film_path name tail good is_tail =
    let size : 1 + length name - 1 ≡ length name = omega arith in
    let front : take (1 + length name - 1) (name ++ tail) ≡ name = take_at name tail (1 + length name - 1) (sym size) in
    let after : drop (1 + length name) (47 ∷ name ++ tail) ≡ tail =
    drop_at (47 ∷ name) tail (1 + length name) (omega arith) in
    let left : length (47 ∷ name ++ tail) - (1 + length name) ≡ length tail =
    omega (arith, length-append (47 ∷ name) tail) in
    let whole : slice_range (47 ∷ name ++ tail) (1 + length name) (length (47 ∷ name ++ tail)) ≡ tail =
    ap (λ (xs : List ℕ). take (length (47 ∷ name ++ tail) - (1 + length name)) xs) after
    ∙ take_all (length (47 ∷ name ++ tail) - (1 + length name)) tail (omega (arith, left)) in
    record {
      slash = refl;
      end = 1 + length name;
      is_end = path_end name tail good is_tail;
      name_is = sym front;
      good = good;
      tail = subst IsTail (sym whole) is_tail;
    }

-- a path that names a film is written so
tail_path : (path name tail : List ℕ) → path ≡ 47 ∷ (name ++ tail) → IsTail tail → IsFilmPath path name
tail_path path name tail is is_tail = go is_tail
  where
    ends_so : (other : List ℕ) → tail ≡ other → path ≡ 47 ∷ (name ++ other)
    ends_so other e = is ∙ ap (λ t. 47 ∷ (name ++ t)) e

    go : IsTail tail → IsFilmPath path name
    go (inl e) = inl (ends_so [] e ∙ ap (λ l. 47 ∷ l) (append-nil name))
    go (inr (inl e)) = inr (inl (ends_so (codes "/") e))
    go (inr (inr (inl e))) = inr (inr (inl (ends_so (codes "/video") e)))
    go (inr (inr (inr e))) = inr (inr (inr (ends_so (codes "/video/") e)))

pub path_written : (path name : List ℕ) → NamesFilm path name → IsFilmPath path name
path_written [] name n = absurd (let bad : 0 ≡ 47 = n.slash in omega (arith, bad))
path_written (x ∷ p) name n =
    let some : suc (n.end - 1) ≡ n.end = omega (arith, n.is_end.after) in
    let after : drop n.end (x ∷ p) ≡ drop (n.end - 1) p = ap (λ k. drop k (x ∷ p)) (sym some) in
    let left : length (drop (n.end - 1) p) ≤ length (x ∷ p) - n.end = omega (arith, length-drop (n.end - 1) p, some) in
    let tail : slice_range (x ∷ p) n.end (length (x ∷ p)) ≡ drop (n.end - 1) p =
    ap (λ (xs : List ℕ). take (length (x ∷ p) - n.end) xs) after
    ∙ take_all (length (x ∷ p) - n.end) (drop (n.end - 1) p) left in
    let whole : x ∷ p ≡ 47 ∷ (name ++ drop (n.end - 1) p) =
    ap (λ y. y ∷ p) n.slash ∙ ap (λ l. 47 ∷ l) (sym (take-append-drop (n.end - 1) p))
    ∙ ap (λ l. 47 ∷ (l ++ drop (n.end - 1) p)) (sym n.name_is) in
    tail_path (x ∷ p) name (drop (n.end - 1) p) whole (subst IsTail tail n.tail)

pub written_named : (path name : List ℕ) → good_name name ≡ true → IsFilmPath path name → NamesFilm path name
written_named path name good written = go written
  where
    named : (tail : List ℕ) → IsTail tail → path ≡ 47 ∷ (name ++ tail) → NamesFilm path name
    named tail is_tail is = subst (λ (p : List ℕ). NamesFilm p name) (sym is) (film_path name tail good is_tail)

    go : IsFilmPath path name → NamesFilm path name
    go (inl e) = named [] (inl refl) (e ∙ sym (ap (λ l. 47 ∷ l) (append-nil name)))
    go (inr (inl e)) = named (codes "/") (inr (inl refl)) e
    go (inr (inr (inl e))) = named (codes "/video") (inr (inr (inl refl))) e
    go (inr (inr (inr e))) = named (codes "/video/") (inr (inr (inr refl))) e
