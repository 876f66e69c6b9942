-- The tokens of a text, from the beginning on, and the traces that they write.
use Rattle.std.proofs.Common.{◌≡◌, ℕ, ◌+◌, ◌-◌, ◌<◌, ◌≤◌, ◌^◌, Bool, true, false, not, List, [], ◌∷◌, ◌++◌, length}
use Rattle.std.proofs.Common.{take, drop, map, sum, Some, Option, refl, sym, ap, ◌∙◌, arith, add-zero, min, ◌&&◌, subst}
use Rattle.std.proofs.Common.{inl, inr, if◌then◌else◌, slice_range, get_or, length-append, length-drop}
use Rattle.std.proofs.lemmas.Bool.{and_parts, not-true, not-false, cases_lt}
use Rattle.std.proofs.lemmas.List.{take-append-drop, drop-drop, length-take-le, take_all, map-append, append_assoc}
use Rattle.std.proofs.Math.Seq.{get_or-append_seam}
use Rattle.std.proofs.lemmas.List.Elements.{All-append, All-cons, All-nil}
use Rattle.std.proofs.lemmas.List.Sums.{sum_by-append}
use Rattle.std.specs.List.{list_all}
use Rattle.vod_base.specs.Numbers.{number_of}
use Rattle.inputs.specs.Traces.{is_white_space, Token, begins_token, joined_tokens, tokens_from, WriteSizes}
use Rattle.inputs.specs.Traces.{IsBadTraceText, AddsSize}

-- blanks at the beginning are passed over
pub tokens-blanks : (at : ℕ) (blanks rest : List ℕ) → list_all is_white_space blanks ≡ true
    → tokens_from at (blanks ++ rest) ≡ tokens_from (at + length blanks) rest
tokens-blanks at [] rest h = ap (λ (n : ℕ). tokens_from n rest) (sym (add-zero at))
tokens-blanks at (b ∷ blanks) rest h =
    ap (λ (v : Bool). if v then tokens_from (at + 1) (blanks ++ rest) else joined_tokens at b
    (begins_token (blanks ++ rest)) (tokens_from (at + 1) (blanks ++ rest)))
    (and_parts (is_white_space b) (list_all is_white_space blanks) h).0
    ∙ tokens-blanks (at + 1) blanks rest (and_parts (is_white_space b) (list_all is_white_space blanks) h).1
    ∙ ap (λ (n : ℕ). tokens_from n rest) (omega arith)

-- a word of a byte and others, before text that begins none
record IsWholeWord (b : ℕ) (word rest : List ℕ) : Type 0 where
  first : is_white_space b ≡ false
  others : list_all (λ x. not (is_white_space x)) word ≡ true
  ends : begins_token rest ≡ false

-- its bytes are one token
tokens-word : (at b : ℕ) (word rest : List ℕ) → IsWholeWord b word rest
    → tokens_from at (b ∷ (word ++ rest))
    ≡ (record { from = at; bytes = b ∷ word }) ∷ tokens_from (at + length (b ∷ word)) rest
tokens-word at b [] rest is =
    ap (λ (v : Bool). if v then tokens_from (at + 1) rest else joined_tokens at b (begins_token rest)
    (tokens_from (at + 1) rest)) is.first
    ∙ ap (λ (v : Bool). joined_tokens at b v (tokens_from (at + 1) rest)) is.ends
tokens-word at b (c ∷ word) rest is =
    let others = and_parts (not (is_white_space c)) (list_all (λ x. not (is_white_space x)) word) is.others in
    let next : IsWholeWord c word rest =
    record { first = not-true (is_white_space c) others.0; others = others.1; ends = is.ends } in
    let rest_tokens : List Token = tokens_from (at + 1) (c ∷ (word ++ rest)) in
    ap (λ (v : Bool). if v then rest_tokens else joined_tokens at b (not (is_white_space c)) rest_tokens) is.first
    ∙ ap (λ (v : Bool). joined_tokens at b (not v) rest_tokens) next.first
    ∙ ap (λ (ts : List Token). joined_tokens at b true ts) (tokens-word (at + 1) c word rest next)
    ∙ ap (λ (n : ℕ). (record { from = at; bytes = b ∷ c ∷ word }) ∷ tokens_from n rest) (omega arith)

pub word_list : (at : ℕ) (word rest : List ℕ) → 0 < length word →
    list_all (λ x. not (is_white_space x)) word ≡ true → begins_token rest ≡ false →
    tokens_from at (word ++ rest) ≡ (record { from = at; bytes = word }) ∷ tokens_from (at + length word) rest
word_list at [] rest some all ends = absurd (omega arith)
word_list at (b ∷ word) rest some all ends =
    let bytes = and_parts (not (is_white_space b)) (list_all (λ x. not (is_white_space x)) word) all in
    tokens-word at b word rest (record { first = not-true (is_white_space b) bytes.0; others = bytes.1; ends = ends })

-- the blanks at a place of a text are passed over
pub blanks_at : (text : List ℕ) (at n : ℕ) → n ≤ length (drop at text)
    → list_all is_white_space (take n (drop at text)) ≡ true
    → tokens_from at (drop at text) ≡ tokens_from (at + n) (drop (at + n) text)
blanks_at text at n fits blank =
    ap (tokens_from at) (sym (take-append-drop n (drop at text)))
    ∙ tokens-blanks at (take n (drop at text)) (drop n (drop at text)) blank
    ∙ ap (λ (k : ℕ). tokens_from (at + k) (drop n (drop at text))) (length-take-le n (drop at text) fits)
    ∙ ap (tokens_from (at + n)) (drop-drop n at text)

-- a slice from a place on is what is left there
pub slice_from : (text : List ℕ) (at : ℕ) → take (length text - at) (drop at text) ≡ drop at text
slice_from text at = take_all (length text - at) (drop at text) (omega (arith, length-drop at text))

-- what is taken of the rest of a text stays within it
pub taken_within : (text : List ℕ) (at : ℕ) {taken : ℕ} → at ≤ length text →
    taken ≤ length (take (length text - at) (drop at text)) → at + taken ≤ length text
taken_within text at within taken_fits =
    omega (arith, ap length (slice_from text at), length-drop at text, within, taken_fits)

-- the tokens before `at` write the sizes, whose sum is `total`
pub record HasRead (text : List ℕ) (at : ℕ) (sizes : List ℕ) (total : ℕ) : Type 0 where
  pub within : at ≤ length text
  pub done : List Token
  pub tokens : tokens_from 0 text ≡ done ++ tokens_from at (drop at text)
  pub written : WriteSizes done sizes
  pub total_is : total ≡ sum sizes

-- the number that a token writes
abbrev number_in : Token → Option ℕ
number_in token = number_of token.bytes

-- sizes that go with the tokens end with the last token's number
split_last : {more : List ℕ} (bad : Token) (good : List Token) (sizes : List ℕ) →
    map number_in good ≡ map (λ size. Some size) sizes →
    map number_in (good ++ bad ∷ []) ≡ map (λ size. Some size) more →
    (s : ℕ) × ((more ≡ sizes ++ s ∷ []) × (number_in bad ≡ Some s))
split_last {more = []} bad [] [] h g = (0, ((cc), (cc)))
split_last {more = s ∷ []} bad [] [] h g = (s, (refl, (cc)))
split_last {more = s ∷ t ∷ more} bad [] [] h g = (0, ((cc), (cc)))
split_last bad [] (s ∷ sizes) h g = (0, ((cc), (cc)))
split_last bad (t ∷ good) [] h g = (0, ((cc), (cc)))
split_last {more = []} bad (t ∷ good) (s ∷ sizes) h g = (0, ((cc), (cc)))
split_last {more = u ∷ more} bad (t ∷ good) (s ∷ sizes) h g =
    let before : map number_in good ≡ map (λ size. Some size) sizes = cc in
    let after : map number_in (good ++ bad ∷ []) ≡ map (λ size. Some size) more = cc in
    let first : u ≡ s = cc in
    one_more first (split_last bad good sizes before after)
  where
    one_more : u ≡ s → ((x : ℕ) × ((more ≡ sizes ++ x ∷ []) × (number_in bad ≡ Some x)))
        → (x : ℕ) × ((u ∷ more ≡ (s ∷ sizes) ++ x ∷ []) × (number_in bad ≡ Some x))
    one_more same rest = (rest.0, (ap (λ (n : ℕ). n ∷ more) same ∙ ap (λ (ns : List ℕ). s ∷ ns) rest.1.0, rest.1.1))

-- what a number more at the end means for a list
record IsPushed (xs : List ℕ) (x : ℕ) (ys : List ℕ) : Type 0 where
  at_end : get_or ys (length xs) 0 ≡ x
  longer : length ys ≡ length xs + 1
  summed : sum ys ≡ sum xs + x

is_pushed : (xs : List ℕ) (x : ℕ) (ys : List ℕ) → ys ≡ xs ++ x ∷ [] → IsPushed xs x ys
is_pushed xs x ys e = record {
  at_end = rw e (get_or-append_seam xs x [] 0);
  longer = rw e (omega (arith, length-append xs (x ∷ [])));
  summed = rw e (omega (arith, sum_by-append (λ (s : ℕ). s) xs (x ∷ [])));
}

-- what was read of a text so far
pub record ReadSoFar (text : List ℕ) : Type 0 where
  pub at : ℕ
  pub sizes : List ℕ
  pub total : ℕ
  pub count : ℕ
  pub read : HasRead text at sizes total
  pub counted : count ≡ length sizes

-- the next token of a text
pub record NextToken (text : List ℕ) (at : ℕ) : Type 0 where
  pub from : ℕ
  pub to : ℕ
  pub tokens : tokens_from at (drop at text)
      ≡ (record { from = from; bytes = slice_range text from to }) ∷ tokens_from to (drop to text)

-- a token more, with its size
pub more_read : {text : List ℕ} {size : ℕ} (so_far : ReadSoFar text) (next : NextToken text so_far.at)
    → next.to ≤ length text → AddsSize (slice_range text next.from next.to) so_far.count so_far.total size
    → HasRead text next.to (so_far.sizes ++ size ∷ []) (so_far.total + size)
more_read {text} {size} so_far next fits adds =
    let token : Token = record { from = from; bytes = slice_range text from to } in
    record {
      within = fits;
      done = read.done ++ token ∷ [];
      tokens = read.tokens ∙ ap (λ (ts : List Token). read.done ++ ts) tokens
          ∙ sym (append_assoc read.done (token ∷ []) (tokens_from to (drop to text)));
      written = record {
        numbers = map-append number_in read.done (token ∷ [])
            ∙ ap (λ (ns : List (Option ℕ)). ns ++ number_in token ∷ []) read.written.numbers
            ∙ ap (λ (n : Option ℕ). map (λ (s : ℕ). Some s) sizes ++ n ∷ []) adds.number
            ∙ sym (map-append (λ (s : ℕ). Some s) sizes (size ∷ []));
        small = All-append (λ (s : ℕ). s ≤ 2 ^ 32) sizes (size ∷ []) read.written.small
            (All-cons (λ (s : ℕ). s ≤ 2 ^ 32) size [] adds.small (All-nil (λ (s : ℕ). s ≤ 2 ^ 32)));
        few_bytes = omega (arith, adds.few_bytes, read.total_is, sum_by-append (λ (s : ℕ). s) sizes (size ∷ []));
        few = omega (arith, adds.few, counted, length-append sizes (size ∷ []));
      };
      total_is = omega (arith, read.total_is, sum_by-append (λ (s : ℕ). s) sizes (size ∷ []));
    }
  where
    open so_far use {sizes, read, counted}
    open next use {from, to, tokens}

-- a token with which the tokens so far write no sizes
pub bad_read : {text : List ℕ} (so_far : ReadSoFar text) (next : NextToken text so_far.at)
    → ((size : ℕ) → AddsSize (slice_range text next.from next.to) so_far.count so_far.total size → ⊥)
    → IsBadTraceText text next.from
bad_read {text} so_far next none = record {
  good = read.done;
  bad = record { from = from; bytes = slice_range text from to };
  rest = tokens_from to (drop to text);
  sizes = sizes;
  tokens = read.tokens ∙ ap (λ (ts : List Token). read.done ++ ts) tokens;
  written = read.written;
  ends = λ more trace.
      let last : (x : ℕ) × ((more ≡ sizes ++ x ∷ []) × (number_of (slice_range text from to) ≡ Some x)) =
      split_last (record { from = from; bytes = slice_range text from to }) read.done sizes read.written.numbers
      trace.numbers in
      let ends : IsPushed sizes last.0 more = is_pushed sizes last.0 more last.1.0 in
      none last.0 (record {
        number = last.1.1;
        small = omega (arith, trace.small (length sizes) 0 (omega (arith, ends.longer)), ends.at_end);
        few_bytes = omega (arith, trace.few_bytes, ends.summed, read.total_is);
        few = omega (arith, trace.few, ends.longer, counted);
      });
  starts = refl;
}
  where
    open so_far use {sizes, read, counted}
    open next use {from, to, tokens}

-- the byte after a token, which is white space, is passed over where there is one
pub read_past : {text : List ℕ} {at : ℕ} {sizes : List ℕ} {total : ℕ} → HasRead text at sizes total
    → begins_token (drop at text) ≡ false → HasRead text (min (at + 1) (length text)) sizes total
read_past {text} {at} {sizes} {total} read ends = elim (cases_lt at (length text)) [
  | inl inside ↦
      let same : at + 1 ≡ min (at + 1) (length text) = omega (arith, inside) in
      let blank : list_all is_white_space (take 1 (drop at text)) ≡ true = first_blank (drop at text) ends in
      let tokens = blanks_at text at 1 (omega (arith, inside, length-drop at text)) blank in
      subst (λ (n : ℕ). HasRead text n sizes total) same (record {
        within = omega (arith, inside);
        done = read.done;
        tokens = read.tokens ∙ ap (λ (ts : List Token). read.done ++ ts) tokens;
        written = read.written;
        total_is = read.total_is;
      })
  | inr le ↦
      let within = read.within in
      let same : at ≡ min (at + 1) (length text) = omega (arith, le, within) in
      subst (λ (n : ℕ). HasRead text n sizes total) same read
]
  where
    first_blank : (rest : List ℕ) → begins_token rest ≡ false → list_all is_white_space (take 1 rest) ≡ true
    first_blank [] none = refl
    first_blank (b ∷ rest) none = ap (λ (v : Bool). v && true) (not-false (is_white_space b) none)
