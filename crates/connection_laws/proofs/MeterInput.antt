-- What a client reads its meter by, where what came is a prefix of two replies, a film's blocks and later replies;
-- and where an element stands among these.
use Rattle.std.proofs.Common.{◌≡◌, ℕ, zero, suc, ◌+◌, ◌-◌, ◌<◌, ◌≤◌, ◌==◌, false, min, Ok, List, [], ◌∷◌, ◌++◌, length}
use Rattle.std.proofs.Common.{take, get_or, refl, ap, subst, ◌∙◌, arith, inl, inr}
use Rattle.std.proofs.lemmas.Bool.{cases_lt}
use Rattle.std.proofs.lemmas.List.{get_or-take, length-append, length-take, take-append-le, take_all}
use Rattle.std.proofs.Math.Seq.{take-append-add}
use Rattle.connection_laws.proofs.Terms.{IsFirst, IsMessageLength, More, StartsMessage, count_ended, framed_bytes}
use Rattle.connection_laws.proofs.Terms.{cut_bytes, events_of_elements, element_events, WatchStage, Reply, replies}
use Rattle.interleave.proofs.StreamElements.{TwoStreams, stream_once, tells_none}
use Rattle.connection_laws.proofs.PieceCounts.{all_past, all_within, at_less, at_more, count_bytes, count_most}
use Rattle.connection_laws.proofs.PieceCounts.{count_whole, rest_at}
use Rattle.connection_laws.proofs.ClientInput.{Heard, no_sum, moments_parts}
use Rattle.connection_laws.proofs.ElementStreams.{AreAlone, IsAlone, cut_at}
use Rattle.connection_laws.proofs.HistorySums.{AreOneBlocks, IsOneBlock, Sum, blocks_same, replies_grow, step, steps}
use Rattle.connection_laws.proofs.HistorySums.{steps_on, sum_of}
use Rattle.connection_laws.proofs.Lists.{Each}

-- ---- a reply, as it is received

pub record IsText (m : List ℕ) : Type 0 where
  pub moment : element_events m ≡ Reply m ∷ []
  pub other : (get_or m 0 0 == 36) ≡ false
  pub alone : IsAlone m

abbrev pub AreTexts : List (List ℕ) → Type 0
AreTexts = Each IsText

pub text_is : (m : List ℕ) → StartsMessage m → IsMessageLength m (length m) → IsText m
text_is m starts size = grind arith

-- ---- the bytes of a block that isn't complete

take_cut : (m : List ℕ) (d : ℕ) → (get_or m 0 0 == 36) ≡ false → cut_bytes (take d m) ≡ 0
take_cut m d given = grind arith

texts_cut : (ms : List (List ℕ)) (d : ℕ) → AreTexts ms → cut_bytes (rest_at d ms) ≡ 0
texts_cut [] d are = refl
texts_cut (m ∷ ms) d are =
    grind (arith, cases_lt d (length m), at_less, take_cut m d are.0.other, at_more, texts_cut ms (d - length m) are.1)

block_cut : (b : List ℕ) (d : ℕ) → get_or b 0 0 ≡ 36 → get_or b 1 0 < 2 → cut_bytes (take d b) ≡ length (take d b)
block_cut b d starts channel = grind (arith, get_or-take, length-take)

blocks_cut : (bs : List (List ℕ)) (c : ℕ) → AreOneBlocks bs → cut_bytes (rest_at c bs) ≡ length (rest_at c bs)
blocks_cut [] c are = refl
blocks_cut (b ∷ bs) c are = search (arith, block_cut b c are.0.starts are.0.channel, blocks_cut bs (c - length b) are.1)

-- ---- a stream of two replies, blocks, and later replies

pub record Stream : Type 0 where
  pub first : List ℕ
  pub second : List ℕ
  pub blocks : List (List ℕ)
  pub later : List (List ℕ)
  pub first_is : IsText first
  pub second_is : IsText second
  pub blocks_are : AreOneBlocks blocks
  pub later_are : AreTexts later
  pub alone : AreAlone (first ∷ second ∷ (blocks ++ later))

abbrev pub all_of : Stream → List (List ℕ)
all_of x = x.first ∷ x.second ∷ (x.blocks ++ x.later)

abbrev pub begun_sum : Stream → Sum
begun_sum x = steps no_sum (Reply x.first ∷ Reply x.second ∷ [])

abbrev pub film_place : Stream → ℕ → ℕ
film_place x c = c - length x.first - length x.second

texts_count : (ms : List (List ℕ)) (k : ℕ) (s : Sum) → AreTexts ms → k ≤ length ms
    → (steps s (events_of_elements (take k ms))).replies ≡ s.replies + k
texts_count ms zero s are few = omega arith
texts_count [] (suc k) s are few = absurd (omega (arith, few))
texts_count (m ∷ ms) (suc k) s are few = grind (arith, texts_count ms k (step (Reply m) s) are.1 (omega (arith, few)))

pub two_moments : (x : Stream) (rest : List (List ℕ))
    → steps no_sum (events_of_elements (x.first ∷ x.second ∷ rest)) ≡ steps (begun_sum x) (events_of_elements rest)
two_moments x rest = rw (x.first_is.moment, x.second_is.moment)

-- what was received at a reading, once the reply to PLAY was received and before a third one
pub record IsReadingOf (x : Stream) (c : ℕ) (at : WatchStage) : Type 0 where
  pub past : length x.first + length x.second ≤ c
  pub sum : sum_of at.history ≡ steps (begun_sum x) (events_of_elements (take (count_ended (film_place x c) x.blocks)
      x.blocks))
  pub cut : length (framed_bytes (take (count_ended (film_place x c) x.blocks) x.blocks)) + cut_bytes at.rest
      ≡ min (film_place x c) (length (framed_bytes x.blocks))

-- before the film's end, and past it
reading_film : {at : WatchStage} {x : Stream} {c : ℕ} → length x.first + length x.second ≤ c → sum_of at.history
    ≡ steps (begun_sum x)
    (events_of_elements (take (count_ended (film_place x c) (x.blocks ++ x.later)) (x.blocks ++ x.later)))
    → at.rest ≡ rest_at (film_place x c) (x.blocks ++ x.later) → replies at.history ≤ 2 → IsReadingOf x c at
reading_film {at} {x} {c} long sum_is rest_is few =
    let d = film_place x c in
    let bs = x.blocks in
    elim (cases_lt d (length (framed_bytes bs))) [
      | inl inside ↦ search (arith, all_within, blocks_cut, take-append-le, count_bytes)
      | inr after ↦
          let total = length (framed_bytes bs) in
          let k = count_ended (d - total) x.later in
          let past = all_past bs x.later d after in
          let t = steps (begun_sum x) (events_of_elements bs) in
          let all : sum_of at.history ≡ steps t (events_of_elements (take k x.later)) =
          rw (sum_is, past.0, take-append-add bs x.later k, moments_parts bs (take k x.later))
          (steps_on (begun_sum x) (events_of_elements bs) (events_of_elements (take k x.later))) in
          let same = (blocks_same bs (begun_sum x) x.blocks_are).replies in
          let counted = texts_count x.later k t x.later_are (count_most x.later (d - total)) in
          let none : k ≡ 0 = omega (arith, ap (λ (z : Sum). z.replies) all, counted, same, few) in
          let front : take (count_ended d bs) bs ≡ bs =
          take_all (count_ended d bs) bs (omega (arith, count_whole bs d after)) in
          let cut : cut_bytes at.rest ≡ 0 = rw (rest_is, past.1) (texts_cut x.later (d - total) x.later_are) in
          record {
            past = long;
            sum = cc (all, none, front);
            cut = omega (arith, cut, ap (λ l. length (framed_bytes l)) front, after);
          }
    ]

-- what was received, of which no complete element waits, is so much of a stream
pub reading_of : {x : Stream} {bytes : List ℕ} {at : WatchStage} (c : ℕ) → Heard bytes at → IsFirst at.rest (Ok More)
    → bytes ≡ take c (framed_bytes (all_of x)) → 1 < replies at.history → replies at.history ≤ 2 → IsReadingOf x c at
reading_of {x} {bytes} {at} c heard idle is playing few =
    let all = all_of x in
    let streams : TwoStreams bytes heard.elements (take (count_ended c all) all) at.rest (rest_at c all) =
    record { one = (heard.cut, tells_none at.rest (Ok More) idle); other = rw is (cut_at all c x.alone) } in
    let once = stream_once streams in
    let whole = heard.sum ∙ ap (λ l. steps no_sum (events_of_elements l)) once.0 in
    let two = x.first ∷ x.second ∷ [] in
    let later = x.blocks ++ x.later in
    let size : length (framed_bytes two) ≡ length x.first + length x.second =
    omega (arith, length-append x.first (x.second ++ []), length-append x.second []) in
    elim (cases_lt c (length (framed_bytes two))) [
      | inl short ↦
          let k = count_ended c two in
          let within = all_within two later c short in
          let sum : sum_of at.history ≡ steps no_sum (events_of_elements (take k two)) =
          rw (whole, within.0, take-append-le k two later (omega (arith, within.1))) in
          let counted = texts_count two k no_sum (x.first_is, (x.second_is, tt)) (omega (arith, within.1)) in
          absurd (omega (arith, playing, ap (λ (z : Sum). z.replies) sum, counted, within.1))
      | inr long ↦
          let past = all_past two later c long in
          let place : c - length (framed_bytes two) ≡ film_place x c = omega (arith, size) in
          let k = count_ended (film_place x c) later in
          let front : take (count_ended c all) all
          ≡ two ++ take k later = search (arith, take-append-add two later k) in
          reading_film (omega (arith, long, size)) (rw (whole, front, two_moments x (take k later)))
          (rw (once.1, past.1, place)) few
    ]

-- ---- where an element stands

-- a reply after the blocks is a third one
pub third_reply : (x : Stream) (y : List ℕ) (ys : List (List ℕ)) → element_events y ≡ Reply y ∷ []
    → 3 ≤ (steps no_sum (events_of_elements (x.first ∷ x.second ∷ (x.blocks ++ y ∷ ys)))).replies
third_reply x y ys reply = search (
  arith,
  moments_parts x.blocks (y ∷ ys),
  steps_on (begun_sum x) (events_of_elements x.blocks) (Reply y ∷ events_of_elements ys),
  replies_grow,
)

-- where an element stands among blocks and later texts: within the blocks, directly after them, or after a text
pub data StandsIn (bs ls qs : List (List ℕ)) (e : List ℕ) (es : List (List ℕ)) : Type 0 where
  Within : (rest : List (List ℕ)) → bs ≡ qs ++ e ∷ rest → AreOneBlocks qs → IsOneBlock e → StandsIn bs ls qs e es
  After : qs ≡ bs → ls ≡ e ∷ es → StandsIn bs ls qs e es
  Later : (y : List ℕ) (more : List (List ℕ)) → qs ≡ bs ++ y ∷ more → element_events y ≡ Reply y ∷ []
      → StandsIn bs ls qs e es

pub stands_in : (bs ls qs : List (List ℕ)) (e : List ℕ) (es : List (List ℕ)) → AreOneBlocks bs → AreTexts ls
    → bs ++ ls ≡ qs ++ e ∷ es → StandsIn bs ls qs e es
stands_in [] ls [] e es ones are is = After refl is
stands_in [] ls (q ∷ qs) e es ones are is =
    let texts : AreTexts (q ∷ (qs ++ e ∷ es)) = subst AreTexts is are in Later q qs refl texts.0.moment
stands_in (b ∷ bs) ls [] e es ones are is = Within bs (cc) tt (let same : b ≡ e = cc in rw same at ones.0)
stands_in (b ∷ bs) ls (q ∷ qs) e es ones are is =
    let same : b ≡ q = cc in
    elim (stands_in bs ls qs e es ones.1 are (cc)) [
      | Within more inside front one ↦ Within more (cc) (rw same at ones.0, front) one
      | After past after ↦ After (cc) after
      | Later y more past text ↦ Later y more (cc) text
    ]
