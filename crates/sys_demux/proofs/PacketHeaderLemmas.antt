-- The header of a packet's content, field by field.
use Rattle.std.proofs.Common.{◌≡◌, ℕ, ◌+◌, ◌/◌, ◌<◌, ◌≤◌, ◌==◌, ◌↔◌, cond, nat_le, zero, suc, List, [], ◌∷◌, ◌++◌}
use Rattle.std.proofs.Common.{length, take, drop, Some, None, refl, sym, ap, ◌∙◌, arith, inl, inr, eq-eqb, ne_eqb}
use Rattle.std.specs.Prelude.{replicate}
use Rattle.std.proofs.lemmas.Bool.{cases_Bool, cases_eq, cond-true, cond-false, leb-true, le-leb}
use Rattle.std.proofs.lemmas.List.{append_assoc, drop_at, length-append, length-take-le, take-append-drop}
use Rattle.std.proofs.lemmas.Option.{none-some, same_Some}
use Rattle.sys_demux.specs.PacketContents.{video_in, from_stuffing, from_size, from_stamp, after_bytes}
use Rattle.sys_demux.specs.StandardFields.{HasHeader, IsSizeField, IsStampField}
use Rattle.sys_demux.proofs.PacketHeaderSteps.{stuffing_other}

-- ---- a header whose fields stand there is read

after_some : (count : ℕ) (front video : List ℕ) → length front ≡ count → after_bytes count (front ++ video) ≡ Some video
after_some count front video long =
    cond-true (nat_le count (length (front ++ video))) (Some (drop count (front ++ video))) None
    (le-leb count (length (front ++ video)) (omega (arith, long, length-append front video)))
    ∙ ap Some (drop_at front video count long)

stamp_read : (stamp video : List ℕ) → IsStampField stamp → from_stamp (stamp ++ video) ≡ Some video
stamp_read [] video (inl h) = absurd (omega (arith, h.0))
stamp_read (b ∷ rest) video (inl h) =
    cond-true (b / 16 == 2) (after_bytes 4 (rest ++ video))
    (cond (b / 16 == 3) (after_bytes 9 (rest ++ video)) (cond (b == 15) (Some (rest ++ video)) None))
    (eq-eqb (b / 16) 2 h.1)
    ∙ after_some 4 rest video (omega (arith, h.0))
stamp_read [] video (inr (inl h)) = absurd (omega (arith, h.0))
stamp_read (b ∷ rest) video (inr (inl h)) =
    cond-false (b / 16 == 2) (after_bytes 4 (rest ++ video))
    (cond (b / 16 == 3) (after_bytes 9 (rest ++ video)) (cond (b == 15) (Some (rest ++ video)) None))
    (ne_eqb (b / 16) 2 (λ e. omega (arith, e, h.1)))
    ∙ cond-true (b / 16 == 3) (after_bytes 9 (rest ++ video)) (cond (b == 15) (Some (rest ++ video)) None)
    (eq-eqb (b / 16) 3 h.1)
    ∙ after_some 9 rest video (omega (arith, h.0))
stamp_read stamp video (inr (inr is)) = ap (λ (s : List ℕ). from_stamp (s ++ video)) is

-- the first byte of a header after the stuffing
record Starts (bytes : List ℕ) : Type 0 where
  first : ℕ
  rest : List ℕ
  is : bytes ≡ first ∷ rest
  low : first < 64

stamp_starts : (stamp video : List ℕ) → IsStampField stamp → Starts (stamp ++ video)
stamp_starts [] video (inl h) = absurd (omega (arith, h.0))
stamp_starts (b ∷ rest) video (inl h) = record { first = b; rest = rest ++ video; is = refl; low = omega (arith, h.1) }
stamp_starts [] video (inr (inl h)) = absurd (omega (arith, h.0))
stamp_starts (b ∷ rest) video (inr (inl h)) =
    record { first = b; rest = rest ++ video; is = refl; low = omega (arith, h.1) }
stamp_starts stamp video (inr (inr is)) =
    record { first = 15; rest = video; is = ap (λ (s : List ℕ). s ++ video) is; low = omega arith }

size_read : (size stamp video : List ℕ) → IsSizeField size → IsStampField stamp
    → from_size (size ++ stamp ++ video) ≡ Some video
size_read size stamp video (inl none) stamp_is =
    let starts = stamp_starts stamp video stamp_is in
    ap (λ (s : List ℕ). from_size (s ++ stamp ++ video)) none
    ∙ ap from_size starts.is
    ∙ cond-false (starts.first / 64 == 1) (from_stamp (drop 1 starts.rest))
    (from_stamp (starts.first ∷ starts.rest)) (ne_eqb (starts.first / 64) 1 (λ e. omega (arith, e, starts.low)))
    ∙ ap from_stamp (sym starts.is)
    ∙ stamp_read stamp video stamp_is
size_read [] stamp video (inr h) stamp_is = absurd (omega (arith, h.0))
size_read (b ∷ []) stamp video (inr h) stamp_is = absurd (omega (arith, h.0))
size_read (b ∷ c ∷ []) stamp video (inr h) stamp_is =
    cond-true (b / 64 == 1) (from_stamp (stamp ++ video)) (from_stamp (b ∷ c ∷ (stamp ++ video)))
    (eq-eqb (b / 64) 1 h.1)
    ∙ stamp_read stamp video stamp_is
size_read (b ∷ c ∷ d ∷ more) stamp video (inr h) stamp_is = absurd (omega (arith, h.0))

size_starts : (size stamp video : List ℕ) → IsSizeField size → IsStampField stamp
    → (first : ℕ) × ((rest : List ℕ) × ((size ++ stamp ++ video ≡ first ∷ rest) × (first < 128)))
size_starts size stamp video (inl none) stamp_is =
    let starts = stamp_starts stamp video stamp_is in (
      starts.first,
      (starts.rest, (ap (λ (s : List ℕ). s ++ stamp ++ video) none ∙ starts.is, omega (arith, starts.low))),
    )
size_starts [] stamp video (inr h) stamp_is = absurd (omega (arith, h.0))
size_starts (b ∷ rest) stamp video (inr h) stamp_is = (b, (rest ++ stamp ++ video, (refl, omega (arith, h.1))))

stuffing_read : {bytes video : List ℕ} {first : ℕ} {rest : List ℕ} (most count : ℕ) → count ≤ most →
    bytes ≡ first ∷ rest → first < 128 → from_size bytes ≡ Some video →
    from_stuffing most (replicate count 255 ++ bytes) ≡ Some video
stuffing_read {first} {rest} most zero few is low read =
    ap (from_stuffing most) is ∙ stuffing_other most first rest (ne_eqb first 255 (λ e. omega (arith, e, low)))
    ∙ ap from_size (sym is) ∙ read
stuffing_read {first} zero (suc count) few is low read = absurd (omega (arith, few))
stuffing_read {first} (suc most) (suc count) few is low read = stuffing_read most count (omega (arith, few)) is low read

header_read : (content video : List ℕ) → HasHeader content video → video_in content ≡ Some video
unfolding video_in
header_read content video h =
    let starts = size_starts h.size h.stamp video h.size_is h.stamp_is in
    ap (from_stuffing 16) h.is
    ∙ stuffing_read 16 h.stuffing h.few starts.1.1.0 starts.1.1.1 (size_read h.size h.stamp video h.size_is h.stamp_is)

-- ---- a header that is read stands there

record StandAfter (count : ℕ) (bytes video : List ℕ) : Type 0 where
  enough : count ≤ length bytes
  rest : drop count bytes ≡ video

after_stands : (count : ℕ) (bytes video : List ℕ) → after_bytes count bytes ≡ Some video → StandAfter count bytes video
after_stands count bytes video e =
    elim (cases_Bool (nat_le count (length bytes))) [
      | inl there ↦ record {
        enough = leb-true count (length bytes) there;
        rest = same_Some (drop count bytes) video
            (sym (cond-true (nat_le count (length bytes)) (Some (drop count bytes)) None there) ∙ e);
      }
      | inr lacking ↦
          absurd (none-some video (sym (cond-false (nat_le count (length bytes))
          (Some (drop count bytes)) None lacking) ∙ e))
    ]

-- the field of a time stamp, and the video after it
record HasStamp (bytes video : List ℕ) : Type 0 where
  stamp : List ℕ
  stamp_is : IsStampField stamp
  is : bytes ≡ stamp ++ video

stamp_of : (b count : ℕ) (bytes video : List ℕ) → after_bytes count bytes ≡ Some video
    → (length (b ∷ take count bytes) ≡ count + 1 → IsStampField (b ∷ take count bytes)) → HasStamp (b ∷ bytes) video
stamp_of b count bytes video e field =
    let stands = after_stands count bytes video e in
    record {
      stamp = b ∷ take count bytes;
      stamp_is = field (omega (arith, length-take-le count bytes stands.enough));
      is = ap (λ (l : List ℕ). b ∷ l) (sym (take-append-drop count bytes))
          ∙ ap (λ (v : List ℕ). b ∷ (take count bytes ++ v)) stands.rest;
    }

-- a time stamp that isn't of five bytes: it has ten, or is the byte 15 alone
other_stamp : (b : ℕ) (bytes video : List ℕ)
    → cond (b / 16 == 3) (after_bytes 9 bytes) (cond (b == 15) (Some bytes) None) ≡ Some video
    → HasStamp (b ∷ bytes) video
other_stamp b bytes video e =
    elim (cases_eq (b / 16) 3) [
      | inl three ↦
          stamp_of b 9 bytes video
          (sym (cond-true (b / 16 == 3) (after_bytes 9 bytes) (cond (b == 15) (Some bytes) None)
          (eq-eqb (b / 16) 3 three)) ∙ e)
          (λ long. inr (inl (long, three)))
      | inr none ↦
          (let e1 : cond (b == 15) (Some bytes) None ≡ Some video =
          sym (cond-false (b / 16 == 3) (after_bytes 9 bytes) (cond (b == 15) (Some bytes) None)
          (ne_eqb (b / 16) 3 none)) ∙ e in
          elim (cases_eq b 15) [
            | inl is ↦ record {
              stamp = 15 ∷ [];
              stamp_is = inr (inr refl);
              is = ap (λ k. k ∷ bytes) is
                  ∙ ap (λ (v : List ℕ). 15 ∷ v)
                  (same_Some bytes video (sym (cond-true (b == 15) (Some bytes) None (eq-eqb b 15 is)) ∙ e1));
            }
            | inr other15 ↦
                absurd (none-some video (sym (cond-false (b == 15) (Some bytes) None (ne_eqb b 15 other15)) ∙ e1))
          ])
    ]

stamp_stands : (bytes video : List ℕ) → from_stamp bytes ≡ Some video → HasStamp bytes video
stamp_stands [] video e = absurd (none-some video e)
stamp_stands (b ∷ bytes) video e =
    elim (cases_eq (b / 16) 2) [
      | inl two ↦
          stamp_of b 4 bytes video
          (sym (cond-true (b / 16 == 2) (after_bytes 4 bytes)
          (cond (b / 16 == 3) (after_bytes 9 bytes) (cond (b == 15) (Some bytes) None)) (eq-eqb (b / 16) 2 two)) ∙ e)
          (λ long. inl (long, two))
      | inr other ↦
          other_stamp b bytes video
          (sym (cond-false (b / 16 == 2) (after_bytes 4 bytes)
          (cond (b / 16 == 3) (after_bytes 9 bytes) (cond (b == 15) (Some bytes) None))
          (ne_eqb (b / 16) 2 other)) ∙ e)
    ]

-- the fields of a size and of a time stamp, and the video after them
record HasSize (bytes video : List ℕ) : Type 0 where
  size : List ℕ
  size_is : IsSizeField size
  stamp : HasStamp (drop (length size) bytes) video
  is : bytes ≡ size ++ drop (length size) bytes

size_stands : (bytes video : List ℕ) → from_size bytes ≡ Some video → HasSize bytes video
size_stands [] video e = absurd (none-some video e)
size_stands (b ∷ bytes) video e =
    elim (cases_eq (b / 64) 1) [
      | inl one ↦ with_size b bytes video one
          (sym (cond-true (b / 64 == 1) (from_stamp (drop 1 bytes)) (from_stamp (b ∷ bytes))
          (eq-eqb (b / 64) 1 one)) ∙ e)
      | inr other ↦ record {
        size = [];
        size_is = inl refl;
        stamp = stamp_stands (b ∷ bytes) video
            (sym (cond-false (b / 64 == 1) (from_stamp (drop 1 bytes)) (from_stamp (b ∷ bytes))
            (ne_eqb (b / 64) 1 other)) ∙ e);
        is = refl;
      }
    ]
  where
    with_size : (b : ℕ) (bytes video : List ℕ) → b / 64 ≡ 1 → from_stamp (drop 1 bytes) ≡ Some video
        → HasSize (b ∷ bytes) video
    with_size b [] video one e = absurd (none-some video e)
    with_size b (c ∷ bytes) video one e = record {
      size = b ∷ c ∷ [];
      size_is = inr (refl, one);
      stamp = stamp_stands bytes video e;
      is = refl;
    }

-- the same after at most so many bytes of stuffing
record HasHeaderWithin (most : ℕ) (content video : List ℕ) : Type 0 where
  stuffing : ℕ
  few : stuffing ≤ most
  rest : List ℕ
  size : HasSize rest video
  is : content ≡ replicate stuffing 255 ++ rest

unstuffed : (most : ℕ) (content video : List ℕ) → from_size content ≡ Some video → HasHeaderWithin most content video
unstuffed most content video e =
    record { stuffing = 0; few = omega arith; rest = content; size = size_stands content video e; is = refl }

stuffing_stands : (most : ℕ) (content video : List ℕ) → from_stuffing most content ≡ Some video
    → HasHeaderWithin most content video
stuffing_stands most [] video e = absurd (none-some video e)
stuffing_stands zero (b ∷ bytes) video e = unstuffed zero (b ∷ bytes) video e
stuffing_stands (suc most) (b ∷ bytes) video e =
    elim (cases_eq b 255) [
      | inl is ↦
          (let more = stuffing_stands most bytes video
          (sym (cond-true (b == 255) (from_stuffing most bytes) (from_size (b ∷ bytes)) (eq-eqb b 255 is))
          ∙ e) in record {
            stuffing = suc more.stuffing;
            few = omega (arith, more.few);
            rest = more.rest;
            size = more.size;
            is = ap (λ k. k ∷ bytes) is ∙ ap (λ (l : List ℕ). 255 ∷ l) more.is;
          })
      | inr other ↦
          unstuffed (suc most) (b ∷ bytes) video
          (sym (cond-false (b == 255) (from_stuffing most bytes) (from_size (b ∷ bytes)) (ne_eqb b 255 other)) ∙ e)
    ]

header_stands : (content video : List ℕ) → video_in content ≡ Some video → HasHeader content video
unfolding video_in
header_stands content video e =
    let h = stuffing_stands 16 content video e in
    record {
      stuffing = h.stuffing;
      size = h.size.size;
      stamp = h.size.stamp.stamp;
      few = h.few;
      size_is = h.size.size_is;
      stamp_is = h.size.stamp.stamp_is;
      is = h.is ∙ ap (λ (l : List ℕ). replicate h.stuffing 255 ++ l)
          (h.size.is ∙ ap (λ (l : List ℕ). h.size.size ++ l) h.size.stamp.is
          ∙ sym (append_assoc h.size.size h.size.stamp.stamp video));
    }

pub header_is : (content video : List ℕ) → (video_in content ≡ Some video) ↔ HasHeader content video
header_is content video = (header_stands content video, header_read content video)
