-- A stream in the fields of the standard is read as these fields say.
use Rattle.std.proofs.Common.{◌≡◌, ℕ, ◌/◌, ◌%◌, ◌^◌, ◌<◌, ◌≤◌, ◌==◌, false, cond, List, [], ◌∷◌, ◌++◌, length, Option}
use Rattle.std.proofs.Common.{Some, None, refl, sym, ap, subst, ◌∙◌, arith, inl, inr, eq-eqb, ne_eqb, nat_le}
use Rattle.std.specs.Prelude.{IsSome, unwrap_or}
use Rattle.std.proofs.lemmas.Bool.{and_left, and_right, and_from, both_ways, cases_eq, cond-false, cond-true, le-leb}
use Rattle.std.proofs.lemmas.Bool.{lt-leb}
use Rattle.sys_demux.specs.PacketContents.{video_in}
use Rattle.sys_demux.specs.StreamItems.{Item, item_bytes, choose, is_chosen, is_video_stream_id, chosen_next}
use Rattle.sys_demux.specs.StreamItems.{IsItem, AreItems, item_video, video_of, bytes_of}
use Rattle.sys_demux.specs.StreamItems.Item.{Pack, Packet}
use Rattle.sys_demux.specs.StandardFields.{Buffer, Stamps, Element, pack_fields, buffer_bytes, stamp_bytes, content_of}
use Rattle.sys_demux.specs.StandardFields.{video_stream_id, element_bytes, stream_bytes, FitsBuffer, FitStamps}
use Rattle.sys_demux.specs.StandardFields.{IsOtherValue, IsVideoPacket, IsElement, AreElements, IsStreamEnd}
use Rattle.sys_demux.specs.StandardFields.{first_stream, video_of_stream, video_by, first_video, IsSizeField}
use Rattle.sys_demux.specs.StandardFields.{IsStampField}
use Rattle.sys_demux.specs.StandardFields.Element.{PackHeader, VideoPacket, OtherPacket}
use Rattle.sys_demux.specs.StandardFields.Stamps.{NoStamp, Shown, ShownAndDecoded}
use Rattle.sys_demux.specs.SystemStreams.{IsEnd, IsSystem}
use Rattle.sys_demux.proofs.PacketHeaderLemmas.{header_is}

-- ---- elements as items

abbrev pub packet_item : ℕ → ℕ → List ℕ → Item
packet_item front value content = Packet front value (length content / 256) (length content % 256) content

abbrev pub item_of : Element → Item
item_of (PackHeader front clock_reference mux_rate) = Pack front (pack_fields clock_reference mux_rate)
item_of (VideoPacket front stream stuffing buffer stamps video) =
    packet_item front (video_stream_id stream) (content_of stuffing buffer stamps video)
item_of (OtherPacket front value content) = packet_item front value content

abbrev pub items_of : List Element → List Item
items_of [] = []
items_of (element ∷ elements) = item_of element ∷ items_of elements

pub same_bytes : (element : Element) → item_bytes (item_of element) ≡ element_bytes element
same_bytes (PackHeader front clock_reference mux_rate) = refl
same_bytes (VideoPacket front stream stuffing buffer stamps video) = refl
same_bytes (OtherPacket front value content) = refl

pub items_bytes : (elements : List Element) → bytes_of (items_of elements) ≡ stream_bytes elements
items_bytes [] = refl
items_bytes (element ∷ elements) =
    ap (λ (l : List ℕ). l ++ bytes_of (items_of elements)) (same_bytes element)
    ∙ ap (λ (l : List ℕ). element_bytes element ++ l) (items_bytes elements)

-- ---- what is chosen

-- the chosen stream_id, where the first stream of video has this number
abbrev pub value_by : Option ℕ → Option ℕ
value_by None = None
value_by (Some number) = Some (video_stream_id number)

abbrev pub Fits : Option ℕ → Type 0
Fits None = Unit {0}
Fits (Some number) = number < 16

-- that of the first stream after an element
abbrev pub next : Option ℕ → Element → Option ℕ
next first (PackHeader _ clock_reference mux_rate) = first
next None (VideoPacket _ stream stuffing buffer stamps video) = Some stream
next (Some number) (VideoPacket _ stream stuffing buffer stamps video) = Some number
next first (OtherPacket _ value content) = first

-- the video of an element, and of all of them
abbrev pub own : Option ℕ → Element → List ℕ
own first (PackHeader _ clock_reference mux_rate) = []
own None (VideoPacket _ stream stuffing buffer stamps video) = video
own (Some number) (VideoPacket _ stream stuffing buffer stamps video) = cond (number == stream) video []
own first (OtherPacket _ value content) = []

abbrev pub videos : Option ℕ → List Element → List ℕ
videos None elements = first_video elements
videos (Some number) elements = video_of_stream number elements

-- an element is an item with its video
pub record IsRead (first : Option ℕ) (element : Element) : Type 0 where
  pub item : IsItem (value_by first) (item_of element)
  pub next_is : chosen_next (value_by first) (item_of element) ≡ value_by (next first element)
  pub video : item_video (value_by first) (item_of element) ≡ own first element
  pub fits : Fits (next first element)

-- ---- a pack header
pack_read : (first : Option ℕ) (front clock_reference mux_rate : ℕ) → Fits first → clock_reference < 2 ^ 33
    → IsRead first (PackHeader front clock_reference mux_rate)
pack_read first front clock_reference mux_rate fits short =
    record { item = record { eight = refl; mark = omega (arith, short) }; next_is = refl; video = refl; fits = fits }

-- ---- another packet
none_chosen : (value : ℕ) → IsOtherValue value → choose None value ≡ None
none_chosen value (inl low) =
    cond-false (is_video_stream_id value) (Some value) None
    (and_left (nat_le 224 value) (nat_le value 239) (lt-leb 224 value (omega (arith, low.1))))
none_chosen value (inr high) =
    cond-false (is_video_stream_id value) (Some value) None
    (and_right (nat_le 224 value) (nat_le value 239) (lt-leb value 239 (omega (arith, high.0))))

not_chosen : (first : Option ℕ) (value : ℕ) → Fits first → IsOtherValue value
    → is_chosen (choose (value_by first) value) value ≡ false
not_chosen None value fits other = ap (λ o. is_chosen o value) (none_chosen value other)
not_chosen (Some number) value fits (inl low) = ne_eqb (video_stream_id number) value (λ e. omega (arith, e, low.1))
not_chosen (Some number) value fits (inr high) =
    ne_eqb (video_stream_id number) value (λ e. omega (arith, e, fits, high.0))

other_next : (first : Option ℕ) (value : ℕ) → IsOtherValue value → choose (value_by first) value ≡ value_by first
other_next None value other = none_chosen value other
other_next (Some number) value other = refl

other_low : (value : ℕ) → IsOtherValue value → 187 ≤ value
other_low value (inl low) = low.0
other_low value (inr high) = omega (arith, high.0)

other_read : (first : Option ℕ) (front value : ℕ) (content : List ℕ) → Fits first → IsOtherValue value
    → IsRead first (OtherPacket front value content)
other_read first front value content fits other =
    let other_is = not_chosen first value fits other in
    record {
      item = record {
        value_is = other_low value other;
        length_is = omega arith;
        header = λ chosen. absurd (both_ways (is_chosen (choose (value_by first) value) value) other_is chosen);
      };
      next_is = other_next first value other;
      video = cond-false (is_chosen (choose (value_by first) value) value) (unwrap_or (video_in content) []) []
          other_is;
      fits = fits;
    }

-- ---- a packet of video
size_field : (buffer : Option Buffer) → FitsBuffer buffer → IsSizeField (buffer_bytes buffer)
size_field None fits = inl refl
size_field (Some buffer) fits = inr (refl, omega (arith, fits.0, fits.1))

stamp_field : (stamps : Stamps) → FitStamps stamps → IsStampField (stamp_bytes stamps)
stamp_field NoStamp fit = inr (inr refl)
stamp_field (Shown shown) fit = inl (refl, omega (arith, fit))
stamp_field (ShownAndDecoded shown decoded) fit = inr (inl (refl, omega (arith, fit.0)))

pub content_read : (stream stuffing : ℕ) (buffer : Option Buffer) (stamps : Stamps) (video : List ℕ)
    → IsVideoPacket stream stuffing buffer stamps video
    → video_in (content_of stuffing buffer stamps video) ≡ Some video
content_read stream stuffing buffer stamps video is =
    (header_is (content_of stuffing buffer stamps video) video).1 (record {
      stuffing = stuffing;
      size = buffer_bytes buffer;
      stamp = stamp_bytes stamps;
      few = is.few;
      size_is = size_field buffer is.buffer_fits;
      stamp_is = stamp_field stamps is.stamps_fit;
      is = refl;
    })

pub video_chosen : (stream : ℕ) → stream < 16 → choose None (video_stream_id stream) ≡ Some (video_stream_id stream)
video_chosen stream fits =
    cond-true (is_video_stream_id (video_stream_id stream)) (Some (video_stream_id stream)) None
    (and_from (nat_le 224 (video_stream_id stream)) (nat_le (video_stream_id stream) 239)
    (le-leb 224 (video_stream_id stream) (omega arith)) (le-leb (video_stream_id stream) 239 (omega (arith, fits))))

video_item : (chosen : Option ℕ) (front stream : ℕ) (content video : List ℕ) → video_in content ≡ Some video
    → IsItem chosen (packet_item front (video_stream_id stream) content)
video_item chosen front stream content video read = record {
  value_is = omega arith;
  length_is = omega arith;
  header = λ _. subst (λ (o : Option (List ℕ)). IsSome o) (sym read) refl;
}

video_read : {first : Option ℕ} {front stream stuffing : ℕ} {buffer : Option Buffer} {stamps : Stamps}
    {video : List ℕ} → Fits first → IsVideoPacket stream stuffing buffer stamps video →
    IsRead first (VideoPacket front stream stuffing buffer stamps video)
video_read {first = None} {front} {stream} {stuffing} {buffer} {stamps} {video} fits is =
    let content = content_of stuffing buffer stamps video in
    let read = content_read stream stuffing buffer stamps video is in
    let value = video_stream_id stream in
    let chosen = video_chosen stream is.stream_fits in
    record {
      item = video_item None front stream content video read;
      next_is = chosen;
      video = ap (λ o. cond (is_chosen o value) (unwrap_or (video_in content) []) []) chosen
          ∙ cond-true (value == value) (unwrap_or (video_in content) []) [] (eq-eqb value value refl)
          ∙ ap (λ o. unwrap_or o []) read;
      fits = is.stream_fits;
    }
video_read {first = Some number} {front} {stream} {stuffing} {buffer} {stamps} {video} fits is =
    let content = content_of stuffing buffer stamps video in
    let read = content_read stream stuffing buffer stamps video is in
    let value = video_stream_id stream in
    record {
      item = video_item (Some (video_stream_id number)) front stream content video read;
      next_is = refl;
      video = elim (cases_eq number stream) [
        | inl same ↦
            cond-true (video_stream_id number == value) (unwrap_or (video_in content) []) []
            (eq-eqb (video_stream_id number) value (omega (arith, same)))
            ∙ ap (λ o. unwrap_or o []) read ∙ sym (cond-true (number == stream) video [] (eq-eqb number stream same))
        | inr other ↦
            cond-false (video_stream_id number == value) (unwrap_or (video_in content) []) []
            (ne_eqb (video_stream_id number) value (λ e. other (omega (arith, e))))
            ∙ sym (cond-false (number == stream) video [] (ne_eqb number stream other))
      ];
      fits = fits;
    }

pub element_read : (first : Option ℕ) (element : Element) → Fits first → IsElement element → IsRead first element
element_read first (PackHeader front clock_reference mux_rate) fits is =
    pack_read first front clock_reference mux_rate fits is.0
element_read first (VideoPacket front stream stuffing buffer stamps video) fits is = video_read fits is
element_read first (OtherPacket front value content) fits is = other_read first front value content fits is.0

-- ---- all of them

pack_skipped : (first : Option ℕ) (front clock_reference mux_rate : ℕ) (elements : List Element)
    → video_by first (PackHeader front clock_reference mux_rate ∷ elements) ≡ video_by first elements
pack_skipped None front clock_reference mux_rate elements = refl
pack_skipped (Some number) front clock_reference mux_rate elements = refl

other_skipped : (first : Option ℕ) (front value : ℕ) (content : List ℕ) (elements : List Element)
    → video_by first (OtherPacket front value content ∷ elements) ≡ video_by first elements
other_skipped None front value content elements = refl
other_skipped (Some number) front value content elements = refl

videos_more : (first : Option ℕ) (element : Element) (elements : List Element)
    → own first element ++ videos (next first element) elements ≡ videos first (element ∷ elements)
videos_more None (PackHeader front clock_reference mux_rate) elements =
    sym (pack_skipped (first_stream elements) front clock_reference mux_rate elements)
videos_more (Some number) (PackHeader front clock_reference mux_rate) elements = refl
videos_more None (VideoPacket front stream stuffing buffer stamps video) elements =
    ap (λ (l : List ℕ). l ++ video_of_stream stream elements)
    (sym (cond-true (stream == stream) video [] (eq-eqb stream stream refl)))
videos_more (Some number) (VideoPacket front stream stuffing buffer stamps video) elements = refl
videos_more None (OtherPacket front value content) elements =
    sym (other_skipped (first_stream elements) front value content elements)
videos_more (Some number) (OtherPacket front value content) elements = refl

pub record AreRead (first : Option ℕ) (elements : List Element) : Type 0 where
  pub items : AreItems (value_by first) (items_of elements)
  pub video : video_of (value_by first) (items_of elements) ≡ videos first elements

none_read : (first : Option ℕ) → AreRead first []
none_read None = record { items = tt; video = refl }
none_read (Some number) = record { items = tt; video = refl }

pub elements_read : (first : Option ℕ) (elements : List Element) → Fits first → AreElements elements
    → AreRead first elements
elements_read first [] fits are = none_read first
elements_read first (element ∷ elements) fits are =
    let read = element_read first element fits are.0 in
    let more = elements_read (next first element) elements read.fits are.1 in
    record {
      items = (read.item, subst (λ c. AreItems c (items_of elements)) (sym read.next_is) more.items);
      video =
          ap (λ (l : List ℕ). l ++ video_of (chosen_next (value_by first) (item_of element))
          (items_of elements)) read.video
          ∙ ap (λ c. own first element ++ video_of c (items_of elements)) read.next_is
          ∙ ap (λ (l : List ℕ). own first element ++ l) more.video
          ∙ videos_more first element elements;
    }

end_is : (tail : List ℕ) → IsStreamEnd tail → IsEnd tail
end_is tail (inl none) = inl (record { count = 0; are = none })
end_is tail (inr code) = inr (record { zeros = 0; rest = code.0; is = code.1 })

pub stream_read : (elements : List Element) (tail : List ℕ) → AreElements elements → IsStreamEnd tail
    → IsSystem (stream_bytes elements ++ tail) (first_video elements)
stream_read elements tail are end =
    let read = elements_read None elements tt are in
    record {
      items = items_of elements;
      tail = tail;
      are = read.items;
      bytes_are = ap (λ (l : List ℕ). l ++ tail) (sym (items_bytes elements));
      end = end_is tail end;
      video_is = sym read.video;
    }
