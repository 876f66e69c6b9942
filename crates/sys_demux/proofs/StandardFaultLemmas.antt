-- What is refused after a stream in the fields of the standard.
use Rattle.std.proofs.Common.{◌≡◌, ◌≢◌, ℕ, zero, suc, ◌+◌, ◌-◌, ◌/◌, ◌%◌, ◌<◌, ◌≤◌, ◌⊎◌, true, drop, get_or, replicate}
use Rattle.std.proofs.Common.{take, List, [], ◌∷◌, ◌++◌, length, Option, Some, None, refl, sym, ap, subst, ◌∙◌, arith}
use Rattle.std.proofs.Common.{inl, inr, eq-eqb}
use Rattle.std.proofs.lemmas.List.{append-nil, get_or-drop, length-drop, length-take-le, nil_from_length}
use Rattle.std.proofs.lemmas.List.{take-append-drop}
use Rattle.sys_demux.specs.PacketContents.{video_in}
use Rattle.sys_demux.specs.StreamItems.{chosen_after, choose, is_chosen, with_prefix, zeros_of}
use Rattle.sys_demux.specs.StandardFields.{Element, HasHeader, AreElements, IsElement, IsStrayByte}
use Rattle.sys_demux.specs.StandardFields.{element_bytes, first_stream, front_of, packet_bytes}
use Rattle.sys_demux.specs.StandardFields.{stream_bytes, video_stream_id, with_code}
use Rattle.sys_demux.specs.StandardFields.Element.{PackHeader, VideoPacket, OtherPacket}
use Rattle.sys_demux.specs.SystemStreams.{IsFault, IsBadStream}
use Rattle.sys_demux.specs.declared.faults.SystemFault.{SystemFault}
use Rattle.sys_demux.specs.declared.faults.SystemFault.TheVariants.{BadCode, BadPacket, NotPack, Truncated}
use Rattle.sys_demux.proofs.PacketHeaderLemmas.{header_is}
use Rattle.sys_demux.proofs.StandardStreamLemmas.{Fits, element_read, elements_read, items_bytes, item_of, items_of}
use Rattle.sys_demux.proofs.StandardStreamLemmas.{same_bytes, next, value_by, video_chosen}

-- the first stream of video, where one was known before
abbrev first_of : Option ℕ → Option ℕ → Option ℕ
first_of None later = later
first_of (Some number) later = Some number

first_more : (first : Option ℕ) (element : Element) (elements : List Element)
    → first_of (next first element) (first_stream elements) ≡ first_of first (first_stream (element ∷ elements))
first_more None (PackHeader _ clock_reference mux_rate) elements = refl
first_more (Some number) (PackHeader _ clock_reference mux_rate) elements = refl
first_more None (VideoPacket _ stream stuffing buffer stamps video) elements = refl
first_more (Some number) (VideoPacket _ stream stuffing buffer stamps video) elements = refl
first_more None (OtherPacket _ value content) elements = refl
first_more (Some number) (OtherPacket _ value content) elements = refl

first_none : (first : Option ℕ) → first ≡ first_of first None
first_none None = refl
first_none (Some number) = refl

chosen_all : (first : Option ℕ) (elements : List Element) → Fits first → AreElements elements
    → chosen_after (value_by first) (items_of elements) ≡ value_by (first_of first (first_stream elements))
chosen_all first [] fits are = ap value_by (first_none first)
chosen_all first (element ∷ elements) fits are =
    let read = element_read first element fits are.0 in
    ap (λ c. chosen_after c (items_of elements)) read.next_is
    ∙ chosen_all (next first element) elements read.fits are.1
    ∙ ap value_by (first_more first element elements)

-- a fault after elements is one of the stream
refused : (elements : List Element) (tail : List ℕ) (fault : SystemFault) → AreElements elements
    → IsFault (value_by (first_stream elements)) (length (stream_bytes elements)) tail fault
    → IsBadStream (stream_bytes elements ++ tail) fault
refused elements tail fault are is =
    let start = ap (λ (l : List ℕ). length l) (sym (items_bytes elements)) in
    let chosen = sym (chosen_all None elements tt are) in
    record {
      items = items_of elements;
      tail = tail;
      are = (elements_read None elements tt are).items;
      bytes_are = ap (λ (l : List ℕ). l ++ tail) (sym (items_bytes elements));
      fault_is = subst (λ n. IsFault (chosen_after None (items_of elements)) n tail fault) start
          (subst (λ c. IsFault c (length (stream_bytes elements)) tail fault) chosen is);
    }

pub pack_refused : (elements : List Element) (front mark : ℕ) (rest : List ℕ) → AreElements elements → mark / 16 ≢ 2 →
    IsBadStream (stream_bytes elements ++ with_code front 0xba (mark ∷ rest))
    (NotPack (length (stream_bytes elements) + front))
pack_refused elements front mark rest are other =
    refused elements (with_code front 0xba (mark ∷ rest)) (NotPack (length (stream_bytes elements) + front)) are
    (record { zeros = front; mark = mark; rest = rest; is = refl; other = other; place_is = refl })

pub code_refused : (elements : List Element) (front value : ℕ) (rest : List ℕ) → AreElements elements → value < 0xb9 →
    IsBadStream (stream_bytes elements ++ with_code front value rest) (BadCode (length (stream_bytes elements) + front))
code_refused elements front value rest are low =
    refused elements (with_code front value rest) (BadCode (length (stream_bytes elements) + front)) are
    (inr (record { zeros = front; value = value; rest = rest; is = refl; low = low; place_is = refl }))

none_of : (o : Option (List ℕ)) → ((video : List ℕ) → o ≡ Some video → ⊥) → o ≡ None
none_of None never = refl
none_of (Some video) never = absurd (never video refl)

its_value : (first : Option ℕ) (stream : ℕ) → stream < 16 → ((first ≡ None) ⊎ (first ≡ Some stream))
    → is_chosen (choose (value_by first) (video_stream_id stream)) (video_stream_id stream) ≡ true
its_value first stream fits (inl none) =
    ap (λ o. is_chosen (choose (value_by o) (video_stream_id stream)) (video_stream_id stream)) none
    ∙ ap (λ o. is_chosen o (video_stream_id stream)) (video_chosen stream fits)
    ∙ eq-eqb (video_stream_id stream) (video_stream_id stream) refl
its_value first stream fits (inr same) =
    ap (λ o. is_chosen (choose (value_by o) (video_stream_id stream)) (video_stream_id stream)) same
    ∙ eq-eqb (video_stream_id stream) (video_stream_id stream) refl

-- a packet of the first stream of video, and a content that has no header
pub record HasNoHeader (first : Option ℕ) (stream : ℕ) (content : List ℕ) : Type 0 where
  pub fits : stream < 16
  pub first_is : (first ≡ None) ⊎ (first ≡ Some stream)
  pub never : (video : List ℕ) → HasHeader content video → ⊥

pub packet_refused : {stream : ℕ} {content : List ℕ} (elements : List Element) (front : ℕ) →
    AreElements elements → HasNoHeader (first_stream elements) stream content →
    IsBadStream (stream_bytes elements ++ packet_bytes front (video_stream_id stream) content)
    (BadPacket (length (stream_bytes elements) + front))
packet_refused {stream} {content} elements front are bad =
    let value = video_stream_id stream in
    let high = length content / 256 in
    let low = length content % 256 in
    let none : video_in content ≡ None =
    none_of (video_in content) (λ video e. never video ((header_is content video).0 e)) in
    refused elements (packet_bytes front value content) (BadPacket (length (stream_bytes elements) + front)) are
    (record {
      zeros = front;
      value = value;
      high = high;
      low = low;
      front = content;
      rest = [];
      is = ap (λ (l : List ℕ). with_prefix front (value ∷ high ∷ low ∷ l)) (sym (append-nil content));
      value_is = omega arith;
      chosen_is = its_value (first_stream elements) stream fits first_is;
      within = omega arith;
      none = λ more long. ap (λ (l : List ℕ). video_in (content ++ l))
          (nil_from_length more (omega (arith, long))) ∙ ap video_in (append-nil content) ∙ none;
      place_is = refl;
    })
  where
    open bad use {fits, first_is, never}

-- ---- a byte that no start code can have

-- zeros at the first places of a list, and what stands behind them
zeros_front : (count : ℕ) (xs : List ℕ) → count < length xs → ((k : ℕ) → k < count → get_or xs k 0 ≡ 0)
    → xs ≡ replicate count 0 ++ (get_or xs count 0 ∷ drop (suc count) xs)
zeros_front count [] inside zeros = absurd (omega (arith, inside))
zeros_front zero (x ∷ xs) inside zeros = refl
zeros_front (suc count) (x ∷ xs) inside zeros =
    ap (λ n. n ∷ xs) (zeros 0 (omega arith))
    ∙ ap (λ (l : List ℕ). 0 ∷ l)
    (zeros_front count xs (omega (arith, inside)) (λ k few. zeros (suc k) (omega (arith, few))))

pub byte_refused : (elements : List Element) (bytes : List ℕ) (at : ℕ) → AreElements elements →
    IsStrayByte elements bytes at → IsBadStream bytes (BadCode at)
byte_refused elements bytes at are stray =
    let n = length (stream_bytes elements) in
    let count = at - n in
    let here : n + count ≡ at = omega (arith, stray.after) in
    let tail = drop n bytes in
    let byte = get_or tail count 0 in
    let byte_is : byte ≡ get_or bytes at 0 = get_or-drop n bytes count 0 ∙ ap (λ i. get_or bytes i 0) here in
    let inside : count < length tail = omega (arith, length-drop n bytes, stray.inside, stray.after) in
    let tail_is : tail ≡ replicate count 0 ++ (byte ∷ drop (suc count) tail) =
    zeros_front count tail inside (λ k few. get_or-drop n bytes k 0
    ∙ stray.zeros (n + k) (omega arith) (omega (arith, few, here))) in
    let whole : stream_bytes elements ++ tail ≡ bytes =
    ap (λ (l : List ℕ). l ++ tail) (sym stray.begins) ∙ take-append-drop n bytes in
    subst (λ (l : List ℕ). IsBadStream l (BadCode at)) whole
    (refused elements tail (BadCode at) are (inl (record {
      count = count;
      byte = byte;
      rest = drop (suc count) tail;
      is = tail_is;
      some = λ none. stray.some (sym byte_is ∙ none);
      early = λ one. omega (arith, stray.early (sym byte_is ∙ one), here);
      place_is = sym here;
    })))

-- ---- an element that the end of the stream stops early

first_fits : (elements : List Element) → AreElements elements → Fits (first_stream elements)
first_fits [] are = tt
first_fits (PackHeader _ clock_reference mux_rate ∷ elements) are = first_fits elements are.1
first_fits (VideoPacket _ stream stuffing buffer stamps video ∷ elements) are = are.0.stream_fits
first_fits (OtherPacket _ value content ∷ elements) are = first_fits elements are.1

zeros_are : (element : Element) → zeros_of (item_of element) ≡ front_of element
zeros_are (PackHeader front clock_reference mux_rate) = refl
zeros_are (VideoPacket front stream stuffing buffer stamps video) = refl
zeros_are (OtherPacket front value content) = refl

pub end_refused : (elements : List Element) (element : Element) (count : ℕ) → AreElements elements
    → IsElement element → (front_of element + 3 ≤ count) × (count < length (element_bytes element))
    → IsBadStream (stream_bytes elements ++ take count (element_bytes element))
    (Truncated (length (stream_bytes elements) + front_of element))
end_refused elements element count are is cut =
    let bytes = element_bytes element in
    let zeros = zeros_are element in
    refused elements (take count bytes) (Truncated (length (stream_bytes elements) + front_of element)) are (record {
      item = item_of element;
      lacking = drop count bytes;
      is_item = (element_read (first_stream elements) element (first_fits elements are) is).item;
      is = same_bytes element ∙ sym (take-append-drop count bytes);
      begun = omega (arith, zeros, length-take-le count bytes (omega (arith, cut.1)), cut.0);
      some = omega (arith, length-drop count bytes, cut.1);
      place_is = omega (arith, zeros);
    })
