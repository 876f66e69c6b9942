-- A client's requests are requests of RTSP 1.0.
use Rattle.std.proofs.Common.{◌≡◌, ℕ, ◌-◌, ◌^◌, ◌<◌, ◌≤◌, ◌&&◌, ◌==◌, reverse, true, false}
use Rattle.std.proofs.Common.{not, nat_lt, nat_le, List, [], ◌∷◌, ◌++◌, All, codes, decimal}
use Rattle.std.proofs.Common.{string_bytes, length, get_or, refl, sym, ap, subst, ◌∙◌, arith, inr}
use Rattle.std.specs.List.{list_all}
use Rattle.std.specs.Char.{is_ascii_digit}
use Rattle.std.proofs.lemmas.Bool.{and_parts, and_from, cond-false}
use Rattle.std.proofs.lemmas.Bool.Decides.{nat_tests}
use Rattle.std.proofs.lemmas.Fmt.{digits_decimal, length-decimal-le}
use Rattle.std.proofs.lemmas.Grind.{common_steps}
use Rattle.std.proofs.lemmas.List.{append_assoc, append-nil, length-append, length-reverse}
use Rattle.std.proofs.lemmas.List.{get_or-reverse, reverse-reverse}
use Rattle.std.proofs.lemmas.List.Elements.{All-nil, All-cons}
use Rattle.std.proofs.lemmas.List.Folds.{list_all-append, list_all_at}
use Rattle.vod_base.specs.Blanks.{is_blank, without_leading_blanks, without_blanks}
use Rattle.vod_base.specs.Names.{is_name_byte}
use Rattle.rtsp_text.specs.Grammar.{is_token, is_url_byte, is_value_byte, IsUrl, IsRtspUrl}
use Rattle.rtsp_text.specs.Replies.{Field, value_named}
use Rattle.rtsp_text.specs.RequestTexts.{RequestPieces, request_head, request_text, IsHeaderField, AreRequest}
use Rattle.rtsp_text.specs.RequestTexts.{AreFront, AreShort, IsWord}
use Rattle.vod_base.proofs.DigitLemmas.{decimal_numerals}
use Rattle.vod_base.proofs.TextLemmas.{trimmed_is}
use Rattle.rtsp_text.proofs.GrammarBytes.{word_of, value_of}
use Rattle.rtsp_text.proofs.RequestTextLemmas.{request_found, request_of, values_of}
use Rattle.rtsp_text.proofs.LineBounds.{all-append}
use Rattle.rtsp_text.proofs.UrlBytes.{all_of, name_in_url}
use Rattle.rtsp_client.specs.WatchRequests.{IsWish}
use Rattle.rtsp_client.specs.Requests.{film_url, setup_text, play_text, teardown_text}
use Rattle.rtsp_client.specs.RequestParts.{setup_parts, play_parts, teardown_parts, request_pieces}
use Rattle.rtsp_client.specs.RequestParts.{IsSessionId, IsRequestText}
use Rattle.rtsp_client.specs.declared.watch_request.Wish.{Wish}
use Rattle.rtsp_client.proofs.RequestTexts.{setup-is, setup_rest, play-is, play_rest, teardown-is, teardown_rest}
use Rattle.rtsp_client.proofs.Texts.{put-long}

digit-in-url : (c : ℕ) → is_ascii_digit c ≡ true → is_url_byte c ≡ true
digit-in-url c digit = grind arith

no-slash : (c : ℕ) → is_ascii_digit c ≡ true → not (c == 47) ≡ true
no-slash c digit = grind arith

url-in-value : (c : ℕ) → is_url_byte c ≡ true → is_value_byte c ≡ true
url-in-value c is = grind arith

not-blank : (c : ℕ) → is_url_byte c ≡ true → is_blank c ≡ false
not-blank c is = grind arith

-- printable bytes have no blanks around them
byte-at : (text : List ℕ) (k : ℕ) → list_all is_url_byte text ≡ true → k < length text
    → is_url_byte (get_or text k 0) ≡ true
byte-at text k all inside = grind (arith, common_steps, list_all_at)

bare-front : (text : List ℕ) → (0 < length text → is_blank (get_or text 0 0) ≡ false) → without_leading_blanks text ≡
    text
bare-front [] other = refl
bare-front (c ∷ text) other = cond-false (is_blank c) (without_leading_blanks text) (c ∷ text) (other (omega arith))

bare-ends : (text : List ℕ) → (0 < length text → is_blank (get_or text 0 0) ≡ false)
    → (0 < length text → is_blank (get_or text (length text - 1) 0) ≡ false) → without_blanks text ≡ text
bare-ends text begins ends =
    let back : 0 < length (reverse text) → is_blank (get_or (reverse text) 0 0) ≡ false = λ some.
    let long : 0 < length text = omega (arith, some, length-reverse text) in
    let last : get_or (reverse text) 0 0 ≡ get_or text (length text - 1 - 0) 0 = get_or-reverse text 0 0 long in
    let same : length text - 1 - 0 ≡ length text - 1 = omega arith in
    ap is_blank (last ∙ ap (λ k. get_or text k 0) same) ∙ ends long in
    ap (λ l. reverse (without_leading_blanks (reverse l))) (bare-front text begins)
    ∙ ap reverse (bare-front (reverse text) back) ∙ reverse-reverse text

bare : (text : List ℕ) → list_all is_url_byte text ≡ true → without_blanks text ≡ text
bare text all =
    bare-ends text (λ some. not-blank (get_or text 0 0) (byte-at text 0 all some))
    (λ some. not-blank (get_or text (length text - 1) 0) (byte-at text (length text - 1) all (omega (arith, some))))

-- what has no blanks around it any more has none
pub bare-again : (text : List ℕ) → without_blanks (without_blanks text) ≡ without_blanks text
bare-again text =
    let trimmed = trimmed_is text in
    bare-ends (without_blanks text) trimmed.begins trimmed.ends

digits : (n : ℕ) → n < 2 ^ 64 → list_all is_url_byte (decimal n) ≡ true
digits n small = all_of is_ascii_digit is_url_byte digit-in-url (decimal n) (digits_decimal decimal_numerals n small)

-- the film's URL
record IsFilm (wish : Wish) : Type 0 where
  is_wish : IsWish wish
  port : wish.port < 2 ^ 16

name-bytes : (wish : Wish) → IsFilm wish → list_all is_url_byte (string_bytes wish.name) ≡ true
name-bytes wish film =
    let name = string_bytes wish.name in
    name_in_url name
    (and_parts (nat_lt 0 (length name) && nat_le (length name) 64 && not (get_or name 0 0 == 46))
    (list_all is_name_byte name) film.is_wish.name).1

film-bytes : (wish : Wish) → IsFilm wish → list_all is_url_byte (film_url wish) ≡ true
film-bytes wish film =
    all-append is_url_byte (codes "rtsp://127.0.0.1:") (decimal wish.port ++ (codes "/" ++ string_bytes wish.name)) refl
    (all-append is_url_byte (decimal wish.port) (codes "/" ++ string_bytes wish.name)
    (digits wish.port (omega (arith, film.port)))
    (all-append is_url_byte (codes "/") (string_bytes wish.name) refl (name-bytes wish film)))

rtsp-url : (wish : Wish) (tail : List ℕ) → IsFilm wish → IsRtspUrl (film_url wish ++ tail)
rtsp-url wish tail film = record {
  scheme = codes "rtsp://";
  authority = codes "127.0.0.1:" ++ decimal wish.port;
  path = codes "/" ++ (string_bytes wish.name ++ tail);
  parts = append_assoc (codes "rtsp://127.0.0.1:") (decimal wish.port ++ (codes "/" ++ string_bytes wish.name)) tail
      ∙ ap (λ l. codes "rtsp://127.0.0.1:" ++ l)
      (append_assoc (decimal wish.port) (codes "/" ++ string_bytes wish.name) tail);
  scheme_is = refl;
  some = omega (arith, length-append (codes "127.0.0.1:") (decimal wish.port));
  no_slash = list_all-append (λ c. not (c == 47)) (codes "127.0.0.1:") (decimal wish.port)
      ∙ and_from (list_all (λ c. not (c == 47)) (codes "127.0.0.1:"))
      (list_all (λ c. not (c == 47)) (decimal wish.port)) refl
      (all_of is_ascii_digit (λ c. not (c == 47)) no-slash (decimal wish.port)
      (digits_decimal decimal_numerals wish.port (omega (arith, film.port))));
  path_begins = λ some. refl;
}

film-is-url : (wish : Wish) → IsFilm wish → IsUrl (film_url wish)
film-is-url wish film = record {
  bytes = film-bytes wish film;
  form = inr (subst IsRtspUrl (append-nil (film_url wish)) (rtsp-url wish [] film));
}

video-is-url : (wish : Wish) → IsFilm wish → IsUrl (film_url wish ++ codes "/video")
video-is-url wish film = record {
  bytes = all-append is_url_byte (film_url wish) (codes "/video") (film-bytes wish film) refl;
  form = inr (rtsp-url wish (codes "/video") film);
}

-- a field of printable bytes
field-of : (name value : List ℕ) → is_token name ≡ true → list_all is_url_byte value ≡ true
    → IsHeaderField (record { name = name; value = value })
field-of name value token all = record {
  name_is = word_of name token;
  value_is = value_of value (all_of is_url_byte is_value_byte url-in-value value all);
  bare = bare value all;
}

-- the field of a session
session-more : (session : List ℕ) (more : List Field) → IsSessionId session → All IsHeaderField more
    → All IsHeaderField (record { name = codes "Session"; value = session } ∷ more)
session-more session more id rest =
    All-cons IsHeaderField (record { name = codes "Session"; value = session }) more (record {
      name_is = word_of (codes "Session") refl;
      value_is = value_of session id.bytes;
      bare = id.bare;
    }) rest

-- one field more
field-more : (name value : List ℕ) (more : List Field) → is_token name ≡ true
    → list_all is_url_byte value ≡ true → All IsHeaderField more
    → All IsHeaderField (record { name = name; value = value } ∷ more)
field-more name value more token all rest =
    All-cons IsHeaderField (record { name = name; value = value }) more (field-of name value token all) rest

-- how long the parts are
decimal-short : (n : ℕ) → n < 2 ^ 64 → length (decimal n) ≤ 20
decimal-short n small = length-decimal-le 20 n (omega arith) (omega (arith, small)) small

film-short : (wish : Wish) → IsFilm wish → length (film_url wish) ≤ 102
film-short wish film =
    let name = string_bytes wish.name in
    let fits : nat_le (length name) 64 ≡ true =
    (and_parts (nat_lt 0 (length name)) (nat_le (length name) 64)
    (and_parts (nat_lt 0 (length name) && nat_le (length name) 64) (not (get_or name 0 0 == 46))
    (and_parts (nat_lt 0 (length name) && nat_le (length name) 64 && not (get_or name 0 0 == 46))
    (list_all is_name_byte name) film.is_wish.name).0).0).1 in
    let short : length name ≤ 64 = grind (arith, nat_tests) in
    omega (
      arith,
      length-append (codes "rtsp://127.0.0.1:") (decimal wish.port ++ (codes "/" ++ name)),
      length-append (decimal wish.port) (codes "/" ++ name),
      short,
      decimal-short wish.port (omega (arith, film.port)),
    )

-- a request without a body is asked by its text, if that is short
asked : {text : List ℕ} (parts : RequestPieces) (sequence : ℕ) → AreRequest parts sequence
    → (parts.body ≡ []) × (length text ≤ 4096) → text ≡ request_text parts → IsRequestText text parts sequence
asked {text} parts sequence request (none, short) is =
    let head : length (request_head parts) ≡ length text =
    ap length (sym (append-nil (request_head parts)) ∙ ap (λ l. request_head parts ++ l) (sym none) ∙ sym is) in
    let bounds : AreShort parts =
    record { head_is = omega (arith, head, short); body_is = omega (arith, ap length none) } in
    subst (λ (t : List ℕ). IsRequestText t parts sequence) (sym is) (record {
      found = λ later. request_found parts sequence later request bounds;
      read = request_of parts sequence request;
      values = values_of parts request.front;
    })

-- SETUP
setup-request : (wish : Wish) → IsFilm wish → AreRequest (setup_parts wish) 1
unfolding value_named
setup-request wish film =
    let startup : Field = record { name = codes "x-Startup"; value = decimal wish.startup } in
    let buffer : Field = record { name = codes "x-Buffer"; value = decimal wish.buffer } in
    let transport : Field = record { name = codes "Transport"; value = codes "RTP/AVP/TCP;unicast;interleaved=0-1" } in
    record {
      front = record {
        method_is = word_of (codes "SETUP") refl;
        url_is = video-is-url wish film;
        fields_are =
            field-more (codes "CSeq") (codes "1") (transport ∷ buffer ∷ startup ∷ []) refl refl
            (field-more transport.name transport.value (buffer ∷ startup ∷ []) refl refl
            (field-more buffer.name buffer.value (startup ∷ []) refl
            (digits wish.buffer (omega (arith, film.is_wish.most_buffer)))
            (field-more startup.name startup.value [] refl (digits wish.startup (omega (arith, film.is_wish.startup)))
            (All-nil IsHeaderField))));
      };
      sequence_is = refl;
      length_is = refl;
    }

pub setup-asked : (wish : Wish) → IsWish wish → wish.port < 2 ^ 16 → IsRequestText (setup_text wish) (setup_parts wish)
    1
setup-asked wish is port =
    let film : IsFilm wish = record { is_wish = is; port = port } in
    asked (setup_parts wish) 1 (setup-request wish film) (
      refl,
      omega (
        arith,
        put-long (codes "SETUP ") (setup_rest wish),
        film-short wish film,
        decimal-short wish.buffer (omega (arith, is.most_buffer)),
        decimal-short wish.startup (omega (arith, is.startup)),
      ),
    ) (setup-is wish)

-- the parts of a request for a film
film-front : {method : List ℕ} {fields : List Field} (wish : Wish) → IsFilm wish → IsWord method →
    All IsHeaderField fields → AreFront (request_pieces method (film_url wish) fields)
film-front wish film word fields = record { method_is = word; url_is = film-is-url wish film; fields_are = fields }

-- PLAY
play-request : (wish : Wish) (session : List ℕ) → IsFilm wish → IsSessionId session
    → AreRequest (play_parts wish session) 2
unfolding value_named
play-request wish session film id =
    let range : Field = record { name = codes "Range"; value = codes "npt=0-" } in
    record {
      front = film-front wish film (word_of (codes "PLAY") refl)
          (field-more (codes "CSeq") (codes "2")
          (record { name = codes "Session"; value = session } ∷ range ∷ []) refl refl
          (session-more session (range ∷ []) id
          (field-more range.name range.value [] refl refl (All-nil IsHeaderField))));
      sequence_is = refl;
      length_is = refl;
    }

pub play-asked : (wish : Wish) (session : List ℕ) → IsWish wish → wish.port < 2 ^ 16 → IsSessionId session
    → IsRequestText (play_text wish session) (play_parts wish session) 2
play-asked wish session is port id =
    let film : IsFilm wish = record { is_wish = is; port = port } in
    asked (play_parts wish session) 2 (play-request wish session film id)
    (refl, omega (arith, put-long (codes "PLAY ") (play_rest wish session), film-short wish film, id.short))
    (play-is wish session)

-- TEARDOWN
teardown-request : (wish : Wish) (session : List ℕ) → IsFilm wish → IsSessionId session
    → AreRequest (teardown_parts wish session) 3
unfolding value_named
teardown-request wish session film id = record {
  front = film-front wish film (word_of (codes "TEARDOWN") refl)
      (field-more (codes "CSeq") (codes "3") (record { name = codes "Session"; value = session } ∷ []) refl refl
      (session-more session [] id (All-nil IsHeaderField)));
  sequence_is = refl;
  length_is = refl;
}

pub teardown-asked : (wish : Wish) (session : List ℕ) → IsWish wish → wish.port < 2 ^ 16 → IsSessionId session
    → IsRequestText (teardown_text wish session) (teardown_parts wish session) 3
teardown-asked wish session is port id =
    let film : IsFilm wish = record { is_wish = is; port = port } in
    asked (teardown_parts wish session) 3 (teardown-request wish session film id)
    (refl, omega (arith, put-long (codes "TEARDOWN ") (teardown_rest wish session), film-short wish film, id.short))
    (teardown-is wish session)
