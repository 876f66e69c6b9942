-- What the requests of a client that wishes for a film settle: its channels, its buffer, its delay and its film, and
-- the entire run.
use Rattle.std.proofs.lemmas.Grind.{common_steps}
use Rattle.std.proofs.Common.{◌≡◌, ◌≢◌, ℕ, ◌+◌, ◌-◌, ◌<◌, ◌^◌, true, List, [], ◌∷◌, ◌++◌, Some, length, drop, get_or}
use Rattle.std.proofs.Common.{codes, decimal, string_bytes, slice_range, refl, sym, ap, ◌∙◌, arith, inl, inr}
use Rattle.std.proofs.Common.{append_assoc}
use Rattle.std.proofs.lemmas.Fmt.{decimal_digit, decimal_nonempty, digits_decimal}
use Rattle.std.proofs.lemmas.List.{drop_at, get_or_append_left, get_or-append_right, length-append, take_all}
use Rattle.std.proofs.lemmas.Option.{same_Some}
use Rattle.connection_laws.proofs.Terms.{Stored, play_parts, setup_parts, film_url, setup_text, IsWish, Wish, IsRead}
use Rattle.connection_laws.proofs.Terms.{header_value, request_head, Settings, Setup, IsFilmAt, Names, SessionState}
use Rattle.vod_base.specs.Numbers.{is_decimal}
use Rattle.vod_base.proofs.DigitLemmas.{decimal_numerals}
use Rattle.vod_base.proofs.TextLemmas.{decimal_read}
use Rattle.rtsp_client.specs.RequestParts.{IsSessionId}
use Rattle.rtsp_client.proofs.RequestGrammar.{play-asked, setup-asked}
use Rattle.rtsp_fields.specs.declared.transports.Channels.{Channels}
use Rattle.rtsp_fields.specs.SeparatedParts.{IsPartEnd}
use Rattle.rtsp_fields.specs.Transports.{IsTransport}
use Rattle.rtsp_fields.specs.Urls.{IsTail}
use Rattle.rtsp_fields.proofs.FieldUniqueness.{name_once, no_other_byte, transport_once}
use Rattle.rtsp_fields.proofs.FilmPaths.{film_path}
use Rattle.rtsp_fields.proofs.PartPlaces.{end_once}
use Rattle.rtsp_fields.proofs.TransportTexts.{transport_read}
use Rattle.rtsp_text.specs.Replies.{value_named}
use Rattle.vod_base.specs.Limits.{WritesNumber}
use Rattle.film_streams.specs.Setups.{AsksForSetup}
use Rattle.session_laws.proofs.SetupLemmas.{IsSetupRequest}

-- ---- the film that a URL names

abbrev authority_of : ℕ → List ℕ
authority_of port = codes "127.0.0.1:" ++ decimal port

are_digits : (n : ℕ) → n < 2 ^ 64 → is_decimal (decimal n) ≡ true
are_digits n small = grind (arith, decimal_nonempty, digits_decimal, decimal_numerals)

authority_byte : (port k : ℕ) → port < 2 ^ 64 → k < length (authority_of port) → get_or (authority_of port) k 0 ≢ 47
authority_byte port k small inside = grind (arith, no_other_byte, are_digits port small)

authority_end : (port : ℕ) (rest : List ℕ) → port < 2 ^ 64
    → IsPartEnd 47 (codes "rtsp://" ++ (authority_of port ++ (47 ∷ rest))) 7 (7 + length (authority_of port))
authority_end port rest small =
    record {
      after = omega arith;
      within = grind (arith, common_steps);
      none = λ k from below slash.
          authority_byte port (k - 7) small (omega (arith, from, below))
          (sym (get_or-append_right (codes "rtsp://") (authority_of port ++ (47 ∷ rest)) 7 k 0 refl from
          ∙ get_or_append_left (authority_of port) (47 ∷ rest) 0 (k - 7) (omega (arith, from, below))) ∙ slash);
      ends = grind (arith, get_or-append_right);
    }

url_parts : (wish : Wish) (tail : List ℕ)
    → film_url wish ++ tail ≡ codes "rtsp://" ++ (authority_of wish.port ++ (47 ∷ (string_bytes wish.name ++ tail)))
url_parts wish tail = grind (arith, common_steps)

-- what a course begins with, and what it is asked for
pub record Beginning : Type 0 where
  pub wish : Wish
  pub start : SessionState
  pub session : List ℕ
  pub wished : IsWish wish
  pub port : wish.port < 2 ^ 16
  pub session_is : IsSessionId session
  pub slot_units : start.settings.slot_units ≡ wish.slot_units

url_name : {authority name : List ℕ} (b : Beginning) (tail : List ℕ) → IsTail tail
    → IsRead (film_url b.wish ++ tail) authority (Some name) → name ≡ string_bytes b.wish.name
url_name {authority} {name} b tail is_tail url_read =
    let small : wish.port < 2 ^ 64 = omega (arith, port) in
    let rest = string_bytes wish.name ++ tail in
    let front = codes "rtsp://" ++ authority_of wish.port in
    let url = codes "rtsp://" ++ (authority_of wish.port ++ (47 ∷ rest)) in
    let its = rw (url_parts wish tail) at url_read in
    let n = 7 + length (authority_of wish.port) in
    let at : its.path ≡ n = end_once its.is_url.end (authority_end wish.port rest small) in
    let size : length url ≡ n + length (47 ∷ rest) = grind (arith, common_steps) in
    let after : drop n url ≡ 47 ∷ rest = rw (← (append_assoc (codes "rtsp://") (authority_of wish.port) (47 ∷ rest)))
    (rw (drop_at front (47 ∷ rest) n (omega (arith, length-append (codes "rtsp://") (authority_of wish.port))))) in
    let path : slice_range url n (length url) ≡ 47 ∷ rest =
    cc (after, take_all (length url - n) (47 ∷ rest) (omega (arith, size))) in
    name_once (47 ∷ rest) name (string_bytes wish.name) (rw (at, path) at its.name_is)
    (film_path (string_bytes wish.name) tail wished.name is_tail)
  where
    open b use {wish, wished, port}

-- ---- SETUP

pub record IsSettled (wish : Wish) (films : List Stored) (setup : Setup) : Type 0 where
  pub media : setup.media ≡ 0
  pub control : setup.control ≡ 1
  pub buffer : setup.buffer ≡ wish.buffer
  pub delay : setup.delay ≡ wish.startup
  pub film : (film : Stored) → IsFilmAt films setup.film film → string_bytes film.name ≡ string_bytes wish.name

two_channels : (channels : Channels) → IsTransport (codes "RTP/AVP/TCP;unicast;interleaved=0-1") channels
    → channels ≡ record { media = 0; control = 1 }
two_channels channels is =
    let read = transport_read 0 1 (omega arith) (omega arith) (λ same. omega (arith, same)) in
    transport_once (codes "RTP/AVP/TCP;unicast;interleaved=0-1") channels (record { media = 0; control = 1 }) is
    (rw (decimal_digit 0 (omega arith), decimal_digit 1 (omega arith)) at read)

-- a number in its range that is written is read
chosen_is : {least most number : ℕ} (written : ℕ) → WritesNumber least most (decimal written) number
    → written < 2 ^ 64 → number ≡ written
chosen_is {number = number} written is small = same_Some number written (sym is.is_number ∙ decimal_read written small)

pub setup_is : (b : Beginning)
    → IsSetupRequest (setup_text b.wish) (film_url b.wish ++ codes "/video") (request_head (setup_parts b.wish))
setup_is b = record { sequence = 1; body = []; read = (setup-asked b.wish b.wished b.port).read }

pub settled_by : {films : List Stored} {settings : Settings} {setup : Setup} {authority : List ℕ} (b : Beginning)
    → AsksForSetup settings (request_head (setup_parts b.wish)) setup.film setup
    → Names films (film_url b.wish ++ codes "/video") authority setup.film → IsSettled b.wish films setup
unfolding value_named
settled_by {films} {settings} {setup} b asks names =
    let values = (setup-asked wish wished port).values in
    let channels = two_channels (record { media = setup.media; control = setup.control })
    (rw (values (codes "Transport")) at asks.channels) in
    record {
      media = ap (λ (c : Channels). c.media) channels;
      control = ap (λ (c : Channels). c.control) channels;
      buffer = chosen_is wish.buffer
          (rw (values (codes "x-Buffer")) at asks.buffer) (omega (arith, wished.most_buffer));
      delay = chosen_is wish.startup
          (rw (values (codes "x-Startup")) at asks.delay) (omega (arith, wished.startup));
      film = grind (arith, url_name b (codes "/video") (inr (inr (inl refl))) names.read);
    }
  where
    open b use {wish, wished, port}

-- ---- PLAY

pub range_is : (b : Beginning)
    → header_value (request_head (play_parts b.wish b.session)) (codes "Range") ≡ Some (codes "npt=0-")
unfolding value_named
range_is b = (play-asked b.wish b.session b.wished b.port b.session_is).values (codes "Range")
