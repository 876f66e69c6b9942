-- What a client asks for, as the parts of its requests (RFC 2326 sections 6, 10 and 12).
use Rattle.std.specs.Prelude.{◌≡◌, ℕ, ◌≤◌, ◌++◌, true, List, [], ◌∷◌, length, codes, decimal, Ok}
use Rattle.std.specs.List.{list_all}
use Rattle.vod_base.specs.Blanks.{without_blanks}
use Rattle.interleave.specs.Elements.{IsFirst}
use Rattle.interleave.specs.declared.elements.Step.TheVariants.{Request}
use Rattle.rtsp_text.specs.Fields.{header_value}
use Rattle.rtsp_text.specs.Grammar.{is_value_byte}
use Rattle.rtsp_text.specs.Replies.{Field, value_named}
use Rattle.rtsp_text.specs.Requests.{IsRequest}
use Rattle.rtsp_text.specs.RequestTexts.{RequestPieces, request_head}
use Rattle.rtsp_client.specs.Requests.{film_url}
use Rattle.rtsp_client.specs.declared.watch_request.Wish.{Wish}

-- a request for a film's URL, without a body
abbrev pub request_pieces : List ℕ → List ℕ → List Field → RequestPieces
request_pieces method url fields = record { method = method; url = url; fields = fields; body = [] }

-- SETUP of the film's video (section 10.4), on the channels 0 and 1 of the connection itself, with
-- the client's buffer and start delay
abbrev pub setup_parts : Wish → RequestPieces
setup_parts wish =
    request_pieces (codes "SETUP") (film_url wish ++ codes "/video")
    (record { name = codes "CSeq"; value = codes "1" }
    ∷ record { name = codes "Transport"; value = codes "RTP/AVP/TCP;unicast;interleaved=0-1" }
    ∷ record { name = codes "x-Buffer"; value = decimal wish.buffer }
    ∷ record { name = codes "x-Startup"; value = decimal wish.startup } ∷ [])

-- PLAY of the film from its beginning to its end (section 10.5), in a session
abbrev pub play_parts : Wish → List ℕ → RequestPieces
play_parts wish session =
    request_pieces (codes "PLAY") (film_url wish)
    (record { name = codes "CSeq"; value = codes "2" }
    ∷ record { name = codes "Session"; value = session }
    ∷ record { name = codes "Range"; value = codes "npt=0-" } ∷ [])

-- TEARDOWN of a session (section 10.7)
abbrev pub teardown_parts : Wish → List ℕ → RequestPieces
teardown_parts wish session =
    request_pieces (codes "TEARDOWN") (film_url wish)
    (record { name = codes "CSeq"; value = codes "3" }
    ∷ record { name = codes "Session"; value = session } ∷ [])

-- the id of a session that a header field may have, without blanks around it, of at most 1,024
-- bytes (section 3.4 allows letters, digits and some signs)
pub record IsSessionId (session : List ℕ) : Type 0 where
  pub bytes : list_all is_value_byte session ≡ true
  pub bare : without_blanks session ≡ session
  pub short : length session ≤ 1024

-- a text is a request with these parts and this sequence number: it is found as a complete request,
-- whatever follows it, and read as them, and each name has the value of the first field of that
-- name
pub record IsRequestText (text : List ℕ) (parts : RequestPieces) (sequence : ℕ) : Type 0 where
  pub found : (later : List ℕ) → IsFirst (text ++ later) (Ok (Request (length text)))
  pub read : IsRequest text parts.method parts.url sequence (request_head parts) parts.body
  pub values : (name : List ℕ) →
      header_value (request_head parts) name ≡ value_named name parts.fields
