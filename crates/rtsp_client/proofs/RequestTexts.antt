-- The texts of a client's requests are those of their parts.
use Rattle.std.proofs.Common.{◌≡◌, ℕ, ap, List, [], ◌∷◌, ◌++◌, codes, decimal, flat_map, refl, sym, ◌∙◌}
use Rattle.std.proofs.lemmas.List.{append_assoc, append-nil}
use Rattle.rtsp_text.specs.Replies.{Field, field_line}
use Rattle.rtsp_text.specs.RequestTexts.{request_front, request_text}
use Rattle.rtsp_client.specs.Requests.{film_url, setup_text, play_text, teardown_text}
use Rattle.rtsp_client.specs.RequestParts.{setup_parts, play_parts, teardown_parts}
use Rattle.rtsp_client.specs.declared.watch_request.Wish.{Wish}
use Rattle.rtsp_client.proofs.Texts.{put-in-row}

-- fields in a row, and the line's end after them
abbrev spelled : List Field → List ℕ
spelled [] = codes "\r\n"
spelled (field ∷ fields) = field.name ++ (codes ": " ++ (field.value ++ (codes "\r\n" ++ spelled fields)))

fields-spelled : (fields : List Field) → flat_map field_line fields ++ codes "\r\n" ≡ spelled fields
fields-spelled [] = refl
fields-spelled (field ∷ fields) =
    append_assoc (field_line field) (flat_map field_line fields) (codes "\r\n")
    ∙ ap (λ (l : List ℕ). field_line field ++ l) (fields-spelled fields)
    ∙ put-in-row field.name (codes ": " ∷ field.value ∷ codes "\r\n" ∷ spelled fields ∷ [])

-- a request without a body, as one part after another
request-spelled : (method url : List ℕ) (fields : List Field) →
    request_text (record { method = method; url = url; fields = fields; body = [] })
    ≡ method ++ (codes " " ++ (url ++ (codes " RTSP/1.0" ++ (codes "\r\n" ++ spelled fields))))
unfolding request_front
request-spelled method url fields =
    let line : List ℕ = method ++ codes " " ++ url ++ codes " RTSP/1.0" in
    append-nil (line ++ codes "\r\n" ++ flat_map field_line fields ++ codes "\r\n")
    ∙ append_assoc (line ++ codes "\r\n") (flat_map field_line fields) (codes "\r\n")
    ∙ ap (λ (l : List ℕ). line ++ codes "\r\n" ++ l) (fields-spelled fields)
    ∙ put-in-row method (codes " " ∷ url ∷ codes " RTSP/1.0" ∷ codes "\r\n" ∷ spelled fields ∷ [])

-- the parts of each text, after its first one
abbrev pub setup_rest : Wish → List (List ℕ)
setup_rest wish =
    film_url wish ∷ codes "/video RTSP/1.0\r\nCSeq: 1\r\n"
    ∷ codes "Transport: RTP/AVP/TCP;unicast;interleaved=0-1\r\n" ∷ codes "x-Buffer: "
    ∷ decimal wish.buffer ∷ codes "\r\nx-Startup: " ∷ decimal wish.startup ∷ codes "\r\n\r\n" ∷ []

abbrev pub play_rest : Wish → List ℕ → List (List ℕ)
play_rest wish session =
    film_url wish ∷ codes " RTSP/1.0\r\nCSeq: 2\r\nSession: " ∷ session ∷ codes "\r\nRange: npt=0-\r\n\r\n" ∷ []

abbrev pub teardown_rest : Wish → List ℕ → List (List ℕ)
teardown_rest wish session = film_url wish ∷ codes " RTSP/1.0\r\nCSeq: 3\r\nSession: " ∷ session ∷ codes "\r\n\r\n" ∷ []

pub setup-is : (wish : Wish) → setup_text wish ≡ request_text (setup_parts wish)
setup-is wish =
    put-in-row (codes "SETUP ") (setup_rest wish)
    ∙ sym (request-spelled (codes "SETUP") (film_url wish ++ codes "/video") (setup_parts wish).fields
    ∙ ap (λ l. codes "SETUP " ++ l) (append_assoc (film_url wish) (codes "/video") _))

pub play-is : (wish : Wish) (session : List ℕ) → play_text wish session ≡ request_text (play_parts wish session)
play-is wish session =
    put-in-row (codes "PLAY ") (play_rest wish session)
    ∙ sym (request-spelled (codes "PLAY") (film_url wish) (play_parts wish session).fields)

pub teardown-is : (wish : Wish) (session : List ℕ)
    → teardown_text wish session ≡ request_text (teardown_parts wish session)
teardown-is wish session =
    put-in-row (codes "TEARDOWN ") (teardown_rest wish session)
    ∙ sym (request-spelled (codes "TEARDOWN") (film_url wish) (teardown_parts wish session).fields)
