-- The three requests of a client, as texts (RFC 2326 sections 6 and 10). Lines end with CR LF.
use Rattle.std.specs.Prelude.{ℕ, List, ◌++◌, codes, decimal, string_bytes}
use Rattle.rtsp_client.specs.declared.watch_request.Wish.{Wish}

-- the film's URL
abbrev pub film_url : Wish → List ℕ
film_url wish = codes "rtsp://127.0.0.1:"
    ++ (decimal wish.port ++ (codes "/" ++ string_bytes wish.name))

-- SETUP of its video on the channels 0 and 1, with the client's buffer and start delay
abbrev pub setup_text : Wish → List ℕ
setup_text wish =
    (((((((codes "SETUP " ++ film_url wish) ++ codes "/video RTSP/1.0\r\nCSeq: 1\r\n")
    ++ codes "Transport: RTP/AVP/TCP;unicast;interleaved=0-1\r\n") ++ codes "x-Buffer: ")
    ++ decimal wish.buffer)
    ++ codes "\r\nx-Startup: ") ++ decimal wish.startup) ++ codes "\r\n\r\n"

-- PLAY of the entire film, in a session
abbrev pub play_text : Wish → List ℕ → List ℕ
play_text wish session =
    (((codes "PLAY " ++ film_url wish) ++ codes " RTSP/1.0\r\nCSeq: 2\r\nSession: ") ++ session)
    ++ codes "\r\nRange: npt=0-\r\n\r\n"

-- TEARDOWN of a session
abbrev pub teardown_text : Wish → List ℕ → List ℕ
teardown_text wish session =
    (((codes "TEARDOWN " ++ film_url wish) ++ codes " RTSP/1.0\r\nCSeq: 3\r\nSession: ") ++ session)
    ++ codes "\r\n\r\n"
