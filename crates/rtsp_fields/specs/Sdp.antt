-- The description of a film (RFC 4566, RFC 2326 appendix C).
use Rattle.std.specs.Prelude.{ℕ, ◌/◌, ◌%◌, List, ◌++◌, codes, decimal}

-- milliseconds as seconds, a point and three digits
abbrev pub seconds_text : ℕ → List ℕ
seconds_text ms = decimal (ms / 1000) ++ codes "." ++ decimal (ms / 100 % 10)
    ++ decimal (ms / 10 % 10) ++ decimal (ms % 10)

-- the entire text, each line ended by CR LF
abbrev pub description_text : List ℕ → ℕ → List ℕ
description_text name end_ms =
    codes "v=0\r\no=- 0 0 IN IP4 127.0.0.1\r\ns=" ++ name
    ++ codes "\r\nc=IN IP4 0.0.0.0\r\nt=0 0\r\na=control:*\r\na=range:npt=0-" ++ seconds_text end_ms
    ++ codes "\r\nm=video 0 RTP/AVP 32\r\na=control:video\r\n"
