-- What a description says to a player, in the terms of RFC 4566 section 5 and RFC 2326 appendix C;
-- parameters of a transport.
use Rattle.std.specs.Prelude.{◌≡◌, ◌≢◌, ◌==◌, ◌⊎◌, ℕ, true, not, List, [], ◌∷◌, ◌++◌, Some, codes}
use Rattle.std.specs.Prelude.{flat_map, slice_index}
use Rattle.std.specs.List.{list_all}
use Rattle.vod_base.specs.Blanks.{is_blank, without_blanks}
use Rattle.rtsp_text.specs.Lines.{is_one_line}
use Rattle.rtsp_fields.specs.SeparatedParts.{in_lower_case}
use Rattle.rtsp_fields.specs.Ranges.{IsSpan}
use Rattle.rtsp_fields.specs.Urls.{IsStream}
use Rattle.rtsp_fields.specs.declared.ranges.Origin.TheVariants.{At}

-- a line with its end
abbrev pub whole_line : List ℕ → List ℕ
whole_line line = line ++ codes "\r\n"

-- The lines that a description must have, in their order: of the session the version, its origin,
-- its name, the connection, no bounded time, and attributes; of its one medium the kind with the
-- payload type of MPEG video, and an attribute. The session's range is that of the entire film, in
-- nanoseconds, and the medium's control URL, relative to the film's, is that of its stream.
pub record IsDescription (text name : List ℕ) (end : ℕ) : Type 0 where
  pub range : List ℕ
  pub stream : List ℕ
  pub lines : text ≡ flat_map whole_line (
      codes "v=0" ∷ codes "o=- 0 0 IN IP4 127.0.0.1" ∷ (codes "s=" ++ name)
      ∷ codes "c=IN IP4 0.0.0.0" ∷ codes "t=0 0" ∷ codes "a=control:*" ∷ (codes "a=range:" ++ range)
      ∷ codes "m=video 0 RTP/AVP 32" ∷ (codes "a=control:" ++ stream) ∷ [])
  pub name_is : is_one_line name ≡ true
  pub range_is : is_one_line range ≡ true
  pub whole : IsSpan range (record { from = At 0; to = Some end })
  pub stream_is : IsStream (codes "/" ++ stream)

-- a parameter of a transport (RFC 2326 section 12.39) that is neither `multicast` nor `mode` nor
-- `interleaved`: its first letter is no `m` and no `i`, as those of `unicast`, `ttl` and all others
-- are; it has no `;` and no `,`
pub record IsOtherParameter (part : List ℕ) : Type 0 where
  pub no_mode : slice_index (in_lower_case (without_blanks part)) 0 ≢ 109
  pub no_channels : slice_index (in_lower_case (without_blanks part)) 0 ≢ 105
  pub no_semicolon : list_all (λ byte. not (byte == 59)) part ≡ true
  pub no_comma : list_all (λ byte. not (byte == 44)) part ≡ true

-- a text is this word of lower case, with its letters in any case, and blanks around it or not
pub record IsSpelling (word text : List ℕ) : Type 0 where
  pub front : List ℕ
  pub letters : List ℕ
  pub back : List ℕ
  pub text_is : text ≡ front ++ (letters ++ back)
  pub front_is_blank : list_all is_blank front ≡ true
  pub back_is_blank : list_all is_blank back ≡ true
  pub same : in_lower_case letters ≡ word

-- a parameter of a transport that asks for playback (RFC 2326 section 12.39), or for nothing that
-- this server refuses
abbrev pub IsPlayParameter : List ℕ → Type 0
IsPlayParameter part = IsSpelling (codes "mode=\"play\"") part
    ⊎ (IsSpelling (codes "mode=play") part ⊎ IsOtherParameter part)

-- the text has no comma, so it is one alternative
abbrev pub HasNoComma : List ℕ → Type 0
HasNoComma text = list_all (λ byte. not (byte == 44)) text ≡ true

-- the path of a film as it may be written: `/`, its name, and nothing, `/`, or the name of its one
-- stream with `/` after it or not
abbrev pub IsFilmPath : List ℕ → List ℕ → Type 0
IsFilmPath path name =
    (path ≡ codes "/" ++ name) ⊎ ((path ≡ codes "/" ++ name ++ codes "/")
    ⊎ ((path ≡ codes "/" ++ name ++ codes "/video")
    ⊎ (path ≡ codes "/" ++ name ++ codes "/video/")))
