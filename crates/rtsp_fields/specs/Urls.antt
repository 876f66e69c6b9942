-- RTSP URLs (RFC 2326 section 3.2), and the film that a URL's path names.
use Rattle.std.specs.Prelude.{◌≡◌, ℕ, ◌⊎◌, List, [], codes, true, length, slice_index}
use Rattle.std.specs.Prelude.{slice_range, Option, MatchOption}
use Rattle.std.specs.List.{list_all}
use Rattle.vod_base.specs.Names.{good_name}
use Rattle.rtsp_text.specs.Grammar.{is_url_byte, IsRtspUrl}
use Rattle.rtsp_fields.specs.SeparatedParts.{IsPartEnd}

-- an RTSP URL of printable bytes other than the space, whose authority ends at `path`
pub record IsAbsoluteUrl (url : List ℕ) (path : ℕ) : Type 0 where
  pub bytes : list_all is_url_byte url ≡ true
  pub is_rtsp : IsRtspUrl url
  pub end : IsPartEnd 47 url (length (codes "rtsp://")) path

-- the name of a film's one stream, with `/` after it or not
abbrev pub IsStream : List ℕ → Type 0
IsStream tail = (tail ≡ codes "/video") ⊎ (tail ≡ codes "/video/")

-- what may stand after the name of a film: nothing, `/`, or the name of its stream
abbrev pub IsTail : List ℕ → Type 0
IsTail tail = (tail ≡ []) ⊎ ((tail ≡ codes "/") ⊎ IsStream tail)

-- a path names a film: `/`, a good name up to the next `/` or the end, and such a tail
pub record NamesFilm (path name : List ℕ) : Type 0 where
  pub slash : slice_index path 0 ≡ 47
  pub end : ℕ
  pub is_end : IsPartEnd 47 path 1 end
  pub name_is : name ≡ slice_range path 1 end
  pub good : good_name name ≡ true
  pub tail : IsTail (slice_range path end (length path))

-- what a URL says: its authority, and the film that its path names, if any
pub record IsRead (url authority : List ℕ) (name : Option (List ℕ)) : Type 0 where
  pub path : ℕ
  pub is_url : IsAbsoluteUrl url path
  pub authority_is : authority ≡ slice_range url (length (codes "rtsp://")) path
  pub name_is : MatchOption name ((any : List ℕ) →
      ¬ NamesFilm (slice_range url path (length url)) any)
      (NamesFilm (slice_range url path (length url)))
