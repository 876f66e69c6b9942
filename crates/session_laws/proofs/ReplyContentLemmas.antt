-- What replies tell is read in their fields.
use Rattle.std.proofs.lemmas.Grind.{common_steps}
use Rattle.std.proofs.Common.{◌≡◌, ◌≢◌, ℕ, ◌+◌, ◌-◌, ◌*◌, ◌/◌, ◌^◌, ◌<◌, ◌≤◌, true, List, [], ◌∷◌, ◌++◌, length, drop}
use Rattle.std.proofs.Common.{get_or, codes, decimal, string_bytes, Option, Some, Ok, refl, sym, ap, subst, ◌∙◌, inl}
use Rattle.std.proofs.Common.{inr, arith}
use Rattle.std.proofs.Math.Nat.{div-mul-le_self}
use Rattle.std.specs.List.{list_all}
use Rattle.std.proofs.lemmas.Bool.{and_parts}
use Rattle.std.proofs.lemmas.List.{append-nil, append_assoc, drop_at, get_or-append_right, get_or-drop, get_or-take}
use Rattle.std.proofs.lemmas.List.{get_or_append_left, length-append, length-drop, length-take, take_all, take_at}
use Rattle.rtsp_fields.specs.Sdp.{description_text, seconds_text}
use Rattle.rtsp_fields.specs.Urls.{IsRead, IsTail, NamesFilm}
use Rattle.rtsp_fields.proofs.RequestUrls.{absolute_cut, absolute_url}
use Rattle.rtsp_fields.proofs.DescriptionLines.{description_is}
use Rattle.rtsp_fields.proofs.FilmPaths.{film_path}
use Rattle.rtsp_fields.proofs.RangeTexts.{between_read}
use Rattle.rtsp_text.specs.Grammar.{is_url_byte}
use Rattle.rtsp_text.specs.Replies.{field_line, value_named}
use Rattle.rtsp_text.proofs.LineBounds.{all-append, all-take}
use Rattle.rtsp_text.proofs.ReplyTexts.{front_field, whole_reply}
use Rattle.rtsp_text.proofs.UrlBytes.{name_in_url}
use Rattle.film_streams.specs.Films.{begins_at, milliseconds_at}
use Rattle.film_streams.specs.StreamNumbers.{timestamp_at}
use Rattle.session.specs.Methods.{first_number}
use Rattle.rtsp_replies.specs.Replies.{joined_parts}
use Rattle.session.proofs.SharedTerms.{Counts, Describes, Field, field, Film, frames_before, good_name, identity_of}
use Rattle.session.proofs.SharedTerms.{IsSetUp, length_ms, picture_time, play_front, reply_front, reply_text}
use Rattle.session.proofs.SharedTerms.{sending_of, SessionState, Setup, started_text, Stored}
use Rattle.session.specs.declared.commands.Ask.{Ask}
use Rattle.session.specs.declared.plans.Planned.{Planned}
use Rattle.session_laws.specs.ReplyContents.{AreTicks, IsDescribeReply, IsPlayReply, IsSetupReply, IsShort, IsPrintable}
use Rattle.session_laws.specs.ReplyContents.{HasRtpInfo, HasRangeOf}

ticks_360 : (units : ℕ) → AreTicks (units / 360) 360 units
ticks_360 units = record { passed = div-mul-le_self units 360; no_more = omega arith }

-- a range from one time to another
pub span_told : (film : Film) (first end : ℕ) → milliseconds_at film first < 10 ^ 12
    → milliseconds_at film end < 10 ^ 12
    → HasRangeOf film first end
    (joined_parts (codes "npt=" ∷ seconds_text (milliseconds_at film first) ∷ codes "-" ∷ seconds_text
    (milliseconds_at film end) ∷ []))
span_told film first end small short =
    let e = seconds_text (milliseconds_at film end) in
    record {
      from = milliseconds_at film first;
      to = milliseconds_at film end;
      from_is = ticks_360 (first * picture_time film.rate);
      to_is = ticks_360 (end * picture_time film.rate);
      read = rw (append-nil e) (between_read (milliseconds_at film first) (milliseconds_at film end) small short);
    }

-- what is known of an authority
pub record IsAuthority (authority : List ℕ) : Type 0 where
  some : 0 < length authority
  pub prints : list_all is_url_byte authority ≡ true
  no_slash : (k : ℕ) → k < length authority → get_or authority k 0 ≢ 47

pub authority_of : (url authority : List ℕ) (name : Option (List ℕ)) → IsRead url authority name → IsAuthority authority
authority_of url authority name is =
    let end = is.is_url.end in
    let cut = length-take (is.path - 7) (drop 7 url) in
    let long : length authority ≡ is.path - 7 =
    omega (arith, ap length is.authority_is, cut, length-drop 7 url, end.within, end.after) in
    record {
      some = let more = (absolute_cut is.is_url).authority in omega (arith, long, more);
      prints = search (arith, all-take);
      no_slash = λ k inside slash.
          let below : k < is.path - 7 = omega (arith, inside, long) in
          end.none (7 + k) (omega arith) (omega (arith, below))
          (sym (get_or-drop 7 url k 0) ∙ sym (get_or-take (is.path - 7) (drop 7 url) k 0 below)
          ∙ sym (ap (λ l. get_or l k 0) is.authority_is) ∙ slash);
    }

film_url : (authority name tail : List ℕ) → IsAuthority authority → good_name name ≡ true → IsTail tail
    → IsRead (codes "rtsp://" ++ (authority ++ (47 ∷ name ++ tail))) authority (Some name)
film_url authority name tail is good is_tail =
    let path = 47 ∷ name ++ tail in
    let size : length (codes "rtsp://" ++ (authority ++ path)) ≡ 7 + (length authority + length path) =
    omega (arith, length-append (codes "rtsp://") (authority ++ path), length-append authority path) in
    record {
      path = 7 + length authority;
      is_url = absolute_url (all-append is_url_byte (codes "rtsp://") (authority ++ path) refl
          (all-append is_url_byte authority path is.prints (grind (arith, and_parts, all-append, name_in_url))))
          (search (arith, get_or_append_left, get_or-append_right));
      authority_is = sym (take_at authority path (7 + length authority - 7) (omega arith));
      name_is = subst (λ (p : List ℕ). NamesFilm p name) (sym (search (arith, length-append, drop_at, take_all)))
          (film_path name tail good is_tail);
    }

-- a play's reply
few_ms : (unit time : ℕ) → unit ≤ 4194304 → time ≤ 360000 → unit * time / 360 < 10 ^ 12
few_ms unit time few brief = grind arith

-- the value of RTP-Info in its parts, and as it is joined
info_value : (a n q t : List ℕ)
    → joined_parts (codes "url=rtsp://" ∷ a ∷ codes "/" ∷ n ∷ codes "/video;seq=" ∷ q ∷ codes ";rtptime=" ∷ t ∷ [])
    ≡ codes "url=" ++ (codes "rtsp://" ++
    (a ++ (47 ∷ n ++ codes "/video"))) ++ codes ";seq=" ++ q ++ codes ";rtptime=" ++ t
info_value a n q t =
    let x = codes ";rtptime=" ++ t in
    let y = codes ";seq=" ++ (q ++ x) in
    let u = codes "url=" ++ (codes "rtsp://" ++ (a ++ (47 ∷ n ++ codes "/video"))) in
    rw (
      append-nil t,
      append_assoc (u ++ codes ";seq=" ++ q) (codes ";rtptime=") t,
      append_assoc (u ++ codes ";seq=") q x,
      append_assoc u (codes ";seq=") (q ++ x),
      append_assoc a (47 ∷ n ++ codes "/video") y,
      append_assoc n (codes "/video") y,
    )

info_told : {stored : Stored} {authority : List ℕ} (old : SessionState) (setup : Setup) (planned : Planned)
    → IsAuthority authority → good_name (string_bytes stored.name) ≡ true
    → HasRtpInfo stored old.source authority
    (planned.counts.frames + frames_before (sending_of stored.film old.source setup planned.counts planned.run)
    planned.run.sent) planned.run.from_unit
    (joined_parts (codes "url=rtsp://" ∷ authority ∷ codes "/" ∷ string_bytes stored.name ∷ codes "/video;seq=" ∷
    decimal (first_number old stored setup planned) ∷ codes ";rtptime=" ∷ decimal
    (timestamp_at stored.film old.source planned.run.from_unit) ∷ []))
info_told {stored} {authority} old setup planned is good =
    let name = string_bytes stored.name in
    let number = first_number old stored setup planned in
    let time = timestamp_at stored.film old.source planned.run.from_unit in
    record {
      url = codes "rtsp://" ++ (authority ++ (47 ∷ name ++ codes "/video"));
      number = number;
      ticks = begins_at stored.film planned.run.from_unit / 4;
      time = time;
      names_film = film_url authority name (codes "/video") is good (inr (inr (inl refl)));
      number_is = grind arith;
      ticks_are = record { passed = div-mul-le_self _ 4; no_more = omega arith };
      time_is = refl;
      value_is = info_value authority name (decimal number) (decimal time);
    }

pub play_told : (old : SessionState) (stored : Stored) (setup : Setup) (planned : Planned) (sequence : ℕ)
    {authority : List ℕ} → IsPrintable old stored setup planned authority
    → IsPlayReply old stored setup planned sequence authority (play_front old stored setup planned sequence authority)
unfolding value_named
play_told old stored setup planned sequence {authority} is =
    let run_is = is.planned_is.goes_on.run_is in
    let can = is.planned_is.can_play in
    let brief = can.playback_is.picture_units_fit in
    let few = can.sizes_are.few in
    record {
      fields = _;
      text_is = refl;
      told = record {
        session = refl;
        range = _;
        range_is = refl;
        span = span_told stored.film planned.run.from_unit planned.run.end_unit
            (few_ms planned.run.from_unit _ (omega (arith, run_is.rest, run_is.within, few)) brief)
            (few_ms planned.run.end_unit _ (omega (arith, run_is.within, few)) brief);
        info = _;
        info_is = refl;
        told = info_told old setup planned (authority_of is.url authority is.name is.read) is.good;
      };
    }

-- the reply of a DESCRIBE
pub film_told : {old new : SessionState} {sequence number : ℕ} {url authority : List ℕ} {asked : Option (List ℕ)}
    {ask : Ask} → (is : Describes old sequence number authority ask new) → IsRead url authority asked
    → good_name (string_bytes is.stored.name) ≡ true → IsShort is.stored.film
    → IsDescribeReply sequence authority (string_bytes is.stored.name) is.stored.film new.text
unfolding value_named
film_told {sequence} {url} {authority} {asked} is read good short =
    let film = is.stored.film in
    let name = string_bytes is.stored.name in
    record {
      fields = _;
      body = description_text name (length_ms film);
      end = length_ms film;
      base = joined_parts (codes "rtsp://" ∷ authority ∷ codes "/" ∷ name ∷ codes "/" ∷ []);
      text_is = ap (λ (s : SessionState). s.text) is.reply.1;
      base_is = refl;
      names_film = film_url authority name (codes "/") (authority_of url authority asked read) good (inr (inl refl));
      kind = refl;
      size = refl;
      end_is = ticks_360 (length film.units.items * picture_time film.rate);
      described = description_is name (length_ms film) good
          (few_ms (length film.units.items) _ short.few short.brief);
    }

-- the reply of an admitted play
pub started_is : {front : List ℕ} (n : ℕ) (fields : List Field) (slots : ℕ) → front ≡ reply_front 200 (Some n) fields
    → started_text front slots ≡ reply_text 200 (Some n) (fields ++ field (codes "x-Start") (decimal slots) ∷ []) []
started_is {front} n fields slots is =
    let own = field (codes "x-Start") (decimal slots) in
    let more : front ++ field_line own ≡ reply_front 200 (Some n) (fields ++ own ∷ []) =
    front_field {old = front} 200 (Some n) fields own refl is in
    whole_reply {old = front ++ field_line own} 200 (Some n) (fields ++ own ∷ []) [] refl more

-- the reply of a SETUP
pub setup_told : {ask : Ask} (old new : SessionState) (sequence : ℕ) (setup : Setup) (counts : Counts)
    → IsSetUp old sequence (Ok setup) ask new
    → IsSetupReply sequence (identity_of old.source setup counts) old.id new.text
unfolding value_named
setup_told old new sequence setup counts is = grind (arith, common_steps)
