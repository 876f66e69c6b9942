-- The reply to the PLAY that begins a client's film, as the client reads it.
use Rattle.std.proofs.Common.{◌≡◌, ℕ, ◌+◌, ◌-◌, ◌^◌, ◌<◌, ◌≤◌, true, List, [], ◌∷◌, ◌++◌, codes, decimal, string_bytes}
use Rattle.std.proofs.Common.{Some, refl, ap, subst, ◌∙◌, arith}
use Rattle.std.specs.List.{list_all}
use Rattle.std.proofs.Math.Nat.{div-mul-le_self, mul-le-mul}
use Rattle.connection_laws.proofs.Terms.{picture_time, Film, film_url, play_text, is_url_byte, field_line, IsFilmAt}
use Rattle.connection_laws.proofs.Terms.{length_ms, field, play_fields, SessionState, has_session_in, HasValidIds}
use Rattle.connection_laws.proofs.Terms.{IsMessage, HasHeard, IsAskAnswered, Outcome, Entered, Run, request_head}
use Rattle.connection_laws.proofs.Terms.{play_parts, setup_in, whole_run, Field, after_admission}
use Rattle.film_frames.proofs.FilmPieceLemmas.{film-few}
use Rattle.rtsp_text.proofs.UrlBytes.{name_in_url}
use Rattle.vod_base.specs.Names.{good_name}
use Rattle.rtsp_text.proofs.LineBounds.{all-drop, all-take}
use Rattle.rtsp_text.proofs.ReplyTexts.{front_field, whole_reply}
use Rattle.connection_laws.proofs.CompleteReplies.{admitted_from, id_printed}
use Rattle.connection_laws.proofs.KeptParts.{IsSameSetup}
use Rattle.connection_laws.proofs.ReplyReadings.{IsPlayAnswer, play_answer}
use Rattle.connection_laws.proofs.RequestEffects.{Begins}
use Rattle.connection_laws.proofs.RequestReplies.{IsNamed, heard_call, named_still}
use Rattle.connection_laws.proofs.SetupOnly.{Ground, IsUnbegun, IsWaiting}
use Rattle.session.proofs.InitialStateLemmas.{heard_by, HeardMessage}
use Rattle.conn.proofs.StationAnswers.{answers_as}
use Rattle.connection_laws.proofs.ClientSetups.{Beginning, range_is}
use Rattle.connection_laws.proofs.FirstPlays.{WishedFilm, planned_whole}
use Rattle.rtsp_text.specs.Replies.{reply_front, value_named}
use Rattle.rtsp_client.proofs.RequestGrammar.{play-asked}
use Rattle.film_streams.specs.Films.{milliseconds_at}
use Rattle.film_streams.specs.StreamNumbers.{timestamp_at}
use Rattle.session.specs.Methods.{first_number}
use Rattle.session_laws.proofs.ClientReplyLemmas.{play_answered}
use Rattle.session_laws.proofs.SetupLemmas.{HeardCall}
use Rattle.session_laws.proofs.PlayInReadyLemmas.{PlayStarted}

-- ---- numbers in their ranges

end_fits : (film : Film) → length_ms film < 2 ^ 64
end_fits film = grind (arith, picture_time, mul-le-mul, film-few, div-mul-le_self)

name_prints : (name : List ℕ) → good_name name ≡ true → list_all is_url_byte name ≡ true
name_prints name good = grind (arith, name_in_url)

-- ---- the reply

-- the reply to a PLAY of a film of the wished name
pub record IsFilmAnswer (b : Beginning) (message : List ℕ) : Type 0 where
  pub film : WishedFilm b
  pub answer : IsPlayAnswer (length_ms film.stored.film) message

-- what comes of a client's PLAY that begins a play in a slot: its reply, and the session
pub record IsPlayBegun (b : Beginning) (start : ℕ) (old new : SessionState) : Type 0 where
  pub ready : has_session_in old.state ≡ true
  pub own : IsNamed b new
  pub answer : start ≤ 2 ^ 62 + 1 → IsFilmAnswer b new.text

play_same : {h : HeardMessage} {new : SessionState} (place start : ℕ) → PlayStarted h
    → new ≡ after_admission h.new place start → IsSameSetup h.old new
play_same place start started new_is = grind arith

pub play_begun : {b : Beginning} {old new : SessionState} {message : List ℕ} {outcome : Outcome} → IsWaiting b old
    → HasValidIds old → (heard : HasHeard old message outcome new) → message ≡ play_text b.wish b.session
    → (begins : Begins old heard.asking.awaited outcome new) → IsMessage new.text
    → IsPlayBegun b begins.admitted.start old new
unfolding value_named
play_begun {b} {old} {new} {outcome = outcome} waits valid heard is begins whole =
    let asking = heard.asking in
    let start = begins.admitted.start in
    let admitted = admitted_from begins.admitted.answer (answers_as heard.ask (Entered begins.placed)
    (subst (λ o. IsAskAnswered asking heard.ask o new) begins.outcome_is heard.answered)) in
    let asked = play-asked b.wish b.session b.wished b.port b.session_is in
    let call : HeardCall (codes "PLAY") = heard_call (heard_by heard.hears) (film_url b.wish) 2
    (request_head (play_parts b.wish b.session)) (rw is asked.read) in
    let told = play_answered call (record { rest = waits.stands.rest; asks = begins.asked_is }) in
    let same : IsSameSetup old new = play_same begins.placed.place start told.started admitted.new_is in
    let starts = told.started.play in
    let stored = told.started.asks.stored in
    let planned = told.started.planned in
    let end = length_ms stored.film in
    let name = string_bytes stored.name in
    let slots = start - asking.heard in
    let authority = starts.asked.authority.now in
    let begun = subst (IsUnbegun b.wish b.start.films) starts.ready waits.still.unbegun in
    let at =
    subst (λ (g : Ground). IsFilmAt g.films starts.setup.film stored) waits.still.ground told.started.asks.at in
    let named : name ≡ string_bytes b.wish.name = begun.1.film stored at in
    let run : planned.run ≡ whole_run stored = planned_whole (rw (begun.0, range_is b) at told.planned_is) in
    let number = first_number old stored starts.setup planned in
    let time = timestamp_at stored.film old.source planned.run.from_unit in
    let fields : ℕ → ℕ → List Field = λ from to. play_fields old.id from to authority name number time in
    let zero : milliseconds_at stored.film 0 ≡ 0 = grind arith in
    let F : ℕ → ℕ → List ℕ = λ from to. reply_front 200 (Some 2) (fields from to) in
    let text : asking.text ≡ F 0 end = told.text
    ∙ (ap (λ (r : Run). F (milliseconds_at stored.film r.from_unit) (milliseconds_at stored.film r.end_unit)) run
    ∙ ap (λ n. F n end) zero) in
    let own = field (codes "x-Start") (decimal slots) in
    let front = front_field {old = asking.text} 200 (Some 2) (fields 0 end) own refl text in
    let reply =
    whole_reply {old = asking.text ++ field_line own} 200 (Some 2) (fields 0 end ++ own ∷ []) [] refl front in
    let session = rw (asked.values (codes "Session")) at told.session in
    record {
      ready = ap has_session_in starts.ready;
      own = named_still same (record {
        setup = starts.setup;
        setup_is = ap setup_in starts.ready;
        own = session.1;
        authority = authority;
        names = told.names;
      });
      answer = λ few. record {
        film = record { number = starts.setup.film; stored = stored; at = at; name_is = named };
        answer = play_answer (record {
          id = old.id;
          end_ms = end;
          authority = authority;
          name = name;
          number = number;
          time = time;
          slots = slots;
          id_prints = id_printed valid;
          end_fits = end_fits stored.film;
          authority_prints =
              grind (arith, all-take, all-drop is_url_byte 7 (film_url b.wish) told.names.read.is_url.bytes);
          name_prints = rw named (name_prints (string_bytes b.wish.name) b.wished.name);
          number_fits = omega arith;
          time_fits = omega arith;
          some = omega (arith, admitted.later);
          few = omega (arith, few);
        }) whole (ap (λ (s : SessionState). s.text) admitted.new_is ∙ reply);
      };
    }
