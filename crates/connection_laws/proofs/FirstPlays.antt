-- The play that a client's PLAY begins after its SETUP: of the entire film, by the plan for the client for whom the
-- session was set up.
use Rattle.std.proofs.Common.{◌≡◌, ℕ, [], List, ap, subst, ◌∙◌, arith, Some, None, codes, string_bytes, sym}
use Rattle.std.proofs.lemmas.List.{length-map}
use Rattle.connection_laws.proofs.Terms.{read_after, Stored, Segment, stored_sizes, Wish, IsWish, Settings, Counts}
use Rattle.connection_laws.proofs.Terms.{Setup, StreamSource, playback_of, whole_run, film_blocks, run_pieces, Run}
use Rattle.connection_laws.proofs.Terms.{Identity, play_parts, film_url, play_text, header_value, IsRequest}
use Rattle.connection_laws.proofs.Terms.{request_head, Prepared, IsFilmAt, identity_of, SessionState, FilmPlay}
use Rattle.mpeg_scan.proofs.FilmBoundLemmas.{film-rate}
use Rattle.film_frames.proofs.FilmPieceLemmas.{film-bound, film-few}
use Rattle.film_run.specs.declared.plans.Playback.{Playback}
use Rattle.film_run.specs.Laws.{IsSending}
use Rattle.film_run.specs.Plans.{IsPlanOf}
use Rattle.rtsp_client.proofs.PictureTimes.{time_bounds}
use Rattle.session.specs.RunRequests.{IsPlayable, playback_of as session_playback}
use Rattle.connection_laws.specs.WholePlays.{IsSetUpFor}
use Rattle.rtsp_client.proofs.RequestGrammar.{play-asked}
use Rattle.rtsp_text.proofs.MessageUniqueness.{request_once}
use Rattle.session.specs.RequestedPlans.{IsPlannedRun}
use Rattle.session_laws.proofs.WholeFilmLemmas.{asked-whole}
use Rattle.session_laws.proofs.PlayInReadyLemmas.{IsPlayHeard}
use Rattle.connection_laws.proofs.ClientSetups.{range_is, Beginning}
use Rattle.connection_laws.proofs.SetupOnly.{Ground, IsUnbegun, IsWaiting}
use Rattle.session.proofs.InitialStateLemmas.{HeardMessage}
use Rattle.session.specs.declared.plans.Planned.{Planned}

pub asked_plan : {wish : Wish} {stored : Stored} {source : StreamSource} {settings : Settings} {setup : Setup}
    {counts : Counts} {plan : List Segment} → IsWish wish → IsSetUpFor wish settings setup →
    IsPlayable stored source settings setup counts (whole_run stored) plan →
    IsSending (stored_sizes stored) (playback_of wish stored) (whole_run stored) plan
asked_plan {wish} {stored} {settings} {setup} {plan} wished set is =
    let film = stored.film in
    let sizes = stored_sizes stored in
    let same : session_playback film settings setup ≡ playback_of wish stored = grind arith in
    let rate = film-rate (read_after [] film.bytes.items) film.grammar.accepted in
    let time = time_bounds film.rate (omega (arith, film.grammar.rate, rate.0))
    (omega (arith, film.grammar.rate, rate.1)) in
    record {
      can_play = search (arith, film-few, length-map, film-bound);
      plan_is = subst (λ (p : Playback). IsPlanOf sizes p (whole_run stored) plan) same is.plan_is;
    }

-- a film of the wished name
pub record WishedFilm (b : Beginning) : Type 0 where
  pub number : ℕ
  pub stored : Stored
  pub at : IsFilmAt b.start.films number stored
  pub name_is : string_bytes stored.name ≡ string_bytes b.wish.name

-- a play of the entire film, as the client wished
pub record IsWished (b : Beginning) (play : FilmPlay) : Type 0 where
  pub film : WishedFilm b
  pub identity : Identity
  pub media : identity.channel ≡ 0
  pub control : identity.control ≡ 1
  pub ssrc : identity.ssrc ≡ b.start.source.ssrc
  pub pieces : play.pieces ≡ film_blocks film.stored identity
  pub before : play.before ≡ 0
  pub sending : IsSending (stored_sizes film.stored) (playback_of b.wish film.stored) (whole_run film.stored) play.plan

-- a play from `npt=0-` on, in a session that has played nothing, is planned for the entire film
pub planned_whole : {old : SessionState} {stored : Stored} {setup : Setup} {planned : Planned}
    → IsPlannedRun old stored setup None (Some (codes "npt=0-")) planned → planned.run ≡ whole_run stored
planned_whole {stored = stored} is = is.run_is ∙ asked-whole stored is.wanted (grind arith) is.asked

pub wished_play : {b : Beginning} {h : HeardMessage} {prepared : Prepared} {play : FilmPlay} → IsWaiting b h.old
    → h.message ≡ play_text b.wish b.session → IsPlayHeard h prepared → play.plan ≡ prepared.plan
    → play.before ≡ prepared.run.sent → play.pieces ≡ run_pieces prepared.frames → IsWished b play
wished_play {b} {h} {prepared} {play} waits is heard plan before pieces =
    let stored = asks.stored in
    let setup = starts.setup in
    let begun = subst (IsUnbegun b.wish b.start.films) starts.ready waits.still.unbegun in
    let asked = play-asked b.wish b.session b.wished b.port b.session_is in
    let R : List ℕ → Type 0 = λ m.
    IsRequest m (codes "PLAY") (film_url b.wish) 2 (request_head (play_parts b.wish b.session)) [] in
    let same = request_once starts.taken.is_request (subst R (sym is) asked.read) in
    let range : header_value starts.taken.request.head.now (codes "Range")
    ≡ Some (codes "npt=0-") = search (range_is b) in
    let run : planned.run ≡ whole_run stored = planned_whole (rw (begun.0, range) at planned_is) in
    let slots : h.old.settings.slot_units ≡ b.wish.slot_units = search arith in
    let sending : IsSending (stored_sizes stored) (session_playback stored.film h.old.settings setup) planned.run
    planned.plan = record { can_play = planned_is.can_play; plan_is = planned_is.plan_is } in
    let at = subst (λ (g : Ground). IsFilmAt g.films setup.film stored) waits.still.ground planned_is.at in
    record {
      film = record { number = setup.film; stored = stored; at = at; name_is = begun.1.film stored at };
      identity = identity_of h.old.source setup planned.counts;
      media = begun.1.media;
      control = begun.1.control;
      ssrc = ap (λ (g : Ground). g.source.ssrc) waits.still.ground;
      pieces = rw (pieces, prepared_is, run);
      before = before ∙ (ap (λ (p : Prepared). p.run.sent) prepared_is ∙ ap (λ (r : Run). r.sent) run);
      sending = grind arith;
    }
  where
    open heard use {started, prepared_is}
    open started use {play as starts, asks, planned, planned_is}
