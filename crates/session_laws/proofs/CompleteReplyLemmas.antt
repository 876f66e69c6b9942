-- Each reply of a session is a complete message.
use Rattle.std.proofs.Common.{◌≡◌, ℕ, ◌-◌, ◌^◌, ◌<◌, ◌≤◌, List, [], codes, length, string_bytes, sum, drop, Option}
use Rattle.std.proofs.Common.{Some, None, Ok, Err, refl, sym, ap, subst, ◌∙◌, arith, inl, inr}
use Rattle.std.specs.Prelude.{IfSome}
use Rattle.std.proofs.lemmas.List.{length-drop, length-take}
use Rattle.std.proofs.lemmas.List.Sums.{sum_by-take-drop, sum_by-take-le}
use Rattle.std.proofs.lemmas.Option.{get_or_from_slice_get, slice_get_within}
use Rattle.session.proofs.SharedTerms.{AreChannelsOf, AreFilms, Channels, curve_refusal, CurveRefused, fault_refusal}
use Rattle.session.proofs.SharedTerms.{Film, first_sequence, header_value, Hears, IsJudged, IsPlanned, IsReadAs}
use Rattle.session.proofs.SharedTerms.{length_ms, look_body, new_session_state, offer_body, option_of, playback_of}
use Rattle.session.proofs.SharedTerms.{Refusal, Request, rest_sizes, Run, run_of, SessionState, Settings, Setup, Stored}
use Rattle.session.proofs.SharedTerms.{stored_sizes, Timing, timing_of}
use Rattle.session.specs.declared.commands.Ask.{Ask}
use Rattle.session.specs.declared.refusals.Task.{Task}
use Rattle.vod_base.specs.declared.limits.TheConstants.{MAX_BYTES}
use Rattle.vod_base.specs.Blanks.{without_blanks}
use Rattle.vod_base.proofs.TextLemmas.{trimmed_is}
use Rattle.wire_curve.specs.FilmCurves.{bytes_used_in}
use Rattle.wire_curve.specs.declared.film.CurveRefused.TheVariants.{Fault}
use Rattle.wire_curve.specs.declared.film.CurveFault.TheVariants.{BufferTooSmall}
use Rattle.wire_curve.specs.CurveFaults.{IsRefused as HaveNoCurves}
use Rattle.wire_curve.proofs.PictureSums.{sum_by-range-all, sum_by-range-le}
use Rattle.wire_curve.proofs.SlotUsageLemmas.{cond_le}
use Rattle.film_frames.proofs.FilmPieceLemmas.{film-bound, film-few}
use Rattle.rtsp_text.specs.Lines.{header_lines}
use Rattle.rtsp_text.specs.declared.requests.RequestFault.{RequestFault}
use Rattle.rtsp_text.proofs.RequestBounds.{read_url}
use Rattle.rtsp_text.proofs.FirstField.{first_tells, number_tells}
use Rattle.rtsp_text.proofs.LineBounds.{value_inside}
use Rattle.rtsp_fields.specs.Urls.{IsRead}
use Rattle.film_streams.specs.Films.{milliseconds_at}
use Rattle.film_streams.specs.StreamNumbers.{timestamp_at}
use Rattle.rtsp_methods.specs.RequiredOptions.{or_nothing}
use Rattle.session.specs.Methods.{first_number}
use Rattle.session_laws.specs.CompleteReplies.{HasValidIds, LeavesRoom, RepliesAreComplete}
use Rattle.rtsp_replies.specs.Messages.{IsMessage}
use Rattle.session.proofs.RequestUniqueness.{first_sequence_is}
use Rattle.rtsp_replies.proofs.ReplyTextLemmas.{IsPrinted, bare_between, printed-w64}
use Rattle.session.proofs.InitialStateLemmas.{HeardMessage, heard_by}
use Rattle.session.proofs.RequestCaseAnalysis.{Answer, Replies as RepliesAlone, SetsUp as SettlesSetup, StartsPlay}
use Rattle.session.proofs.RequestCaseAnalysis.{HaltsPlay, StopsPlay, EndsSession, TakesLook, SeeksOffer, OwnReply}
use Rattle.session.proofs.RequestCaseAnalysis.{ToFault, ToRefused, ToDeclined, ToAsked, ToDescribed, ToConfirmed}
use Rattle.session.proofs.RequestCaseAnalysis.{ToEmpty, OwnCause, NoSetup, NoPlan, NoMemory as LacksMemory, NoSession}
use Rattle.session.proofs.RequestCaseAnalysis.{NotInPlaying, NoParameter, TakenTask, answer_to, reply_of, asked_by}
use Rattle.session.proofs.RequestCaseAnalysis.{by_answer, made_by}
use Rattle.session_laws.proofs.ReplyContentLemmas.{authority_of}
use Rattle.rtsp_replies.proofs.ReplyMessages.{public_whole, session_whole, plain_whole, parameters_whole, AreSmall}
use Rattle.rtsp_replies.proofs.ReplyMessages.{setup_whole, name_printed, describe_whole, IsRepeated, repeats_nothing}
use Rattle.rtsp_replies.proofs.ReplyMessages.{HasFitLeast, refusal_whole, overflow_whole, full_whole, PlayParts}
use Rattle.rtsp_replies.proofs.ReplyMessages.{play_whole, look_short, offer_short}

time_fits : (film : Film) (unit : ℕ) → unit ≤ 4194304 → milliseconds_at film unit < 2 ^ 64
time_fits film unit within = grind arith

-- the value of a header field, as a reply repeats it
header_repeated : (head name : List ℕ) (found : Option (List ℕ)) → header_value head name ≡ found → length head ≤ 15872
    → IsRepeated (or_nothing found)
header_repeated head name None is short = repeats_nothing
header_repeated head name (Some value) is short =
    let first = (first_tells name (header_lines head)).first value is in
    let own = value_inside head name value first in
    let trimmed = trimmed_is first.field.after in
    let bare = bare_between (without_blanks first.field.after) trimmed.begins trimmed.ends in
    record { short = omega (arith, own.short, short); one_line = own.one_line; bare = rw first.field.value_is bare }

option_repeated : (head : List ℕ) → length head ≤ 15872 → IsRepeated (option_of head)
option_repeated head short =
    let repeated = λ (name : List ℕ). header_repeated head name (header_value head name) refl short in
    grind (arith, repeated (codes "Require"), repeated (codes "Proxy-Require"))

sequence_fits : (message : List ℕ) (found : Option ℕ) → first_sequence message ≡ found → IfSome found (λ n. n < 2 ^ 64)
sequence_fits message None is = tt
sequence_fits message (Some n) is =
    let first = (number_tells (codes "CSeq") (header_lines message)).first n is in
    (grind arith)

-- why a run has no plan: the least buffer is of the film's own bytes
used_fits : (sizes : List ℕ) (timing : Timing) (t : ℕ) → bytes_used_in sizes timing t ≤ sum sizes
used_fits sizes timing t = grind (arith, sum_by-range-le, cond_le, sum_by-range-all sizes)

rest_fits : (stored : Stored) (run : Run) → sum (rest_sizes (stored_sizes stored) run) ≤ MAX_BYTES
rest_fits stored run =
    let sizes = stored_sizes stored in
    omega (
      arith,
      sum_by-take-le (λ x. x) (drop run.from_unit sizes) (run.end_unit - run.from_unit),
      sum_by-take-drop (λ x. x) sizes run.from_unit,
      film-bound stored.film,
    )

curves_fit : (stored : Stored) (run : Run) (timing : Timing) (refused : CurveRefused)
    → HaveNoCurves (rest_sizes (stored_sizes stored) run) timing refused → HasFitLeast (curve_refusal refused)
curves_fit stored run timing (Fault (BufferTooSmall slot used own)) none least same =
    let is : own ≡ least = cc in
    let reached = none.2.reached in
    let used = used_fits (rest_sizes (stored_sizes stored) run) timing reached.0 in
    omega (arith, is, reached.2, used, rest_fits stored run)
curves_fit stored run timing _ none least same = absurd (let no : ⊥ = cc in no)

planned_fits : (old : SessionState) (setup : Setup) (paused : Option Run) (range : Option (List ℕ)) (refusal : Refusal)
    → IsPlanned old setup paused range (Err refusal) → HasFitLeast refusal
planned_fits old setup paused range refusal (inl no_run) least same = grind arith
planned_fits old setup paused range refusal (inr no_plan) least same =
    curves_fit no_plan.stored (run_of no_plan.wanted)
    (timing_of (playback_of no_plan.stored.film old.settings setup) (run_of no_plan.wanted))
    no_plan.refused no_plan.no_curves least (sym no_plan.refusal_is ∙ same)

setup_small : (value : Option (List ℕ)) (channels : Channels) → AreChannelsOf value channels → AreSmall channels
setup_small value channels given = grind arith

own_fits : {h : HeardMessage} {request : Request} {refusal : Refusal} → OwnCause h request refusal → HasFitLeast refusal
own_fits {h} {request} (NoSetup film is) least same = grind arith
own_fits {h} {refusal} (NoPlan setup paused range is may) least same =
    planned_fits h.old setup paused range refusal is least same
own_fits (LacksMemory is may) least same = absurd (let no : ⊥ = cc in no)
own_fits (NoSession is init) least same = absurd (let no : ⊥ = cc in no)
own_fits (NotInPlaying is) least same = absurd (let no : ⊥ = cc in no)
own_fits (NoParameter is) least same = absurd (let no : ⊥ = cc in no)

-- a message that leaves room, to a session that names its films and itself well
module _ (h : HeardMessage) (named : HasValidIds h.old) (room : LeavesRoom h.message) where
  own_id : IsPrinted 16 h.old.id
  own_id = rw named.id_is (printed-w64 named.number)

  number : (request : Request) → IsReadAs h.message request → request.sequence < 2 ^ 64
  number request read =
      sequence_fits h.message (Some request.sequence) (first_sequence_is h.message request.sequence read.sequence_is)

  taken_number : {task : Task} (taken : TakenTask h task) → taken.request.sequence < 2 ^ 64
  taken_number taken = number taken.request taken.is_request

  -- the authority of a request's URL
  authority_printed : {authority : List ℕ} {name : Option (List ℕ)} (request : Request) → IsReadAs h.message request
      → IsRead request.url.now authority name → IsPrinted 15872 authority
  authority_printed {authority} {name} request is read =
      let url = request.url.now in
      let short = room (length request.head.now) is.split.is_head in
      let within : length url < length request.head.now = read_url {E = RequestFault} h.message (record {
        head = λ (r : Request). r.head.now;
        body = λ (r : Request). r.body.now;
        method = λ (r : Request). r.method.now;
        url = λ (r : Request). r.url.now;
        sequence = λ (r : Request). r.sequence;
      }) (Ok request) is in
      let cut = length-take (read.path - 7) (drop 7 url) in
      record {
        short = omega (arith, ap length read.authority_is, cut, length-drop 7 url, within, short);
        prints = (authority_of url authority name read).prints;
      }

  own_whole : (reply : OwnReply h) → IsMessage (reply_of h reply)
  own_whole (ToFault fault is) =
      refusal_whole (first_sequence h.message) (fault_refusal fault) []
      (sequence_fits h.message (first_sequence h.message) refl) repeats_nothing (grind arith)
  own_whole (ToRefused request refusal read judged) =
      refusal_whole (Some request.sequence) refusal (option_of request.head.now) (number request read)
      (option_repeated request.head.now (room (length request.head.now) read.split.is_head))
      (λ least same. absurd (subst (λ n. IsJudged h.old.films h.old.id h.old.state request (Err n)) same judged))
  own_whole (ToDeclined request refusal read cause) =
      refusal_whole (Some request.sequence) refusal [] (number request read) repeats_nothing (own_fits cause)
  own_whole (ToAsked taken) = public_whole taken.request.sequence (taken_number taken)
  own_whole (ToDescribed asked taken stored at) =
      describe_whole taken.request.sequence (length_ms stored.film) (taken_number taken)
      (authority_printed taken.request taken.is_request taken.judged.film.named.read)
      (name_printed (string_bytes stored.name) (grind (arith, get_or_from_slice_get, slice_get_within)))
      (time_fits stored.film (length stored.film.units.items) (film-few stored.film))
  own_whole (ToConfirmed asked taken) = session_whole taken.request.sequence h.old.id (taken_number taken) own_id
  own_whole (ToEmpty taken) = plain_whole taken.request.sequence (taken_number taken)

  answer_whole : (answer : Answer h) → RepliesAreComplete (asked_by answer) (made_by answer)
  answer_whole (RepliesAlone reply is) = own_whole reply
  answer_whole (SettlesSetup film taken setup asks is) =
      setup_whole taken.request.sequence h.old.source.ssrc (taken_number taken)
      (setup_small (header_value taken.request.head.now (codes "Transport"))
      (record { media = setup.media; control = setup.control }) asks.channels) own_id
  answer_whole (StartsPlay play planned asks is) =
      let taken = play.taken in
      let film = asks.stored.film in
      let run_is = is.goes_on.run_is in
      let few = is.can_play.sizes_are.few in
      let last : planned.run.end_unit ≤ 4194304 = let within = run_is.within in omega (arith, within, few) in
      let first : planned.run.from_unit ≤ 4194304 = let rest = run_is.rest in omega (arith, rest, last) in
      let parts : PlayParts = record {
        sequence = taken.request.sequence;
        id = h.old.id;
        from_ms = milliseconds_at film planned.run.from_unit;
        to_ms = milliseconds_at film planned.run.end_unit;
        authority = play.asked.authority.now;
        name = string_bytes asks.stored.name;
        number = first_number h.old asks.stored play.setup planned;
        time = timestamp_at film h.old.source planned.run.from_unit;
        sequence_fits = taken_number taken;
        id_is = own_id;
        from_fits = time_fits film planned.run.from_unit first;
        to_fits = time_fits film planned.run.end_unit last;
        under = authority_printed taken.request taken.is_request taken.judged.film.named.read;
        named = name_printed (string_bytes asks.stored.name)
            (grind (arith, get_or_from_slice_get, slice_get_within));
        number_fits = omega arith;
        time_fits = omega arith;
      } in
      record {
        admission = λ place start small. play_whole parts (start - h.old.heard) (omega (arith, small));
        overflow = λ place slot booked asked one two three.
            overflow_whole taken.request.sequence (record {
              slot = slot;
              booked = booked;
              asked = asked;
              slot_fits = one;
              booked_fits = two;
              asked_fits = three;
            }) (taken_number taken);
        full = λ entries live one two. full_whole taken.request.sequence entries live (taken_number taken) one two;
      }
  answer_whole (HaltsPlay taken hand is) = session_whole taken.request.sequence h.old.id (taken_number taken) own_id
  answer_whole (StopsPlay taken hand is) = session_whole taken.request.sequence h.old.id (taken_number taken) own_id
  answer_whole (EndsSession taken is) = session_whole taken.request.sequence h.old.id (taken_number taken) own_id
  answer_whole (TakesLook taken look) =
      let n = taken.request.sequence in
      record {
        look = λ place now at booked one two three. parameters_whole n (look_body now at booked) (taken_number taken)
            (look_short now at booked one two three);
        full = λ entries live one two. full_whole n entries live (taken_number taken) one two;
      }
  answer_whole (SeeksOffer offer planned is asks) = λ note are.
      parameters_whole offer.taken.request.sequence (offer_body note.offers.start note.offers.tried)
      (taken_number offer.taken) (offer_short note.offers are)

pub replies_whole : (old : SessionState) (message : List ℕ) (ask : Ask) (new : SessionState) → HasValidIds old
    → LeavesRoom message → Hears old message ask new → RepliesAreComplete ask new
replies_whole old message ask new named room hears =
    let answer = answer_to (heard_by hears) in
    by_answer RepliesAreComplete answer (answer_whole (heard_by hears) named room answer)

-- what a session keeps from its beginning
pub begins_named : (films : List Stored) (settings : Settings) (words : List ℕ) → AreFilms films
    → HasValidIds (new_session_state films settings words)
begins_named films settings words are = grind arith

pub keeps_named : (old new : SessionState) (message : List ℕ) (ask : Ask) → Hears old message ask new → HasValidIds old
    → HasValidIds new
keeps_named old new message ask hears named = grind (arith, answer_to (heard_by hears), by_answer)
