-- What is asked of the station for an offer, what the reply gives, and the least buffer that a
-- refusal names.
use Rattle.std.specs.Prelude.{ℕ, ◌≡◌, ◌<◌, ◌≤◌, ◌++◌, List, [], ◌∷◌, Option, Some, None, codes}
use Rattle.std.specs.Prelude.{decimal, flat_map, length, map}
use Rattle.vod_base.specs.Numbers.{number_of}
use Rattle.plan_cert.specs.declared.Segment.{Segment}
use Rattle.wire_curve.specs.CurveFaults.{IsAccepted}
use Rattle.wire_curve.specs.declared.film.Timing.{Timing}
use Rattle.early_start.specs.StartSearch.{Offers}
use Rattle.early_start.specs.declared.Tried.{Tried}
use Rattle.rtsp_text.specs.Fields.{header_value}
use Rattle.rtsp_text.specs.Replies.{Field, reply_text, value_named}
use Rattle.rtsp_text.specs.declared.requests.Request.{Request}
use Rattle.film_frames.specs.declared.stored_films.Stored.{Stored}
use Rattle.film_run.specs.declared.runs.Run.{Run}
use Rattle.session.specs.declared.plans.Planned.{Planned}
use Rattle.session.specs.declared.states.Awaited.TheVariants.{Offer}
use Rattle.film_streams.specs.declared.setups.Setup.{Setup}
use Rattle.session.specs.declared.states.State.TheVariants.{Ready}
use Rattle.session.specs.RefusalOrder.{IsReadAs}
use Rattle.rtsp_methods.specs.Methods.{IsWord}
use Rattle.session.specs.RequestedPlans.{IsPlannedRun}
use Rattle.session.specs.SessionStates.{SessionState}

-- an offer is asked for by a GET_PARAMETER in Ready (RFC 2326 section 10.8) whose body is this word
pub record IsOfferRequest (old : SessionState) (message : List ℕ) (request : Request) : Type 0 where
  pub is_request : IsReadAs message request
  pub method : request.method.now ≡ codes "GET_PARAMETER"
  pub body : IsWord (codes "x-Offer") request.body.now

-- the wait is the number that its x-Wait writes, in eight bits
pub record IsWaitIn (head : List ℕ) (wait : ℕ) : Type 0 where
  pub text : List ℕ
  pub named : header_value head (codes "x-Wait") ≡ Some text
  pub number_is : number_of text ≡ Some wait
  pub fits : wait < 256

-- the station is asked with the plan of a PLAY without a Range, and no start was tried yet; the
-- state and what was played stay
pub record IsOfferAsked (old : SessionState) (message : List ℕ) (plan : List Segment)
    (offers : Offers) (new : SessionState) : Type 0 where
  pub request : Request
  pub setup : Setup
  pub paused : Option Run
  pub stored : Stored
  pub planned : Planned
  pub asked_by : IsOfferRequest old message request
  pub ready : old.state ≡ Ready setup paused
  pub wait : IsWaitIn request.head.now offers.wait
  pub planned_is : IsPlannedRun old stored setup paused None planned
  pub plan_is : plan ≡ planned.plan
  pub not_found : offers.start ≡ None
  pub not_tried : offers.tried ≡ []
  pub leaves : new ≡ record old { awaited = Offer request.sequence }

-- the lines of an offer: the start that was found, and of each start that was tried in vain the
-- first slot without room, what is booked in it and what the plan asks for there
abbrev pub found_line : Option ℕ → List ℕ
found_line None = codes "x-Start: none"
found_line (Some start) = codes "x-Start: " ++ decimal start

abbrev pub tried_line : Tried → List ℕ
tried_line tried = codes "x-Over: " ++ (decimal tried.start ++ (codes " "
    ++ (decimal tried.over.slot ++ (codes " " ++ (decimal tried.over.booked
    ++ (codes " " ++ decimal tried.over.asked))))))

pub record IsOfferReply (sequence : ℕ) (offers : Offers) (text : List ℕ) : Type 0 where
  pub fields : List Field
  pub body : List ℕ
  pub text_is : text ≡ reply_text 200 (Some sequence) fields body
  pub kind : value_named (codes "Content-Type") fields ≡ Some (codes "text/parameters")
  pub size : value_named (codes "Content-Length") fields ≡ Some (decimal (length body))
  pub body_is : body ≡ flat_map (λ line. line ++ codes "\r\n")
      (found_line offers.start ∷ map tried_line offers.tried)

-- when the pictures are used by a client with another buffer
abbrev pub with_buffer : Timing → ℕ → Timing
with_buffer timing bytes = record timing { buffer = bytes }

-- with a buffer of so many bytes the pictures have curves, and with none of fewer
pub record IsLeastBuffer (sizes : List ℕ) (timing : Timing) (least : ℕ) : Type 0 where
  pub plays : IsAccepted sizes (with_buffer timing least)
  pub no_less : (bytes : ℕ) → IsAccepted sizes (with_buffer timing bytes) → least ≤ bytes

-- the reply that names it
pub record IsLeastBufferReply (sequence : Option ℕ) (least : ℕ) (text : List ℕ) : Type 0 where
  pub fields : List Field
  pub text_is : text ≡ reply_text 451 sequence fields []
  pub least_is : value_named (codes "x-Least-Buffer") fields ≡ Some (decimal least)
