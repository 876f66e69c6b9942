-- What a session replies to a client's SETUP, PLAY and TEARDOWN.
use Rattle.std.proofs.Common.{◌≡◌, ◌⊎◌, ℕ, List, [], ◌++◌, true, codes, Some, None, arith, inl, inr}
use Rattle.connection_laws.proofs.Terms.{header_value, request_head, setup_parts, teardown_parts, film_url, setup_text}
use Rattle.connection_laws.proofs.Terms.{teardown_text, Setup, State, Names, setup_in, session_text, SessionState}
use Rattle.connection_laws.proofs.Terms.{has_session_in, Stage, IsRequest}
use Rattle.rtsp_text.specs.Replies.{value_named}
use Rattle.rtsp_fields.specs.SessionIds.{IsSession}
use Rattle.rtsp_client.proofs.RequestGrammar.{setup-asked, teardown-asked}
use Rattle.rtsp_replies.specs.Replies.{setup_text as setup_reply}
use Rattle.session_laws.proofs.ClientReplyLemmas.{setup_answered, teardown_answered}
use Rattle.session_laws.proofs.SetupLemmas.{HeardCall}
use Rattle.session.proofs.InitialStateLemmas.{HeardMessage, heard_by}
use Rattle.connection_laws.proofs.ClientSetups.{settled_by, Beginning}
use Rattle.connection_laws.proofs.KeptParts.{IsSameSetup}
use Rattle.connection_laws.proofs.CourseInduction.{AnsweredRequest}

-- a session that a client's PLAY and TEARDOWN name, with the film of their URL
pub record IsNamed (b : Beginning) (s : SessionState) : Type 0 where
  pub setup : Setup
  pub setup_is : setup_in s.state ≡ Some setup
  pub own : IsSession b.session s.id
  pub authority : List ℕ
  pub names : Names s.films (film_url b.wish) authority setup.film

pub named_still : {b : Beginning} {old new : SessionState} → IsSameSetup old new → IsNamed b old → IsNamed b new
named_still {b} {old} {new} same named = search arith

has_one : {setup : Setup} (state : State) → setup_in state ≡ Some setup → has_session_in state ≡ true
has_one state given = grind arith

-- a message that was heard, and is this request with no body
abbrev pub heard_call : {method : List ℕ} (h : HeardMessage) (url : List ℕ) (sequence : ℕ) (head : List ℕ)
    → IsRequest h.message method url sequence head [] → HeardCall method
heard_call h url sequence head read =
    record { h = h; url = url; sequence = sequence; head = head; body = []; read = read }

-- a SETUP is refused, or answered with the channels 0 and 1
pub setup_replied : (b : Beginning) {old new : Stage} (request : AnsweredRequest old new)
    → request.message ≡ setup_text b.wish → (request.replied.heard.asking.state ≡ old.session.state)
    ⊎ (request.replied.heard.asking.text ≡ setup_reply 1 0 1 old.session.source.ssrc old.session.id)
setup_replied b request is =
    let call : HeardCall (codes "SETUP") = heard_call (heard_by request.replied.heard.hears)
    (film_url b.wish ++ codes "/video") 1 (request_head (setup_parts b.wish))
    (rw is (setup-asked b.wish b.wished b.port).read) in
    elim (setup_answered call) [
      | inl same ↦ inl same
      | inr told ↦
          let settled = settled_by b told.asks told.names in inr (rw (settled.media, settled.control) at told.text)
    ]

-- a TEARDOWN is answered with the session, and what SETUP settled stays
pub teardown_replied : (b : Beginning) {old new : Stage} (request : AnsweredRequest old new)
    → request.message ≡ teardown_text b.wish b.session → IsNamed b old.session
    → (request.replied.heard.asking.text ≡ session_text 3 old.session.id)
    × IsSameSetup old.session request.replied.heard.asking
unfolding value_named
teardown_replied b {old} request is named =
    let heard = request.replied.heard in
    let asked = teardown-asked b.wish b.session b.wished b.port b.session_is in
    let head = request_head (teardown_parts b.wish b.session) in
    let require : header_value head (codes "Require") ≡ None = asked.values (codes "Require") in
    let proxy : header_value head (codes "Proxy-Require") ≡ None = asked.values (codes "Proxy-Require") in
    let own : header_value head (codes "Session") ≡ Some b.session = asked.values (codes "Session") in
    let call : HeardCall (codes "TEARDOWN") =
    heard_call (heard_by heard.hears) (film_url b.wish) 3 head (rw is asked.read) in
    let told = teardown_answered call (search (arith, has_one old.session.state named.setup_is, has_one)) in
    (told.text, record { names = rw (told.films, told.id); setup = told.setup })
