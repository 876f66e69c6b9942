-- Each reply to a request has the request's CSeq.
use Rattle.std.proofs.Common.{arith, ℕ, ◌-◌, List, [], Some, refl, sym, subst}
use Rattle.session.proofs.SharedTerms.{Field, IsReadAs, no_fault, reply_text, Request, request_once}
use Rattle.session.specs.declared.refusals.Task.{Task}
use Rattle.session_laws.specs.ReplyNumbers.{HasNumber, RepliesHaveNumber}
use Rattle.session.proofs.InitialStateLemmas.{HeardMessage, heard_by}
use Rattle.session.proofs.RequestCaseAnalysis.{Answer, Replies, SetsUp, StartsPlay, HaltsPlay, StopsPlay, EndsSession}
use Rattle.session.proofs.RequestCaseAnalysis.{TakesLook, SeeksOffer, OwnReply, ToFault, ToRefused, ToDeclined, ToAsked}
use Rattle.session.proofs.RequestCaseAnalysis.{ToDescribed, ToConfirmed, ToEmpty, TakenTask, answer_to, asked_by}
use Rattle.session.proofs.RequestCaseAnalysis.{by_answer, made_by, reply_of}
use Rattle.session_laws.proofs.ReplyContentLemmas.{started_is}
use Rattle.session_laws.proofs.refusal_laws.law_replies_have_the_request_cseq.Goals as goal

-- a request that was read
module _ {h : HeardMessage} (request : Request) (read : IsReadAs h.message request) where
  -- the one that the session processes has its number
  numbered : {task : Task} (taken : TakenTask h task) (code : ℕ) (fields : List Field) (body : List ℕ)
      → HasNumber request.sequence (reply_text code (Some taken.request.sequence) fields body)
  numbered taken code fields body = grind (arith, request_once taken.is_request read)

  -- what the session replies by itself has the number of its request
  own_number : (reply : OwnReply h) → HasNumber request.sequence (reply_of h reply)
  own_number (ToFault fault is) = absurd (no_fault fault read is)
  own_number (ToRefused other refusal its judged) = grind arith
  own_number (ToDeclined other refusal its cause) = grind arith
  own_number (ToAsked taken) = numbered taken 200 _ []
  own_number (ToDescribed asked taken stored at) = numbered taken 200 _ _
  own_number (ToConfirmed asked taken) = numbered taken 200 _ []
  own_number (ToEmpty taken) = numbered taken 200 [] []

  answer_number : (answer : Answer h) → RepliesHaveNumber request.sequence (asked_by answer) (made_by answer)
  answer_number (Replies reply is) = own_number reply
  answer_number (SetsUp film taken setup asks is) = numbered taken 200 _ []
  answer_number (StartsPlay play planned asks planned_is) = record {
    admission = λ place start. subst (HasNumber request.sequence)
        (sym (started_is play.taken.request.sequence _ (start - h.old.heard) refl)) (numbered play.taken 200 _ []);
    overflow = λ place slot booked asked. numbered play.taken 453 _ [];
    full = λ entries live. numbered play.taken 503 _ [];
  }
  answer_number (HaltsPlay taken hand is) = numbered taken 200 _ []
  answer_number (StopsPlay taken hand is) = numbered taken 200 _ []
  answer_number (EndsSession taken is) = numbered taken 200 _ []
  answer_number (TakesLook taken look) = grind arith
  answer_number (SeeksOffer offer planned is asks) = grind arith

pub returns : goal.returns
returns c = λ old new message ask request hears is.
    let answer = answer_to (heard_by hears) in
    by_answer (RepliesHaveNumber request.sequence) answer (answer_number request is answer)
