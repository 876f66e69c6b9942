-- A refusal that all methods share comes for its cause alone.
use Rattle.std.specs.Prelude.{⊤}
use Rattle.std.proofs.Common.{◌≡◌, ◌≢◌, ℕ, ◌<◌, true, List, [], codes, Option, Some, None, is_some, Err, refl, inl, inr}
use Rattle.std.proofs.Common.{arith, Bool, false, ◌==◌}
use Rattle.session.specs.declared.commands.Ask.TheVariants.{Reply}
use Rattle.rtsp_methods.specs.declared.refusals.Refusal.TheVariants.{Method as Unknown, Option as Required, Session}
use Rattle.rtsp_methods.specs.declared.refusals.Refusal.TheVariants.{Film, State as NotNow}
use Rattle.session.specs.declared.states.State.TheVariants.{Init}
use Rattle.session_laws.specs.MethodLaws.{NamesNoOwnFilm, NamesNoSession, setup_in}
use Rattle.session_laws.specs.RefusalLaws.{IsKnownMethod, RequiresSomeOption}
use Rattle.session.proofs.ReplyCodeLemmas.{ok_text_code, one_code, own_code, refusal_code}
use Rattle.session_laws.proofs.RequestReadings.{same_parts}
use Rattle.session.proofs.InitialStateLemmas.{HeardMessage, heard_by}
use Rattle.session.proofs.RequestCaseAnalysis.{Answer, Replies, SetsUp, EndsSession, OwnReply, ToFault, asked_by}
use Rattle.session.proofs.RequestCaseAnalysis.{by_answer, made_by, ToRefused, ToDeclined, OwnCause, NoSetup, NoPlan}
use Rattle.session.proofs.RequestCaseAnalysis.{NoMemory, NoSession, NotInPlaying, NoParameter, answer_to, reply_of}
use Rattle.std.specs.Bool.{⊤}
use Rattle.session.proofs.SharedTerms.{code_of, Field, first_of, HasCode, header_value, Hears, IsJudged, IsOwnFilm}
use Rattle.session.proofs.SharedTerms.{IsReadAs, no_fault, option_of, Refusal, reply_text, Request, SessionState, Setup}
use Rattle.session.specs.declared.states.State.{State}

-- what a reply's code says of its request
abbrev pub IfIt : Bool → Type 0 → Type 0 → Type 0
IfIt true p q = p
IfIt false p q = q

abbrev pub Causes : SessionState → Request → ℕ → Type 0
Causes old request code = IfIt (code == 501) (¬ IsKnownMethod request)
    (IfIt (code == 551) (RequiresSomeOption request)
    (IfIt (code == 454) (NamesNoSession old request.head.now)
    (IfIt (code == 404) (NamesNoOwnFilm old request.url.now) ⊤)))

-- ---- the refusals of the methods' own

own_causes : {h : HeardMessage} {other : Request} {refusal : Refusal} (request : Request) → OwnCause h other refusal
    → Causes h.old request (code_of refusal)
own_causes {h} {other} {refusal} request (NoSetup film is) = grind arith
own_causes {h} {other} {refusal} request (NoPlan setup paused range is _) = grind arith
own_causes {h} {other} {refusal} request (NoMemory same _) = grind arith
own_causes {h} {other} {refusal} request (NoSession same init) = grind arith
own_causes {h} {other} {refusal} request (NotInPlaying same) = grind arith
own_causes {h} {other} {refusal} request (NoParameter same) = grind arith

-- ---- the refusals that all methods share

some_option : (request : Request) (one other : Option (List ℕ)) → header_value request.head.now (codes "Require") ≡ one
    → header_value request.head.now (codes "Proxy-Require") ≡ other → is_some (first_of one other) ≡ true
    → RequiresSomeOption request
some_option request (Some value) other is its some = (value, inl is)
some_option request None (Some value) is its some = (value, inr its)
some_option request None None is its some = absurd (let no : ⊥ = cc (some) in no)

not_own : (state : State) (film : ℕ) → ¬ IsOwnFilm state film
    → (setup : Setup) × ((setup_in state ≡ Some setup) × (film ≢ setup.film))
not_own Init film other = absurd (other tt)
not_own _ film other = (_, (refl, other))

judged_causes : (old : SessionState) (request : Request) (refusal : Refusal)
    → IsJudged old.films old.id old.state request (Err refusal) → Causes old request (code_of refusal)
judged_causes old request Unknown is = λ known. is.none known.0 known.1
judged_causes old request Required is =
    some_option request (header_value request.head.now (codes "Require"))
    (header_value request.head.now (codes "Proxy-Require")) refl refl is.required
judged_causes old request Session is = grind arith
judged_causes old request Film is = λ authority film named. not_own old.state film (λ own. is.none
    (authority, (film, record { named = named; own = (grind arith) })))
judged_causes old request NotNow is = tt
judged_causes old request _ is = absurd is

-- ---- the code of a reply

record Coded (code : ℕ) (text : List ℕ) : Type 0 where
  has : HasCode code text

-- a request that was read from a message, and whose reply has a code
module _ (h : HeardMessage) (request : Request) (code : ℕ) (small : code < 1000) (read : IsReadAs h.message request)
  where
    -- a text of another code
    coded : {text : List ℕ} (its : ℕ) → Coded code text → its < 1000 → HasCode its text → Causes h.old request its
        → Causes h.old request code
    coded {text} its reply less other causes = grind (arith, one_code text small less reply.has other)

    says : (sequence : Option ℕ) (fields : List Field) (body : List ℕ) → Coded code (reply_text 200 sequence fields body)
        → Causes h.old request code
    says sequence fields body reply = coded 200 reply (omega arith) (ok_text_code sequence fields body) tt

    own_coded : (reply : OwnReply h) → Coded code (reply_of h reply) → Causes h.old request code
    own_coded (ToFault fault is_fault) reply = absurd (no_fault fault read is_fault)
    own_coded (ToRefused other refusal its judged) reply =
        coded (code_of refusal) reply (own_code refusal).small
        (refusal_code (Some other.sequence) refusal (option_of other.head.now))
        (same_parts request other read its (λ r. Causes h.old r (code_of refusal))
        (judged_causes h.old other refusal judged))
    own_coded (ToDeclined other refusal its cause) reply =
        coded (code_of refusal) reply (own_code refusal).small (refusal_code (Some other.sequence) refusal [])
        (own_causes request cause)
    own_coded _ reply = says _ _ _ reply

    answer_causes : (answer : Answer h) → asked_by answer ≡ Reply → Coded code (made_by answer).text
        → Causes h.old request code
    answer_causes (Replies own is) alone reply = own_coded own reply
    answer_causes (SetsUp film taken setup asks is) alone reply = says _ _ _ reply
    answer_causes (EndsSession taken is) alone reply = says _ _ _ reply
    answer_causes _ alone reply = absurd (let no : ⊥ = cc in no)

-- a request whose own reply has a code gave a cause for it
pub caused : (code : ℕ) → code < 1000 → (old new : SessionState) (message : List ℕ) (request : Request)
    → Hears old message Reply new → IsReadAs message request → HasCode code new.text → Causes old request code
caused code small old new message request hears is has =
    let answer = answer_to (heard_by hears) in
    by_answer (λ a s. a ≡ Reply → Coded code s.text → Causes old request code) answer
    (answer_causes (heard_by hears) request code small is answer) refl (record { has = has })
