-- The codes of replies: none of the session's own is 453 or 503, and 500 is out of memory.
use Rattle.std.proofs.Common.{◌≡◌, ℕ, ◌<◌, ◌++◌, List, [], Option, Some, refl, arith}
use Rattle.std.proofs.lemmas.Fmt.{decimal_injective}
use Rattle.std.specs.Fmt.{digits}
use Rattle.session.proofs.SharedTerms.{Ask, BadRequest, code_of, Field, HasCode, Hears, Is500, IsNoRefusal}
use Rattle.session.proofs.SharedTerms.{IsOutOfMemory, IsReplied, MayRunOutOfMemory, Memory, NeverLacks, option_of}
use Rattle.session.proofs.SharedTerms.{Refusal, refusal_text, RefusesNone, SessionState}
use Rattle.rtsp_text.specs.Replies.{reply_front, reply_text, status_line}
use Rattle.session.proofs.InitialStateLemmas.{HeardMessage, heard_by}
use Rattle.session.proofs.RequestUniqueness.{first_sequence_is}
use Rattle.session.proofs.RequestCaseAnalysis.{asked_by, by_answer, made_by, Answer, Replies, StartsPlay, HaltsPlay}
use Rattle.session.proofs.RequestCaseAnalysis.{StopsPlay, TakesLook, SeeksOffer, OwnReply, ToFault, ToRefused}
use Rattle.session.proofs.RequestCaseAnalysis.{ToDeclined, answer_to, fault_refuses, may_lack, reply_of}

-- a reply has one code
pub one_code : {c d : ℕ} (text : List ℕ) → c < 1000 → d < 1000 → HasCode c text → HasCode d text → c ≡ d
one_code {c} {d} text small short is its = grind (arith, decimal_injective)

ok_code : (sequence : Option ℕ) (fields : List Field) (rest : List ℕ) → HasCode 200
    (reply_front 200 sequence fields ++ rest)
unfolding reply_front status_line digits
ok_code sequence fields rest = refl

pub ok_text_code : (sequence : Option ℕ) (fields : List Field) (body : List ℕ) → HasCode 200
    (reply_text 200 sequence fields body)
unfolding reply_text reply_front status_line digits
ok_text_code sequence fields body = refl

pub refusal_code : (sequence : Option ℕ) (refusal : Refusal) (option : List ℕ)
    → HasCode (code_of refusal) (refusal_text sequence refusal option)
unfolding reply_text reply_front status_line digits
refusal_code sequence BadRequest option = refl
refusal_code sequence _ option = refl

-- the code of a refusal
pub record IsOwnCode (refusal : Refusal) : Type 0 where
  pub small : code_of refusal < 1000
  no_overflow : code_of refusal ≡ 453 → ⊥
  not_full : code_of refusal ≡ 503 → ⊥
  pub memory : code_of refusal ≡ 500 → refusal ≡ Memory

pub own_code : (refusal : Refusal) → IsOwnCode refusal
own_code refusal = grind arith

-- a 200 is none of these three
record IsOkAlone (text : List ℕ) : Type 0 where
  plain : IsNoRefusal text
  found : ¬ HasCode 500 text

ok_alone : (text : List ℕ) → HasCode 200 text → IsOkAlone text
ok_alone text ok = grind (arith, decimal_injective)

ok_text : (sequence : Option ℕ) (fields : List Field) (body : List ℕ) → IsOkAlone (reply_text 200 sequence fields body)
ok_text sequence fields body = ok_alone _ (ok_text_code sequence fields body)

pub ok_plain : (sequence : Option ℕ) (fields : List Field) (body : List ℕ) → IsNoRefusal
    (reply_text 200 sequence fields body)
ok_plain sequence fields body = (ok_text sequence fields body).plain

refused_as : {code : ℕ} (sequence : Option ℕ) (refusal : Refusal) (option : List ℕ) → code < 1000
    → HasCode code (refusal_text sequence refusal option) → code_of refusal ≡ code
refused_as sequence refusal option small is =
    one_code (refusal_text sequence refusal option) (own_code refusal).small small
    (refusal_code sequence refusal option) is

refusal_plain : (sequence : Option ℕ) (refusal : Refusal) (option : List ℕ) → IsNoRefusal
    (refusal_text sequence refusal option)
refusal_plain sequence refusal option =
    let overflow = refused_as {code = 453} sequence refusal option (omega arith) in
    let full = refused_as {code = 503} sequence refusal option (omega arith) in
    grind (arith, own_code refusal)

-- what the session replies by itself is neither, and 500 is out of memory
own_plain : (h : HeardMessage) (reply : OwnReply h) → IsNoRefusal (reply_of h reply)
own_plain h reply = search (arith, refusal_plain, ok_plain)

answer_text : {h : HeardMessage} (answer : Answer h) → RefusesNone (asked_by answer) (made_by answer)
answer_text {h} (Replies reply is) = own_plain h reply
answer_text (StartsPlay play planned asks planned_is) = λ rest.
    (ok_alone _ (ok_code (Some play.taken.request.sequence) _ rest)).plain
answer_text (TakesLook taken look) = tt
answer_text (SeeksOffer offer planned is asks) = tt
answer_text _ = ok_plain _ _ _

pub hears_text : (old new : SessionState) (message : List ℕ) (ask : Ask) → Hears old message ask new
    → RefusesNone ask new
hears_text old new message ask hears =
    let answer = answer_to (heard_by hears) in by_answer RefusesNone answer (answer_text answer)

-- memory ran out for a message, as it may
abbrev RunsOut : HeardMessage → Type 0
RunsOut h = MayRunOutOfMemory h.old h.message × IsOutOfMemory h.old h.message h.ask h.new

-- a refusal of the code 500 is out of memory
refused_memory : (sequence : Option ℕ) (refusal : Refusal) (option : List ℕ)
    → HasCode 500 (refusal_text sequence refusal option) → refusal ≡ Memory
refused_memory sequence refusal option code =
    (own_code refusal).memory (refused_as sequence refusal option (omega arith) code)

own_500 : (h : HeardMessage) (reply : OwnReply h) → IsReplied h.old (reply_of h reply) h.ask h.new
    → HasCode 500 (reply_of h reply) → RunsOut h
own_500 h (ToFault fault is_fault) is code = search (fault_refuses, refused_memory)
own_500 h (ToRefused request refusal read judged) is code = search
    (arith, refused_memory (Some request.sequence) refusal (option_of request.head.now) code)
own_500 h (ToDeclined request refusal read cause) is code =
    let memory = refused_memory (Some request.sequence) refusal [] code in
    (may_lack cause memory, rw (first_sequence_is h.message request.sequence read.sequence_is) (rw memory at is))
own_500 h reply is code = grind (arith, ok_text)

-- a reply of 500 is that to a message for which memory is wanting, as it may be for it
answer_500 : {h : HeardMessage} (answer : Answer h) → Is500 (asked_by answer) (made_by answer) → RunsOut h
answer_500 {h} (Replies own is) code = own_500 h own is code
answer_500 _ code = grind (arith, ok_text)

hears_wanting : (old new : SessionState) (message : List ℕ) (ask : Ask) → Hears old message ask new → Is500 ask new
    → MayRunOutOfMemory old message × IsOutOfMemory old message ask new
hears_wanting old new message ask hears =
    let answer = answer_to (heard_by hears) in
    by_answer (λ a s. Is500 a s → RunsOut (heard_by hears)) answer (answer_500 answer)

pub hears_500 : (old new : SessionState) (message : List ℕ) (ask : Ask) → Hears old message ask new → Is500 ask new
    → IsOutOfMemory old message ask new
hears_500 old new message ask hears code = (hears_wanting old new message ask hears code).1

pub hears_may : (old new : SessionState) (message : List ℕ) (ask : Ask) → Hears old message ask new → Is500 ask new
    → MayRunOutOfMemory old message
hears_may old new message ask hears code = (hears_wanting old new message ask hears code).0

-- a request that begins a play at the station did not run out of memory
answer_never : {h : HeardMessage} (answer : Answer h) → NeverLacks (asked_by answer) (made_by answer)
answer_never (StartsPlay play planned asks planned_is) = λ rest.
    let its : IsOkAlone ((made_by (StartsPlay play planned asks planned_is)).text ++ rest) =
    ok_alone _ (ok_code (Some play.taken.request.sequence) _ rest) in
    its.found
answer_never (HaltsPlay taken hand is) = grind (arith, ok_text)
answer_never (StopsPlay taken hand is) = grind (arith, ok_text)
answer_never _ = tt

pub hears_never : (old new : SessionState) (message : List ℕ) (ask : Ask) → Hears old message ask new
    → NeverLacks ask new
hears_never old new message ask hears =
    let answer = answer_to (heard_by hears) in by_answer NeverLacks answer (answer_never answer)
