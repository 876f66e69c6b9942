-- For which requests of a connection memory may run out.
use Rattle.std.proofs.lemmas.Grind.{common_steps}
use Rattle.std.proofs.Common.{◌≡◌, get_or, ap, inl, inr, arith}
use Rattle.std.specs.Fmt.{digits}
use Rattle.connection_laws.proofs.Terms.{Ask, SessionState, Outcome}
use Rattle.rtsp_text.specs.Replies.{reply_front, reply_text, status_line}
use Rattle.session.specs.Laws.{Is500, NeverLacks}
use Rattle.session.specs.RequestEffects.{HasCode}
use Rattle.session.proofs.ReplyCodeLemmas.{hears_may, hears_never}
use Rattle.connection_laws.proofs.PlayRuns.{looks_used}
use Rattle.conn.proofs.StationAnswers.{AnswersAs, NoneAsked, PlayAdmitted, PlayOverflowed, PlayFull, PlayHalted}
use Rattle.conn.proofs.StationAnswers.{LookMade, LookFull, OfferMade, answers_as}
use Rattle.connection_laws.proofs.laws.law_first_looks_of_a_connection_find_memory.Goals as goal

-- what an answer of the station's makes of a session has another code; so the session itself answered it
own_code : {asking new : SessionState} {ask : Ask} {outcome : Outcome} → AnswersAs asking ask outcome new
    → NeverLacks ask asking → HasCode 500 new.text → Is500 ask asking
unfolding reply_text reply_front status_line digits
own_code NoneAsked never code = code
own_code {asking} (PlayAdmitted {start = start} entry answered) never code = grind (arith, common_steps)
own_code (PlayOverflowed entry) never code = let first : 52 ≡ 53 = ap (λ l. get_or l 0 0) code in omega (arith, first)
own_code (PlayFull more) never code = let last : 51 ≡ 48 = ap (λ l. get_or l 2 0) code in omega (arith, last)
own_code (PlayHalted entry) never code = absurd (never code)
own_code (LookMade looked) never code = let first : 50 ≡ 53 = ap (λ l. get_or l 0 0) code in omega (arith, first)
own_code LookFull never code = let last : 51 ≡ 48 = ap (λ l. get_or l 2 0) code in omega (arith, last)
own_code OfferMade never code = let first : 50 ≡ 53 = ap (λ l. get_or l 0 0) code in omega (arith, first)

pub returns : goal.returns
returns c = λ course message outcome new heard is.
    let own : Is500 heard.ask heard.asking = search (own_code, answers_as, hears_never) in
    elim (hears_may course.last.session heard.asking message heard.ask heard.hears own) [
      | inl play ↦ inl play
      | inr (inl offer) ↦ inr (inl offer)
      | inr (inr look) ↦ inr (inr (look.look, looks_used course look.none))
    ]
