use Rattle.std.proofs.Common.{◌∙◌, arith}
use Rattle.std.proofs.lemmas.Result.{MatchResult-weaker}
use Rattle.mpeg_scan.proofs.ScanBoundLemmas.{ahead-room, end-rated, end_judgement-sliced}
use Rattle.mpeg_scan.proofs.ScanStepLemmas.{refusal-empty, refusal-long, refusal-is, tally-ended}
use Rattle.mpeg_scan.proofs.progress.Progress.judge_film.Goals as goal

pub judge_end-requires-clause-room : goal.judge_end-requires-clause-room
judge_end-requires-clause-room c = ahead-room c.args.self.now c.requires

pub returns-then-self-eq0-clause-fault : goal.returns-then-self-eq0-clause-fault
returns-then-self-eq0-clause-fault c = λ r kept. refusal-empty c.args.self.now r c.if-self-eq0.true kept

pub returns-then-self-gt-MAX_FILM_BYTES-clause-fault : goal.returns-then-self-gt-MAX_FILM_BYTES-clause-fault
returns-then-self-gt-MAX_FILM_BYTES-clause-fault c =
    λ r kept. refusal-long c.args.self.now r c.if-self-gt-MAX_FILM_BYTES.true kept

pub returns-else-self-gt-MAX_FILM_BYTES : goal.returns-else-self-gt-MAX_FILM_BYTES
returns-else-self-gt-MAX_FILM_BYTES c =
    let film = c.args.self.now in
    let judged = c.judge_end.ensures in
    let short = c.if-self-gt-MAX_FILM_BYTES.false in record {
      tally = MatchResult-weaker c.judge_end.result judged (λ t h. h.1) (λ f h. tt);
      sliced = MatchResult-weaker c.judge_end.result judged
          (λ t h. end_judgement-sliced film.latest film.tally t film.fed h.0 h.1) (λ f h. tt);
      rated = MatchResult-weaker c.judge_end.result judged (λ t h. end-rated film t h.0 h.1 c.requires) (λ f h. tt);
      short = MatchResult-weaker c.judge_end.result judged (λ t h. short) (λ f h. tt);
      accepted = MatchResult-weaker c.judge_end.result judged
          (λ t h r kept. (refusal-is film r (omega arith) short kept ∙ h.0, h.1 ∙ tally-ended film r kept)) (λ f h. tt);
      fault = MatchResult-weaker c.judge_end.result judged (λ t h. tt)
          (λ f h r kept. refusal-is film r (omega arith) short kept ∙ h);
    }
