use Rattle.std.proofs.Common.{◌≡◌, ◌≢◌, List, ℕ, ◌++◌, length, get_or, drop, sym, ap, subst, ◌∙◌, arith}
use Rattle.std.proofs.lemmas.Bool.{both_ways}
use Rattle.std.proofs.lemmas.List.{take-append-drop, length-drop}
use Rattle.rtsp_text.proofs.CutUniqueness.{is_other, other_is}
use Rattle.rtsp_text.proofs.LineWords.{rtsp_url, url_parts}
use Rattle.rtsp_text.proofs.grammar.is_rtsp_url.Goals as goal

pub returns-then-is_scheme : goal.returns-then-is_scheme
returns-then-is_scheme c =
    let url = c.args.url.now in
    let scheme = c.split_at.result.0.now in
    let rest = c.split_at.result.1.now in
    let front = c.split_at.ensures.front in
    let back = c.split_at.ensures.back in
    let parts : url ≡ scheme ++ rest =
    sym (take-append-drop 7 url) ∙ ap (λ l. l ++ drop 7 url) (sym front) ∙ ap (λ l. scheme ++ l) (sym back) in
    let P : List ℕ → Type 0 = λ l. get_or l 0 0 ≢ 47 in (
      λ h. rtsp_url url scheme rest parts (record {
        scheme_is = c.is_scheme.ensures.0 c.if-is_scheme.true;
        some = omega
            (arith, ap length back, length-drop 7 url);
        no_slash = is_other (get_or rest 0 0) 47 h;
      }),
      λ u. other_is (get_or rest 0 0) 47 (subst P (sym back) (url_parts url u).no_slash),
    )

pub returns-else-is_scheme : goal.returns-else-is_scheme
returns-else-is_scheme c = (
  λ h. absurd (both_ways c.is_scheme.result c.if-is_scheme.false h),
  λ u. c.is_scheme.ensures.1 (rw c.split_at.ensures.front (url_parts c.args.url.now u).scheme_is),
)
