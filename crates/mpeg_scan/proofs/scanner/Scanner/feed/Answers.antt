use Rattle.std.proofs.Common.{Err, refl, sym, ap, ◌∙◌, arith}
use Rattle.std.proofs.lemmas.Option.{none-some, same_Some}
use Rattle.std.specs.Result.{result_ok, result_err}
use Rattle.mpeg_scan.proofs.scanner.Scanner.feed.Goals as goal

pub returns-in-Ok : goal.returns-in-Ok
returns-in-Ok g c = record {
  kept = λ r k. record { progress = c.in-Ok.ensures.kept r k.progress; unrefused = c.in_default.is };
  heard = λ r calls k heard. c.in-Ok.ensures.heard r calls k.progress heard;
  fault = λ f e r k. absurd (none-some tt (sym (ap result_ok e)));
  heard_before = λ f e r calls k heard. absurd (none-some tt (sym (ap result_ok e)));
  refused = λ e is. absurd (none-some tt (sym (ap result_ok is)));
  again = λ e is. absurd (none-some e (sym c.in_default.is ∙ is));
  ready = λ none some. c.in-Ok.ensures.ready some;
  fed = c.take_bytes.ensures.fed;
}

pub returns-in-Err : goal.returns-in-Err
returns-in-Err g c = record {
  kept = tt;
  heard = tt;
  fault = λ f e r k. c.in-Err.ensures.fault f e r k.progress;
  heard_before = λ f e r calls k heard. c.in-Err.ensures.heard_before f e r calls k.progress heard;
  refused = λ e is. ap result_err is;
  again = λ e is. absurd (none-some e (sym c.in_default.is ∙ is));
  ready = λ none some. absurd (none-some c.in-Err.refused (sym none));
  fed = c.take_bytes.ensures.fed;
}

pub returns-in-Some : goal.returns-in-Some
returns-in-Some g c = record {
  kept = tt;
  heard = tt;
  fault = λ f e r k. absurd (none-some c.in-Some.refused (sym k.unrefused ∙ c.in-Some.is));
  heard_before = λ f e r calls k heard. absurd (none-some c.in-Some.refused (sym k.unrefused ∙ c.in-Some.is));
  refused = λ e is. c.in-Some.is ∙ ap result_err is;
  again = λ e is. (ap Err (same_Some c.in-Some.refused e (sym c.in-Some.is ∙ is)), refl, refl);
  ready = c.requires.ready;
  fed = omega arith;
}
