use Rattle.std.proofs.Common.{◌≡◌, ◌++◌, take, flat_map}
use Rattle.day_script.specs.LineTexts.{tried_text}
use Rattle.day_script.proofs.line_texts.push_all_tried.Given as goal

abbrev pub invariant-loop-start : goal.invariant-loop-start
invariant-loop-start l = l.out.items ≡ l.initial.out.items ++ flat_map tried_text (take l.start-index l.tried)
