use Rattle.std.proofs.Common.{◌≡◌, ◌++◌, length}
use Rattle.std.specs.List.{slice_split}
use Rattle.day_script.specs.TextLines.{is_space, texts_at}
use Rattle.day_script.proofs.line_split.split_words.Given as goal

abbrev pub invariant-loop-word : goal.invariant-loop-word
invariant-loop-word l = texts_at l.words.items ++ slice_split is_space l.rest ≡ slice_split is_space l.line

abbrev pub decreases-loop-word : goal.decreases-loop-word
decreases-loop-word l = length l.rest
