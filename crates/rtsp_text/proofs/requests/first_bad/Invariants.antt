use Rattle.std.proofs.Common.{◌≡◌, ℕ, ◌<◌, [], drop, get_or}
use Rattle.rtsp_text.specs.Lines.{lines_before_empty, header_lines}
use Rattle.rtsp_text.specs.Grammar.{IsHeaderLine}
use Rattle.rtsp_text.proofs.requests.first_bad.Given as goal

abbrev pub invariant-loop-line : goal.invariant-loop-line
invariant-loop-line l = record {
  left : drop l.count (header_lines l.message) ≡ lines_before_empty l.line-iterator.rest.now;
  good : (k : ℕ) → k < l.count → IsHeaderLine (get_or (header_lines l.message) k []);
}
