use Rattle.std.proofs.Common.{◌∙◌, ◌+◌, ap, arith}
use Rattle.std.proofs.lemmas.List.{drop_all}
use Rattle.inputs.specs.Traces.{tokens_from}
use Rattle.inputs.proofs.TokenLemmas.{blanks_at, slice_from}
use Rattle.inputs.proofs.TraceWordLemmas.{begins_after}
use Rattle.inputs.proofs.traces.next_place.Goals as goal

pub returns-then-from-text : goal.returns-then-from-text
returns-then-from-text c =
    let text = c.args.text.now in
    let blanks = c.white_space_length.ensures in
    let same = slice_from text c.args.at in (
      omega arith,
      omega (arith, c.if-from-text.true),
      begins_after text c.args.at c.white_space_length.result blanks.next (omega (arith, c.if-from-text.true)),
      blanks_at text c.args.at c.white_space_length.result (rw (← same) blanks.within)
          (rw (← same) blanks.white_space),
    )

pub returns-else-from-text : goal.returns-else-from-text
returns-else-from-text c =
    let text = c.args.text.now in
    let blanks = c.white_space_length.ensures in
    let same = slice_from text c.args.at in
    blanks_at text c.args.at c.white_space_length.result (rw (← same) blanks.within) (rw (← same) blanks.white_space)
    ∙ ap (tokens_from (c.args.at + c.white_space_length.result))
    (drop_all (c.args.at + c.white_space_length.result) text (omega (arith, c.if-from-text.false)))
