use Rattle.std.proofs.Common.{◌≡◌, ◌∙◌, sym, ap, string_bytes, true, false}
use Rattle.cli_args.specs.Subcommands.{is_setting_of}
use Rattle.cli_args.proofs.KeyValueLemmas.{IsWordAt, all_more, all_fails}
use Rattle.cli_args.proofs.subcommands.are_settings_of.Goals as goal

pub returns-then-not-is_setting_of : goal.returns-then-not-is_setting_of
returns-then-not-is_setting_of c =
    let at : IsWordAt c.args.words.now c.loop-word.word-index c.word-item.result =
    record { inside = c.loop-word-test.true; is = c.word-item.is } in
    let fails : is_setting_of c.args.command (string_bytes c.word-item.result) ≡ false =
    ap (is_setting_of c.args.command) (sym c.as_str.ensures.value) ∙ sym (c.if-not-is_setting_of.ensures {u = tt}) in
    sym (all_fails (is_setting_of c.args.command) at fails)

pub loop-word-preserved : goal.loop-word-preserved
loop-word-preserved c =
    let at : IsWordAt c.args.words.now c.loop-word.word-index c.word-item.result =
    record { inside = c.loop-word-test.true; is = c.word-item.is } in
    let passes : is_setting_of c.args.command (string_bytes c.word-item.result) ≡ true =
    ap (is_setting_of c.args.command) (sym c.as_str.ensures.value) ∙ sym (c.if-not-is_setting_of.ensures {u = tt}) in
    all_more (is_setting_of c.args.command) at c.loop-word.invariant passes
