use Rattle.std.proofs.Common.{◌++◌, take, sym, ap, ◌∙◌}
use Rattle.std.proofs.lemmas.Fmt.{decimal_digit}
use Rattle.rtsp_fields.proofs.seconds.put_digit.Goals as goal

pub returns-clause-text : goal.returns-clause-text
returns-clause-text c =
    c.put.ensures.text
    ∙ ap (λ t. take c.args.at c.args.into.now ++ t) (sym (decimal_digit c.args.digit c.requires.digit))
