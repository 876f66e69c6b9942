use Rattle.std.proofs.Common.{◌∙◌, [], ap, refl, sym}
use Rattle.std.proofs.lemmas.List.{append-nil}
use Rattle.inputs.specs.Videos.{pack_in}
use Rattle.inputs.proofs.PackSearchLemmas.{open_none, open_plain}
use Rattle.inputs.proofs.pack_search.pack_in.Goals as goal

pub returns-in-Pack-clause-place : goal.returns-in-Pack-clause-place
returns-in-Pack-clause-place c =
    sym ((c.in-Pack.ensures {u = tt}).opening [] refl open_none []) ∙ ap pack_in (append-nil c.args.file.now)

pub returns-in-Other-clause-place : goal.returns-in-Other-clause-place
returns-in-Other-clause-place c =
    sym ((c.in-Other.ensures {u = tt}).opening [] refl open_none []) ∙ ap pack_in (append-nil c.args.file.now)

pub returns-in-NotYet-clause-place : goal.returns-in-NotYet-clause-place
returns-in-NotYet-clause-place c =
    sym (open_plain c.in-NotYet.field-0 c.args.file.now ((c.in-NotYet.ensures {u = tt}).opening [] refl open_none))
