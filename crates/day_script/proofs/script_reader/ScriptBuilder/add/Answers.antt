use Rattle.std.proofs.Common.{arith, sym, subst, ap, ◌∙◌, List, length}
use Rattle.day_script.specs.declared.scripts.Line.{Line}
use Rattle.day_script.specs.Scripts.{AreLines, latest_slot, AreClients}
use Rattle.day_script.proofs.ScriptLines.{clients-more, latest-push, lines-more}
use Rattle.day_script.proofs.script_reader.ScriptBuilder.add.Goals as goal

pub returns-clause-draft : goal.returns-clause-draft
returns-clause-draft c =
    let old = c.args.self.now in
    let e = c.in_ok-push.ensures.items in
    let A : List Line → Type 0 = λ l. AreLines (length old.roster.named.items) l in
    record {
      lines = subst A (sym e) (lines-more c.args.line (omega arith) c.requires.lines c.requires.stands);
      clients = subst AreClients (sym e) (clients-more c.args.line c.requires.clients c.requires.client);
      slot_is = c.requires.slot ∙ sym (latest-push old.lines.items c.args.line) ∙ sym (ap latest_slot e);
      roster = c.requires.roster;
    }
