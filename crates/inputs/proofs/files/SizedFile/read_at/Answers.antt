use Rattle.std.proofs.Common.{◌≤◌, ℕ, length, rules, sym, subst}
use Rattle.vod_base.specs.IoState.{IsRead, bytes_named}
use Rattle.inputs.proofs.ReadLemmas.{more_front}
use Rattle.inputs.proofs.files.SizedFile.read_at.Goals as goal

pub returns-in-Ok-clause-told : goal.returns-in-Ok-clause-told
returns-in-Ok-clause-told g c = λ held bytes told front long.
    let got : IsRead (bytes_named held c.args.self.name.now) (length bytes) c.in-Ok.count c.read.new.into =
    subst (λ (n : ℕ). IsRead (bytes_named held c.args.self.name.now) n c.in-Ok.count c.read.new.into) (sym long)
    ((c.in-Ok.ensures {u = tt}).bytes held told) in
    let fewer : c.min.result ≤ c.in-Ok.count = search rules in
    more_front (record {
      held = held;
      name = c.args.self.name.now;
      size = c.args.self.size;
      bytes = bytes;
      n = c.in-Ok.count;
      chunk = c.read.new.into;
      so_far = front;
      read = got;
    }) c.min.result fewer
