-- Lemmas by which bytes that are appended one after another go on as one list.
use Rattle.std.proofs.lemmas.List.{append_assoc}

pub ruleset appends = (append_assoc)
