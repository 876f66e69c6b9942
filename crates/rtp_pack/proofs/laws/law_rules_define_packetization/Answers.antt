use Rattle.rtp_pack.proofs.RuleUniquenessLemmas.{cutting-meets, meets-cutting, one-meets, some-meets}
use Rattle.rtp_pack.proofs.laws.law_rules_define_packetization.Goals as goal

pub returns : goal.returns
returns c = record {
  some = λ from headers_end slices some short have.
      some-meets (record { some = some; short = short; have = have });
  one = λ from headers_end slices one other a b. one-meets from headers_end slices one other (a, b);
  meets = λ from headers_end slices cuts some short have.
      cutting-meets cuts (record { some = some; short = short; have = have });
  cutting = λ from headers_end slices cuts some short have.
      meets-cutting cuts (record { some = some; short = short; have = have });
}
