use Rattle.std.proofs.Common.{arith}
use Rattle.rtp_pack.specs.Packetization.{first_portion}
use Rattle.rtp_pack.proofs.PacketizationLemmas.{cuts-from, headers-uncut, long-ends, portions-cover, short-uncut}
use Rattle.rtp_pack.proofs.laws.law_packets_respect_slices.Goals as goal

pub returns : goal.returns
returns c = record {
  portions = λ from headers_end slices cuts some short cutting.
      portions-cover slices (first_portion from headers_end) cuts (some, short) cutting;
  headers = λ from headers_end slices cuts some short cutting.
      headers-uncut from headers_end cuts
      (cuts-from slices (first_portion from headers_end) cuts (omega (arith, some)) cutting);
  short_slices = λ from headers_end slices cuts some short cutting.
      short-uncut slices (first_portion from headers_end) cuts (omega (arith, some)) cutting;
  long_slices = λ from headers_end slices cuts some short cutting.
      long-ends slices (first_portion from headers_end) cuts cutting;
}
