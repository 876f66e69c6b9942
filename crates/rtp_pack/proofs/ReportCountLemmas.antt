-- The counts of a report, read at its bytes.
use Rattle.std.proofs.Common.{◌≡◌, ◌^◌, ◌<◌, ◌++◌}
use Rattle.byteorder.specs.Endian.{big_bytes}
use Rattle.byteorder.specs.Numbers.{big_number-reads_back}
use Rattle.rtp_pack.specs.declared.reports.Report.{Report}
use Rattle.rtp_pack.specs.Fields.{octets_sent, packets_sent}
use Rattle.rtp_pack.specs.Reports.{description_bytes, report_bytes}

pub packets-read : (report : Report) → report.packets < 2 ^ 32 → packets_sent (report_bytes report) ≡ report.packets
packets-read report small =
    big_number-reads_back 4 report.packets (big_bytes 4 report.octets ++ description_bytes report) small

pub octets-read : (report : Report) → report.octets < 2 ^ 32 → octets_sent (report_bytes report) ≡ report.octets
octets-read report small = big_number-reads_back 4 report.octets (description_bytes report) small
