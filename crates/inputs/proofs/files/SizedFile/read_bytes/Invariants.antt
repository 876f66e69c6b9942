use Rattle.std.proofs.Common.{◌≡◌, ◌-◌, ◌<◌, ◌≤◌, List, Some, length, vec_len}
use Rattle.std.specs.Prelude.{option_map}
use Rattle.vod_base.specs.IoState.{File, file_named}
use Rattle.cli_errors.specs.ReadErrors.{IsReadOnly}
use Rattle.inputs.specs.FileReads.{IsFilePrefix}
use Rattle.inputs.proofs.files.SizedFile.read_bytes.Given as goal

abbrev pub invariant-loop-chunk : goal.invariant-loop-chunk
invariant-loop-chunk g l = record {
  library : IsReadOnly g.L.Library.files g.L.Library.faults l.fn.library l.library;
  room : 0 < vec_len l.chunk;
  within : vec_len l.bytes ≤ l.self.size;
  told : (held : List File) → g.L.Library.files l.fn.library ≡ Some held
      → Some l.self.size ≡ option_map length (file_named held l.self.name.now)
      → IsFilePrefix held l.self.name.now l.self.size l.bytes.items;
}

abbrev pub decreases-loop-chunk : goal.decreases-loop-chunk
decreases-loop-chunk g l = l.self.size - vec_len l.bytes
