use Rattle.std.proofs.Common.{◌≡◌, map, drop}
use Rattle.vod_base.specs.IoState.{file_named}
use Rattle.vod_base.proofs.FileSearch.{file_of}
use Rattle.vod_base.proofs.memory_libraries.first_named.Given as goal

abbrev pub invariant-loop-file_name : goal.invariant-loop-file_name
invariant-loop-file_name l =
    file_named (map file_of l.files) l.name ≡ file_named (drop l.file_name-index (map file_of l.files)) l.name
