use Rattle.std.proofs.Common.{◌≡◌, ◌∙◌, sym, true, false, string_bytes}
use Rattle.std.specs.Str.{bytes_eq}
use Rattle.vod_base.proofs.FileSearch.{AtStored, stored_here, stored_after, stored_none}
use Rattle.vod_base.proofs.memory_libraries.first_named.Goals as goal
use Rattle.vod_base.proofs.memory_libraries.first_named.Goals.{After-as_str}

at-file : (c : After-as_str)
    → AtStored c.args.files.now c.loop-file_name.file_name-index c.loop-file_name-item.result
at-file c = record { inside = c.loop-file_name-test.true; is = c.loop-file_name-item.is }

pub returns-then-eq : goal.returns-then-eq
returns-then-eq c =
    let same : bytes_eq (string_bytes c.loop-file_name-item.result.0) c.args.name.now ≡ true =
    rw (← c.as_str.ensures.value) (sym (c.if-eq.ensures {u = tt})) in
    let here = stored_here c.args.name.now (at-file (goal.at.returns-then-eq c).After-as_str) same in
    rw c.as_slice.ensures.value (sym (c.loop-file_name.invariant ∙ here))

pub loop-file_name-preserved : goal.loop-file_name-preserved
loop-file_name-preserved c =
    let other : bytes_eq (string_bytes c.loop-file_name-item.result.0) c.args.name.now ≡ false =
    rw (← c.as_str.ensures.value) (sym (c.if-eq.ensures {u = tt})) in
    c.loop-file_name.invariant
    ∙ stored_after c.args.name.now (at-file (goal.at.loop-file_name-preserved c).After-as_str) other

pub returns : goal.returns
returns c =
    sym (c.loop-file_name.invariant
    ∙ stored_none c.args.files.now c.args.name.now c.loop-file_name.file_name-index c.loop-file_name-test.false)
