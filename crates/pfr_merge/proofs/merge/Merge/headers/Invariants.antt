use Rattle.std.proofs.Common.{◌≡◌, map, take}
use Rattle.pfr_merge.specs.MergeReading.{header_in}
use Rattle.pfr_merge.proofs.merge.Merge.headers.Given as goal

abbrev pub invariant-loop-input : goal.invariant-loop-input
invariant-loop-input l = l.headers.items ≡ map header_in (take l.input-index l.input-items)
