use Rattle.std.proofs.Common.{◌≡◌, length}
use Rattle.pfr_files.proofs.captures.sources.Given as goal

abbrev pub invariant-loop-place : goal.invariant-loop-place
invariant-loop-place g l = length l.sources.items ≡ l.place
