use Rattle.std.proofs.Common.{◌≡◌, None, replicate}
use Rattle.pfr_commit.proofs.results.empty_places.Given as goal

abbrev pub invariant-loop-place : goal.invariant-loop-place
invariant-loop-place l = l.places.items ≡ replicate l._place None
