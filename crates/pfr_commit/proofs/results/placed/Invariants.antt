use Rattle.std.proofs.Common.{◌≡◌, length, take}
use Rattle.pfr_commit.specs.Results.{ArePlaced, results_of}
use Rattle.pfr_commit.proofs.results.placed.Given as goal

abbrev pub invariant-loop-index : goal.invariant-loop-index
invariant-loop-index l = (length l.places.items ≡ l.fn.count) × ArePlaced (results_of (take l.index l.groups)) l.fn.first l.places.items
