use Rattle.std.proofs.Common.{◌≡◌, ◌≤◌, ◌+◌, drop}
use Rattle.pfr_phrases.specs.Values as spec
use Rattle.pfr_phrases.proofs.values.count_of.Given as goal

abbrev pub invariant-loop-found : goal.invariant-loop-found
invariant-loop-found l = (l.count + spec.count_of l.byte (drop l.found-index l.text) ≡ spec.count_of l.byte l.text) × (l.count ≤ l.found-index)
