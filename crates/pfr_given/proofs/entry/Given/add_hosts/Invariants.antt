use Rattle.std.proofs.Common.{◌≡◌, ◌++◌, length}
use Rattle.pfr_given.specs.Files.{hosts}
use Rattle.pfr_given.proofs.entry.Given.add_hosts.Given as goal

abbrev pub invariant-loop-rest : goal.invariant-loop-rest
invariant-loop-rest l = l.self.entries ++ hosts l.rest ≡ l.fn.self.entries ++ hosts l.text

abbrev pub decreases-loop-rest : goal.decreases-loop-rest
decreases-loop-rest l = length l.rest
