use Rattle.std.proofs.Common.{◌≡◌, take}
use Rattle.pfr_commit.specs.World as spec
use Rattle.pfr_commit.proofs.book.names_of.Given as goal

abbrev pub invariant-loop-interface : goal.invariant-loop-interface
invariant-loop-interface l = l.names.items ≡ spec.names_of (take l.interface-index l.interfaces)
