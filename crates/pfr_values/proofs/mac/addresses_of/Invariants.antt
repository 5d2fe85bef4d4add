use Rattle.std.proofs.Common.{◌≡◌, ◌++◌, drop}
use Rattle.pfr_values.specs.Macs.{addresses_of}
use Rattle.pfr_values.proofs.mac.addresses_of.Given as goal

abbrev pub invariant-loop-words : goal.invariant-loop-words
invariant-loop-words l = l.addresses ++ addresses_of l.macs (drop l.words-index l.captures) ≡ addresses_of l.macs l.captures
