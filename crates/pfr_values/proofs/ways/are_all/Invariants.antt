use Rattle.std.proofs.Common.{◌≡◌, drop}
use Rattle.pfr_values.specs.Macs.{all_known}
use Rattle.pfr_values.proofs.ways.are_all.Given as goal

abbrev pub invariant-loop-address : goal.invariant-loop-address
invariant-loop-address l = all_known (drop l.address-index l.link_addresses) ≡ all_known l.link_addresses
