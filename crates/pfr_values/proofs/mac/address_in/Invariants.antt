use Rattle.std.proofs.Common.{◌≡◌, drop}
use Rattle.pfr_values.specs.Macs.{address_in}
use Rattle.pfr_values.proofs.mac.address_in.Given as goal

abbrev pub invariant-loop-mac : goal.invariant-loop-mac
invariant-loop-mac l = address_in (drop l.mac-index l.macs) l.name ≡ address_in l.macs l.name
