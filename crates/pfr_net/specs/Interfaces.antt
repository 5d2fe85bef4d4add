-- Interfaces: their names, and bindings to them (pf.conf(5), "state-policy").
use Rattle.std.specs.Prelude.{ℕ, ◌-◌, ◌==◌, Bool, true, min, List, ◌++◌, length, take}
use lib.ListN.{replicate}
use Rattle.pfr_net.specs.declared.interface.Binding.{Binding}
use Rattle.pfr_net.specs.declared.interface.Binding.TheVariants.{To}
use Rattle.pfr_net.specs.declared.interface.IfName.{IfName}

-- a name of at most 15 bytes, with zeros behind it
unfoldable pub if_name : List ℕ → IfName
if_name name = let len = min (length name) 15 in record { bytes = take len name ++ replicate (16 - len) 0 }

-- there is an interface that both bindings have
abbrev pub meets : Binding → Binding → Bool
meets (To place) (To other) = place.0 == other.0
meets _ _ = true
