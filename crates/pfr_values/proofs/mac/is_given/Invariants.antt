use Rattle.std.proofs.Common.{◌≡◌, drop}
use Rattle.std.specs.List.{list_any}
use Rattle.std.specs.Str.{bytes_eq}
use Rattle.pfr_values.specs.Macs.{names_of}
use Rattle.pfr_values.proofs.mac.is_given.Given as goal

abbrev pub invariant-loop-mac : goal.invariant-loop-mac
invariant-loop-mac l =
    list_any (λ other. bytes_eq other l.name) (names_of (drop l.mac-index l.macs))
    ≡ list_any (λ other. bytes_eq other l.name) (names_of l.macs)
