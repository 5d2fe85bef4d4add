use Rattle.std.proofs.Common.{◌≡◌, drop}
use Rattle.pfr_elements.specs.Interfaces as spec
use Rattle.pfr_elements.proofs.interface.first_form.Given as goal

abbrev pub invariant-loop-interface : goal.invariant-loop-interface
invariant-loop-interface l = spec.first_form l.interfaces l.word ≡ spec.first_form (drop l.interface-index l.interfaces) l.word
