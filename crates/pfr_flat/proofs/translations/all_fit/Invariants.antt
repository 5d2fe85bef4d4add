use Rattle.std.proofs.Common.{◌≡◌, drop}
use Rattle.pfr_flat.specs.Translations as spec
use Rattle.pfr_flat.proofs.translations.all_fit.Given as goal

abbrev pub invariant-loop-choice : goal.invariant-loop-choice
invariant-loop-choice l = spec.all_fit l.first (drop l.choice-index l.ports) ≡ spec.all_fit l.first l.ports
