use Rattle.std.proofs.Common.{◌≡◌, codes, drop}
use Rattle.pfr_rewrite.specs.Antispoof as spec
use Rattle.pfr_rewrite.specs.declared.antispoof.Awaits.TheVariants as awaits
use Rattle.pfr_rewrite.proofs.antispoof.tail_of.Given as goal

abbrev pub invariant-loop-mark : goal.invariant-loop-mark
invariant-loop-mark l = spec.tail_from l.tail l.awaits (drop l.mark-index l.options) ≡ spec.tail_from (codes " to any") awaits.Option l.options
