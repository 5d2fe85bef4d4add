use Rattle.std.proofs.Common.{◌≡◌, drop, map}
use Rattle.pfr_command.specs.Shows.{has}
use Rattle.pfr_command.proofs.show.has.Given as goal

abbrev pub invariant-loop-other : goal.invariant-loop-other
invariant-loop-other l = has (map (λ w. w.now) (drop l.other-index l.words)) l.word ≡ has (map (λ w. w.now) l.words) l.word
