use Rattle.std.proofs.Common.{◌≡◌, drop, map}
use Rattle.pfr_words.specs.Names as spec
use Rattle.pfr_words.proofs.names.entry_of.Given as goal

abbrev pub invariant-loop-entry : goal.invariant-loop-entry
invariant-loop-entry g l = spec.entry_of (map (λ e. (e.0.now, e.1)) (drop l.entry-index l.table)) l.word ≡ spec.entry_of (map (λ e. (e.0.now, e.1)) l.table) l.word
