use Rattle.std.proofs.Common.{◌≡◌, ◌+◌, drop}
use Rattle.std.specs.List.{position_or_len}
use Rattle.pfr_given.specs.Texts as spec
use Rattle.pfr_given.proofs.parts.part_len.Given as goal

abbrev pub invariant-loop-before : goal.invariant-loop-before
invariant-loop-before l = l.before + position_or_len (spec.ends l.part) (drop l.before l.text) ≡ position_or_len (spec.ends l.part) l.text
