use Rattle.std.proofs.Common.{◌≡◌, ◌≤◌, ◌+◌, ◌++◌, drop, length}
use Rattle.std.specs.List.{filter}
use Rattle.pfr_given.specs.Entries as spec
use Rattle.pfr_given.proofs.entry.count_of.Given as goal

abbrev pub invariant-loop-entry : goal.invariant-loop-entry
invariant-loop-entry l =
    (l.count + length (filter (spec.is_for l.subject (l.word ++ l.suffix)) (drop l.entry-index l.given.entries)) ≡ length (filter (spec.is_for l.subject (l.word ++ l.suffix)) l.given.entries))
    × (l.count ≤ l.entry-index)
