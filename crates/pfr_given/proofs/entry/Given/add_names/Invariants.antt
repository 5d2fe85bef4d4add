use Rattle.std.proofs.Common.{◌≡◌, ◌++◌, length}
use Rattle.pfr_given.specs.declared.entry.Subject.TheVariants as subject
use Rattle.pfr_given.specs.Entries.{entries_for}
use Rattle.pfr_given.specs.Texts.{words}
use Rattle.pfr_given.proofs.entry.Given.add_names.Given as goal

abbrev pub invariant-loop-name : goal.invariant-loop-name
invariant-loop-name l = l.self.entries ++ entries_for subject.Address (words l.rest) l.address ≡ l.fn.self.entries ++ entries_for subject.Address (words l.names) l.address

abbrev pub decreases-loop-name : goal.decreases-loop-name
decreases-loop-name l = length l.rest
