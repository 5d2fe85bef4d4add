use Rattle.std.proofs.Common.{◌≡◌, ◌≤◌, ◌++◌, length}
use Rattle.pfr_given.specs.Services.{new_entries}
use Rattle.pfr_given.specs.Texts.{words}
use Rattle.pfr_given.proofs.entry.Given.add_aliases.Given as goal

abbrev pub invariant-loop-name : goal.invariant-loop-name
invariant-loop-name l =
    (l.self.entries ++ new_entries l.start l.self.entries (words l.rest) l.port ≡ l.fn.self.entries ++ new_entries l.start l.fn.self.entries (words l.names) l.port)
    × (l.start ≤ length l.self.entries)

abbrev pub decreases-loop-name : goal.decreases-loop-name
decreases-loop-name l = length l.rest
