use Rattle.std.proofs.Common.{◌≡◌, ◌≤◌, ◌++◌, drop, length}
use Rattle.pfr_given.specs.Services.{services, services_behind, services_in, words_of}
use Rattle.pfr_given.proofs.entry.Given.add_services.Given as goal

abbrev pub invariant-loop-rest : goal.invariant-loop-rest
invariant-loop-rest l =
    (l.self.entries ++ services_behind l.group.port (words_of (drop l.group.start l.self.entries)) (services_in l.rest) ≡ l.fn.self.entries ++ services l.text)
    × (l.group.start ≤ length l.self.entries)

abbrev pub decreases-loop-rest : goal.decreases-loop-rest
decreases-loop-rest l = length l.rest
