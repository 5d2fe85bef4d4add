use Rattle.std.proofs.Common.{[]}
use Rattle.pfr_ruleset.proofs.Joining.{none_placed, none_open}
use Rattle.pfr_ruleset.proofs.filter_rules.FilterRules.new.Goals as goal

pub invariant_of-result : goal.invariant_of-result
invariant_of-result c = rw (c.new.ensures, c.new-2.ensures, c.new-3.ensures.items) (none_placed [], none_open, λ aids is. absurd (cc (is)))
