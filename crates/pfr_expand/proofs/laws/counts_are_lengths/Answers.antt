use Rattle.pfr_expand.proofs.RulesetLemmas.{counts_of, most_of}
use Rattle.pfr_expand.proofs.laws.counts_are_lengths.Goals as goal

pub returns-clause-counted : goal.returns-clause-counted
returns-clause-counted c = counts_of

pub returns-clause-most : goal.returns-clause-most
returns-clause-most c = most_of
