use Rattle.pfr_include.proofs.ItselfLemmas.{nothing_to_splice}
use Rattle.pfr_include.proofs.laws.nothing_to_splice_changes_nothing.Goals as goal

pub returns : goal.returns
returns c = nothing_to_splice
