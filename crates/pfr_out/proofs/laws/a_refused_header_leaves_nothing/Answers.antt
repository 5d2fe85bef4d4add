use Rattle.pfr_out.proofs.BeginningLemmas.{nothing_behind_a_refusal}
use Rattle.pfr_out.proofs.laws.a_refused_header_leaves_nothing.Goals as goal

pub returns : goal.returns
returns c = nothing_behind_a_refusal
