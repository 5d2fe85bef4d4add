-- Behind the last turn, the chains go from the first place on.
use Rattle.std.proofs.Common.{arith, ◌≡◌, subst, ℕ}
use Rattle.pfr_chains.specs.Chains.{AreChainsFrom}
use Rattle.pfr_chains.proofs.chains.lead.Goals as goal

pub returns-clause-chains : goal.returns-clause-chains
returns-clause-chains c =
    let all : c.loop-place.place ≡ 0 = omega arith in
    subst (λ (place : ℕ). AreChainsFrom place c.args.keys.now c.loop-place.firsts c.loop-place.nexts) all c.loop-place.invariant.chains
