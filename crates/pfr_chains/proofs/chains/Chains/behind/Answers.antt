-- The chain rises at each step, and `place` stays on it.
use Rattle.std.proofs.Common.{arith, subst, ◌<◌, ℕ, List}
use Rattle.pfr_chains.proofs.ChainLemmas.{rises, on_along, on_behind}
use Rattle.pfr_chains.specs.Chains.{AreChainsFrom}
use Rattle.pfr_chains.proofs.chains.Chains.behind.Goals as goal

pub loop-to-smaller : goal.loop-to-smaller
loop-to-smaller c =
    let chains : AreChainsFrom 0 c.args.self.now c.self.inside.firsts.items c.self.inside.nexts.items =
    subst (λ (keys : List ℕ). AreChainsFrom 0 keys c.self.inside.firsts.items c.self.inside.nexts.items) c.self.view_is c.self.invariant.chains in
    let rise : c.loop-to.to < c.index.result.now = rises c.args.self.now c.self.inside.firsts.items c.self.inside.nexts.items c.loop-to.to c.index.result.now chains (omega arith) c.index.ensures in
    omega arith

pub loop-to-preserved : goal.loop-to-preserved
loop-to-preserved c = λ key low before next.
    let chains : AreChainsFrom 0 c.args.self.now c.self.inside.firsts.items c.self.inside.nexts.items =
    subst (λ (keys : List ℕ). AreChainsFrom 0 keys c.self.inside.firsts.items c.self.inside.nexts.items) c.self.view_is c.self.invariant.chains in
    on_along c.args.self.now c.self.inside.firsts.items c.self.inside.nexts.items key c.args.from c.loop-to.to c.index.result.now
    chains c.requires.within c.loop-to-test.true c.index.ensures (c.loop-to.invariant key low before next)

pub returns : goal.returns
returns c = λ key low before next. on_behind c.args.self.now key c.args.from c.loop-to.to (omega arith) (c.loop-to.invariant key low before next)
