use Rattle.std.proofs.Common.{◌≡◌, ◌∙◌, arith, sym}
use Rattle.pfr_faults.specs.Faults.{faults_of}
use Rattle.pfr_faults.proofs.FaultLemmas.{last_fault, none_left, one_fault}
use Rattle.pfr_faults.proofs.faults.faults_of.Goals as goal

pub loop-left-preserved : goal.loop-left-preserved
loop-left-preserved c =
    rw (c.in_ok-find.ensures.found, c.in_ok-find.ensures.left)
    (one_fault c.loop-left.found c.loop-left.left c.loop-left.words c.args.interfaces.now c.loop-left-test.true
    (sym c.in_ok-find.ensures.more ∙ c.if-not-branch.false) ∙ c.loop-left.invariant)

pub returns-then-not-branch : goal.returns-then-not-branch
unfolding faults_of
returns-then-not-branch c =
    c.in_ok-find.ensures.found
    ∙ last_fault c.loop-left.found c.loop-left.left c.loop-left.words c.args.interfaces.now c.loop-left-test.true
    (sym c.in_ok-find.ensures.more ∙ c.if-not-branch.true)
    ∙ c.loop-left.invariant

pub returns : goal.returns
unfolding faults_of
returns c =
    let none : c.loop-left.left ≡ 0 = omega (arith, c.loop-left-test.false) in
    none_left c.loop-left.found c.loop-left.left c.loop-left.words c.args.interfaces.now _ none c.loop-left.invariant
