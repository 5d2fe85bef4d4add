-- What going through both parts of the slots comes to holds of all of them.
use Rattle.std.proofs.lemmas.List.{take_rest}
use Rattle.pfr_index.proofs.FoldLemmas.{whole_late, whole_round}
use Rattle.pfr_index.proofs.folding.fold_under.Goals as goal

pub returns-then-was_free : goal.returns-then-was_free
returns-then-was_free g c =
    whole_late
    (λ before place after. goal.F-post g c.args.step.now before place after)
    c.args.start
    c.args.hash
    c.args.slots.now
    c.home-home.result
    c.home-home.ensures.within
    c.requires.reached
    c.home-home.ensures.is
    c.fold-first.result.0
    (rw (take_rest c.args.slots.now c.home-home.result, c.if-was_free.true) at c.fold-first.ensures)

pub returns : goal.returns
returns g c =
    whole_round
    (λ before place after. goal.F-post g c.args.step.now before place after)
    c.args.start
    c.args.hash
    c.args.slots.now
    c.home-home.result
    c.home-home.ensures.within
    c.requires.reached
    c.home-home.ensures.is
    c.fold-first.result.0
    c.fold-last.result.0
    c.fold-last.result.1
    (rw (take_rest c.args.slots.now c.home-home.result, c.if-was_free.false) at c.fold-first.ensures)
    c.fold-last.ensures
