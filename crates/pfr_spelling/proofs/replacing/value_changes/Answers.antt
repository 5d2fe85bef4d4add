use Rattle.std.proofs.Common.{◌∙◌, ◌<◌, arith, drop, length}
use Rattle.std.proofs.lemmas.List.{drop-drop, length-drop}
use Rattle.pfr_marks.proofs.ListLemmas.{rest_is}
use Rattle.pfr_spelling.proofs.ValueLemmas.{one_mark}
use Rattle.pfr_spelling.proofs.replacing.value_changes.Goals as goal

pub loop-at-preserved : goal.loop-at-preserved
loop-at-preserved c =
    let here = drop c.loop-at.at c.args.marks.now in
    let some : 0 < length here = rw length-drop (omega arith) in
    let one = one_mark c.loop-at.changes c.args.given.now c.args.known.now c.loop-at.context c.loop-at.passed here some in
    rw (c.in_ok-passed.ensures.changes, c.in_ok-passed.ensures.passed, c.behind-context.ensures, rest_is c.loop-at.at c.args.marks.now, ← drop-drop 1 c.loop-at.at c.args.marks.now) (one ∙ c.loop-at.invariant)
