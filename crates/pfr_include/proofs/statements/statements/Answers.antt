use Rattle.std.proofs.Common.{◌∙◌, ◌<◌, arith, drop, length}
use Rattle.std.proofs.lemmas.List.{drop-drop, length-drop}
use Rattle.pfr_marks.proofs.ListLemmas.{rest_is}
use Rattle.pfr_include.proofs.StatementLemmas.{one_mark}
use Rattle.pfr_include.proofs.statements.statements.Goals as goal

pub loop-at-preserved : goal.loop-at-preserved
loop-at-preserved c =
    let here = drop c.loop-at.at c.args.marks.now in
    let some : 0 < length here = rw length-drop (omega arith) in
    let one = one_mark c.loop-at.found c.args.files.now c.loop-at.position here some in
    rw (c.in_ok-step.ensures, c.behind-position.ensures, rest_is c.loop-at.at c.args.marks.now, ← drop-drop 1 c.loop-at.at c.args.marks.now) (one ∙ c.loop-at.invariant)
