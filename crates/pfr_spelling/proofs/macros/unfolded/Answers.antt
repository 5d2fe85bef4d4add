use Rattle.std.proofs.Common.{◌∙◌, ◌<◌, arith, drop, length}
use Rattle.std.proofs.lemmas.List.{drop-drop, length-drop}
use Rattle.pfr_marks.proofs.ListLemmas.{rest_is}
use Rattle.pfr_spelling.proofs.MacroLemmas.{one_byte}
use Rattle.pfr_spelling.proofs.macros.unfolded.Goals as goal

pub loop-at-preserved : goal.loop-at-preserved
loop-at-preserved c =
    let here = drop c.loop-at.at c.args.text.now in
    let some : 0 < length here = rw length-drop (omega arith) in
    let one = one_byte c.loop-at.made here some in
    rw (c.in_ok-push.ensures.pushed, c.first_unfolded.ensures, rest_is c.loop-at.at c.args.text.now, ← drop-drop 1 c.loop-at.at c.args.text.now) (one ∙ c.loop-at.invariant)
