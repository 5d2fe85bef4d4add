use Rattle.std.proofs.Common.{◌∙◌, ◌<◌, ◌≤◌, ◌+◌, arith, drop, length}
use Rattle.std.proofs.lemmas.List.{drop-drop, length-drop}
use Rattle.pfr_marks.proofs.ListLemmas.{rest_is}
use Rattle.pfr_rewrite.specs.Whole.{begin_at}
use Rattle.pfr_rewrite.proofs.WholeLemmas.{begins_there, begins_within, one_mark}
use Rattle.pfr_rewrite.proofs.whole.changes_of.Goals as goal

pub loop-at-preserved : goal.loop-at-preserved
loop-at-preserved c =
    let marks = c.args.marks.now in
    let at = c.loop-at.at in
    let begin = begin_at c.loop-at.context c.loop-at.begin at in
    let here = drop at marks in
    let some : 0 < length here = rw length-drop (omega arith) in
    let one = one_mark c.loop-at.changes c.args.given.now c.loop-at.known c.loop-at.context c.loop-at.passed (drop c.loop-at.begin marks) here some in
    let within : begin ≤ at + 1 = begins_within c.loop-at.context c.loop-at.begin at c.loop-at.invariant.1 in (
      rw (c.in_ok-passed.ensures.changes, c.in_ok-passed.ensures.passed, c.in_ok-go_behind.ensures, c.behind-context.ensures, c.begin_at-begin.ensures, rest_is at marks, rest_is begin marks, begins_there c.loop-at.context c.loop-at.begin at marks, ← drop-drop 1 at marks) (one ∙ c.loop-at.invariant.0),
      rw c.begin_at-begin.ensures within,
    )
