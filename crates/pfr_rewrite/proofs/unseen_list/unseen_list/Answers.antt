use Rattle.std.proofs.Common.{◌≡◌, ◌∙◌, ◌<◌, ap, arith, drop, length, sym}
use Rattle.std.proofs.lemmas.List.{drop-drop, length-drop}
use Rattle.pfr_marks.proofs.ListLemmas.{rest_is}
use Rattle.pfr_rewrite.specs.UnseenLists.{list_step}
use Rattle.pfr_rewrite.specs.declared.unseen_list.Step.TheVariants as step
use Rattle.pfr_rewrite.proofs.UnseenListLemmas.{ends_here, goes_here}
use Rattle.pfr_rewrite.proofs.unseen_list.unseen_list.Goals as goal

pub returns-in-Ends : goal.returns-in-Ends
returns-in-Ends c =
    let marks = c.args.marks.now in
    let known = c.args.known.now in
    let here = drop c.loop-at.at marks in
    let some : 0 < length here = rw length-drop (omega arith) in
    let is : list_step known c.loop-at.seen here ≡ step.Ends c.in-Ends.reason =
    ap (λ rest. list_step known c.loop-at.seen rest) (sym (rest_is c.loop-at.at marks)) ∙ sym c.in_ok-next.ensures ∙ c.in-Ends.is in
    ends_here known c.loop-at.seen c.in-Ends.reason here some is ∙ c.loop-at.invariant

pub loop-at-preserved : goal.loop-at-preserved
loop-at-preserved c =
    let marks = c.args.marks.now in
    let known = c.args.known.now in
    let here = drop c.loop-at.at marks in
    let some : 0 < length here = rw length-drop (omega arith) in
    let is : list_step known c.loop-at.seen here ≡ step.Goes c.in-Goes.next =
    ap (λ rest. list_step known c.loop-at.seen rest) (sym (rest_is c.loop-at.at marks)) ∙ sym c.in_ok-next.ensures ∙ c.in-Goes.is in
    rw (← drop-drop 1 c.loop-at.at marks) (goes_here known c.loop-at.seen c.in-Goes.next here some is ∙ c.loop-at.invariant)
