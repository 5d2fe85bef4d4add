use Rattle.std.proofs.Common.{◌≡◌, ◌∙◌, ◌<◌, None, ap, arith, drop, length, sym}
use Rattle.std.proofs.lemmas.List.{drop-drop, length-drop}
use Rattle.pfr_marks.proofs.ListLemmas.{rest_is}
use Rattle.pfr_rewrite.specs.Unseen.{said_here}
use Rattle.pfr_rewrite.proofs.UnseenLemmas.{none_here}
use Rattle.pfr_rewrite.proofs.unseen.said_in.Goals as goal

pub loop-at-preserved : goal.loop-at-preserved
loop-at-preserved c =
    let rule = c.args.rule.now in
    let known = c.args.known.now in
    let here = drop c.loop-at.at rule in
    let some : 0 < length here = rw length-drop (omega arith) in
    let none : said_here known c.loop-at.left here ≡ None =
    ap (λ rest. said_here known c.loop-at.left rest) (sym (rest_is c.loop-at.at rule)) ∙ sym c.in_ok-finding.ensures ∙ c.in_default.is in
    rw (c.saturating_sub-left.ensures, c.value_len.ensures, rest_is c.loop-at.at rule, ← drop-drop 1 c.loop-at.at rule)
    (none_here known c.loop-at.left here some none ∙ c.loop-at.invariant)
