use Rattle.std.proofs.Common.{◌≡◌, ◌∙◌, ◌<◌, ap, arith, drop, length, subst, sym, ◌+◌}
use Rattle.std.proofs.lemmas.List.{drop-drop, length-drop}
use Rattle.pfr_marks.proofs.ListLemmas.{rest_is}
use Rattle.pfr_spelling.specs.Targets.{lead_from, seen_at}
use Rattle.pfr_spelling.proofs.TargetLemmas.{one_mark}
use Rattle.pfr_spelling.proofs.targets.lead_len.Goals as goal

pub loop-at-preserved : goal.loop-at-preserved
loop-at-preserved c =
    let here = drop c.loop-at.at c.args.marks.now in
    let some : 0 < length here = rw length-drop (omega arith) in
    let seen : seen_at c.loop-at.passed here ≡ _ = ap (λ rest. seen_at c.loop-at.passed rest) (sym (rest_is c.loop-at.at c.args.marks.now)) ∙ sym c.see.ensures ∙ c.in-Nothing.is in
    subst (λ rest. lead_from (c.loop-at.at + 1) c.in-Nothing.more rest ≡ lead_from 0 0 c.args.marks.now) (drop-drop 1 c.loop-at.at c.args.marks.now)
    (one_mark c.loop-at.at c.loop-at.passed c.in-Nothing.more here some seen ∙ c.loop-at.invariant)
