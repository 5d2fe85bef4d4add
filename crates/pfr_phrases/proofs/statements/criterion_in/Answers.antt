use Rattle.std.proofs.Common.{◌≡◌, ◌∙◌, None, ap, drop, subst, sym}
use Rattle.std.proofs.lemmas.List.{drop-drop}
use Rattle.pfr_marks.proofs.ListLemmas.{rest_is}
use Rattle.pfr_phrases.specs.Statements.{criterion_at, criterion_in}
use Rattle.pfr_phrases.proofs.StatementLemmas.{none_here}
use Rattle.pfr_phrases.proofs.statements.criterion_in.Goals as goal

pub loop-at-preserved : goal.loop-at-preserved
loop-at-preserved c =
    let none : criterion_at (drop c.loop-at.at c.args.rule.now) ≡ None =
    ap criterion_at (sym (rest_is c.loop-at.at c.args.rule.now)) ∙ sym c.criterion_at.ensures ∙ c.in_default.is in
    subst (λ rest. criterion_in rest ≡ criterion_in c.args.rule.now) (drop-drop 1 c.loop-at.at c.args.rule.now)
    (none_here (drop c.loop-at.at c.args.rule.now) none ∙ c.loop-at.invariant)
