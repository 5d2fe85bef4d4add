use Rattle.std.proofs.Common.{◌≡◌, ◌∙◌, ap, drop, subst, sym}
use Rattle.std.proofs.lemmas.List.{drop-drop}
use Rattle.pfr_marks.proofs.ListLemmas.{rest_is}
use Rattle.pfr_phrases.specs.Options.{all_left_out, seen_at}
use Rattle.pfr_phrases.proofs.OptionLemmas.{one_mark}
use Rattle.pfr_phrases.proofs.options.are_all_left_out.Goals as goal

pub loop-at-preserved : goal.loop-at-preserved
loop-at-preserved c =
    let seen : seen_at c.args.group c.loop-at.passed (drop c.loop-at.at c.args.marks.now) ≡ _ =
    ap (λ rest. seen_at c.args.group c.loop-at.passed rest) (sym (rest_is c.loop-at.at c.args.marks.now)) ∙ sym c.see.ensures ∙ c.in-LeftOut.is in
    subst (λ rest. all_left_out c.args.group c.in-LeftOut.more rest ≡ all_left_out c.args.group 0 c.args.marks.now) (drop-drop 1 c.loop-at.at c.args.marks.now)
    (one_mark c.args.group c.loop-at.passed c.in-LeftOut.more (drop c.loop-at.at c.args.marks.now) seen ∙ c.loop-at.invariant)
