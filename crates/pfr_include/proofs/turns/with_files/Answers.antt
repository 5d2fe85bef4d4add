use Rattle.std.proofs.Common.{◌≡◌, ◌∙◌, ap, arith, sym}
use Rattle.pfr_include.specs.Turns.{turns}
use Rattle.pfr_include.proofs.TurnLemmas.{all_turns, no_turn, no_turns, one_turn}
use Rattle.pfr_include.proofs.turns.with_files.Goals as goal

pub returns-in-None : goal.returns-in-None
returns-in-None c =
    sym (no_turn c.loop-left.left c.args.files.now c.loop-left.made (sym c.in_ok-next.ensures ∙ c.in-None.is))
    ∙ c.loop-left.invariant ∙ all_turns c.args.text.now c.args.files.now

pub loop-left-preserved : goal.loop-left-preserved
loop-left-preserved c =
    one_turn c.loop-left.left c.args.files.now c.loop-left.made c.in-Some.next c.loop-left-test.true (sym c.in_ok-next.ensures ∙ c.in-Some.is)
    ∙ c.loop-left.invariant

pub returns : goal.returns
returns c =
    let none : c.loop-left.left ≡ 0 = omega arith in
    sym (no_turns c.args.files.now c.loop-left.made) ∙ ap (λ left. turns left c.args.files.now c.loop-left.made) (sym none)
    ∙ c.loop-left.invariant ∙ all_turns c.args.text.now c.args.files.now
