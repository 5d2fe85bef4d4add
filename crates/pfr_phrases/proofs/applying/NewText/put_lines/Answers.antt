use Rattle.std.proofs.Common.{◌∙◌}
use Rattle.pfr_phrases.proofs.ApplyLemmas.{one_line}
use Rattle.pfr_phrases.proofs.applying.NewText.put_lines.Goals as goal

pub loop-left-preserved : goal.loop-left-preserved
loop-left-preserved c =
    rw (c.in_ok-put_line.ensures, c.next_line-last.ensures) (one_line c.loop-left.self c.loop-left.last c.loop-left.left c.loop-left-test.true ∙ c.loop-left.invariant)
