use Rattle.pfr_report.proofs.EscapeLemmas.{run_further, runs_ended}
use Rattle.pfr_report.proofs.escape.append_text.Goals as goal

pub loop-chunk-preserved : goal.loop-chunk-preserved
loop-chunk-preserved c =
    let steps = c.in-Some.ensures.steps in
    run_further _ _ _ _ _ _ _ _ _ _ steps.0 steps.1 steps.3.0 steps.3.1 c.valid.ensures c.invalid.ensures
    c.in_ok-append_characters.ensures c.in_ok-append_replacements.ensures c.loop-chunk.invariant

pub returns : goal.returns
returns c = runs_ended _ _ _ c.in-None.ensures.steps.0 c.loop-chunk.invariant
