use Rattle.std.proofs.Common.{take, sym, ap, ◌∙◌}
use Rattle.std.proofs.lemmas.List.Sums.{fold_more}
use Rattle.pfr_standby.specs.Standby.{Standing, with_insertion}
use Rattle.pfr_standby.proofs.MapLemmas.{taken_out, without_all}
use Rattle.pfr_standby.proofs.changes.insert_all.Goals as goal

pub loop-count-preserved : goal.loop-count-preserved
loop-count-preserved c =
    rw (c.in-Ok.ensures.entries, c.of.ensures, c.loop-count.invariant)
    (sym (fold_more with_insertion c.args.states.now.entries c.args.insertions.now c.loop-count.count _ c.loop-count-test.true))

pub returns-in-Err-clause-kept : goal.returns-in-Err-clause-kept
returns-in-Err-clause-kept c =
    let insertions = c.args.insertions.now in
    let count = c.loop-count.count in
    c.remove_inserted.ensures
    ∙ ap (λ (states : Standing). without_all states (take count insertions)) (c.in-Err.ensures.err ∙ c.loop-count.invariant)
    ∙ taken_out count insertions c.args.states.now.entries c.requires
