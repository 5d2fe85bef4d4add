use Rattle.pfr_commit.proofs.TapLemmas.{run_same}
use Rattle.pfr_commit.proofs.laws.the_tap_changes_no_run_without_translation.Goals as goal

pub returns : goal.returns
returns c =
    run_same c.every_change_is_of_the_named_state.ensures c.the_tap_changes_nothing_without_translation.ensures.made c.the_tap_changes_nothing_without_translation.ensures.same
