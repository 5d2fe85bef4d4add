use Rattle.std.proofs.Common.{rules, ◌<◌, length, Some}
use Rattle.pfr_sync.proofs.CountLemmas.{exchanges_new, exchanges_over}
use Rattle.pfr_sync.proofs.edit.edit_of.Goals as goal

pub returns-then-state-get-clause-counts : goal.returns-then-state-get-clause-counts
returns-then-state-get-clause-counts c = exchanges_new c.args.entries.now c.place_of-place.result c.args.state.now (Some c.begun.result)

pub returns-else-state-get-clause-counts : goal.returns-else-state-get-clause-counts
returns-else-state-get-clause-counts c =
    let within : c.place_of-place.result < length c.args.entries.now = search rules in
    exchanges_over c.args.entries.now c.place_of-place.result c.args.state.now c.get-else-state-get.result.now c.followed.result within c.get-else-state-get.ensures
