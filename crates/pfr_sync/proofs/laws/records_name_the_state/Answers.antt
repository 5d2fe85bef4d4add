use Rattle.pfr_sync.proofs.FieldLemmas as lemmas
use Rattle.pfr_sync.proofs.laws.records_name_the_state.Goals as goal

pub returns-clause-insertions : goal.returns-clause-insertions
returns-clause-insertions c = lemmas.insertions_name_the_state

pub returns-clause-updates : goal.returns-clause-updates
returns-clause-updates c = lemmas.updates_name_the_state

pub returns-clause-deletions : goal.returns-clause-deletions
returns-clause-deletions c = lemmas.deletions_name_the_state
