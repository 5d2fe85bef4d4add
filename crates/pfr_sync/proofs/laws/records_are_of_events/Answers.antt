use Rattle.pfr_sync.proofs.RecordLemmas as lemmas
use Rattle.pfr_sync.proofs.laws.records_are_of_events.Goals as goal

pub returns : goal.returns
returns c = lemmas.records_are_of_events
