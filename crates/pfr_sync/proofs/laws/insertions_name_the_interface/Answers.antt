use Rattle.pfr_sync.proofs.FieldLemmas as lemmas
use Rattle.pfr_sync.proofs.laws.insertions_name_the_interface.Goals as goal

pub returns : goal.returns
returns c = lemmas.insertions_name_the_interface
