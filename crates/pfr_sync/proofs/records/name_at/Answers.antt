use Rattle.pfr_sync.proofs.NameLemmas.{no_letters_from}
use Rattle.pfr_sync.proofs.records.name_at.Goals as goal

pub returns-in-None-clause-fits : goal.returns-in-None-clause-fits
returns-in-None-clause-fits c = no_letters_from _ c.new.ensures
