use Rattle.pfr_faults.proofs.LawLemmas.{accepted_has_none, refused_has_one}
use Rattle.pfr_faults.proofs.laws.a_refused_text_has_faults.Goals as goal

pub returns-clause-accepted : goal.returns-clause-accepted
returns-clause-accepted c = accepted_has_none

pub returns-clause-refused : goal.returns-clause-refused
returns-clause-refused c = refused_has_one
