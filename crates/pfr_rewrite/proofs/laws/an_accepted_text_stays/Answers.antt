use Rattle.pfr_rewrite.proofs.AdaptLemmas.{accepted_stays, no_findings, same_text}
use Rattle.pfr_rewrite.proofs.laws.an_accepted_text_stays.Goals as goal

pub returns-clause-accepted : goal.returns-clause-accepted
returns-clause-accepted c = accepted_stays

pub returns-clause-same : goal.returns-clause-same
returns-clause-same c = λ text. (same_text text, no_findings text)
