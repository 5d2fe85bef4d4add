use Rattle.pfr_capture.proofs.LawLemmas.{one_capture}
use Rattle.pfr_capture.proofs.laws.one_reading.Goals as goal

pub returns : goal.returns
returns c = one_capture
