use Rattle.pfr_headers.proofs.VerifyingLemmas.{frame_verifies}
use Rattle.pfr_headers.proofs.laws.header_still_verifies.Goals as goal

pub returns : goal.returns
returns c = frame_verifies
