use Rattle.pfr_merge.proofs.PlaceLemmas.{one_capture}
use Rattle.pfr_merge.proofs.laws.one_capture_is_its_merge.Goals as goal

pub returns : goal.returns
returns c = one_capture
