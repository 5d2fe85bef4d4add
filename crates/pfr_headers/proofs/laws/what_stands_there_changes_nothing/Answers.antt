use Rattle.pfr_headers.proofs.StandingLemmas.{frame_same}
use Rattle.pfr_headers.proofs.laws.what_stands_there_changes_nothing.Goals as goal

pub returns : goal.returns
returns c = frame_same
