use Rattle.pfr_headers.proofs.ErrorLemmas.{frame_error}
use Rattle.pfr_headers.proofs.laws.what_is_written_is_the_translated_error.Goals as goal

pub returns : goal.returns
returns c = frame_error
