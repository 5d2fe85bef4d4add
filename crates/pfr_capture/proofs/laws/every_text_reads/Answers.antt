use Rattle.pfr_capture.proofs.LawLemmas.{every_capture}
use Rattle.pfr_capture.proofs.laws.every_text_reads.Goals as goal

pub returns : goal.returns
returns c = every_capture
