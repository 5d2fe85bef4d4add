use Rattle.pfr_rewrite.proofs.LineLawLemmas.{is_lined}
use Rattle.pfr_rewrite.proofs.laws.each_line_has_its_line.Goals as goal

pub returns : goal.returns
returns c = is_lined
