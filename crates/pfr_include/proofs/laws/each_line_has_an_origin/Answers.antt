use Rattle.pfr_include.proofs.CountLemmas.{each_is_counted}
use Rattle.pfr_include.proofs.laws.each_line_has_an_origin.Goals as goal

pub returns : goal.returns
returns c = each_is_counted
