use Rattle.pfr_remarks.proofs.OtherWords.{nothing_said}
use Rattle.pfr_remarks.proofs.laws.nothing_is_said_of_other_words.Goals as goal

pub returns : goal.returns
returns c = nothing_said
