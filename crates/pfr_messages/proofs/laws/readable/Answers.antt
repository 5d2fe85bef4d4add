use Rattle.pfr_messages.proofs.Whole.{one_reading}
use Rattle.pfr_messages.proofs.laws.readable.Goals as goal

pub returns : goal.returns
returns c = record { one = one_reading }
