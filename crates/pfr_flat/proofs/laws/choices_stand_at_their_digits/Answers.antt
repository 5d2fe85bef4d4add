use Rattle.pfr_flat.proofs.Digits.{combination_at}
use Rattle.pfr_flat.proofs.laws.choices_stand_at_their_digits.Goals as goal

pub returns : goal.returns
returns c = combination_at
