use Rattle.pfr_flat.proofs.Digits.{choices_at}
use Rattle.pfr_flat.proofs.laws.digits_of_a_place_are_its_choices.Goals as goal

pub returns : goal.returns
returns c = choices_at
