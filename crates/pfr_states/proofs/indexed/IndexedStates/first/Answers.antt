use Rattle.std.proofs.Common.{◌∙◌, ap, sym}
use Rattle.std.specs.Option.{option_copied}
use Rattle.pfr_states.proofs.IndexedLemmas.{first_answer, state_in}
use Rattle.pfr_states.proofs.indexed.IndexedStates.first.Goals as goal

pub returns-in-Some : goal.returns-in-Some
returns-in-Some c = rw (← c.self.view_is) (ap (λ r. state_in (option_copied r)) (sym c.in-Some.is) ∙ first_answer c.self.inside.keyed (option_copied c.first.result) c.first.ensures)

pub returns-in-None : goal.returns-in-None
returns-in-None c = rw (← c.self.view_is) (ap (λ r. state_in (option_copied r)) (sym c.in-None.is) ∙ first_answer c.self.inside.keyed (option_copied c.first.result) c.first.ensures)
