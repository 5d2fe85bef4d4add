use Rattle.std.proofs.Common.{◌∙◌, ap, sym}
use Rattle.std.specs.Option.{option_copied}
use Rattle.pfr_states.proofs.IndexedLemmas.{after_answer, state_in}
use Rattle.pfr_states.proofs.indexed.IndexedStates.after.Goals as goal

pub returns-in-Some : goal.returns-in-Some
returns-in-Some c = rw (← c.self.view_is) (ap (λ r. state_in (option_copied r)) (sym c.in-Some.is) ∙ after_answer c.args.number c.self.inside.keyed (option_copied c.after.result) c.after.ensures.states.by_number c.after.ensures.stored)

pub returns-in-None : goal.returns-in-None
returns-in-None c = rw (← c.self.view_is) (ap (λ r. state_in (option_copied r)) (sym c.in-None.is) ∙ after_answer c.args.number c.self.inside.keyed (option_copied c.after.result) c.after.ensures.states.by_number c.after.ensures.stored)
