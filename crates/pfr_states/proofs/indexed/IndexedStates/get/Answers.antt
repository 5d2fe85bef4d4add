use Rattle.std.proofs.Common.{◌∙◌, ap, sym}
use Rattle.std.specs.Option.{option_copied}
use Rattle.pfr_states.proofs.IndexedLemmas.{number_answer, state_in}
use Rattle.pfr_states.proofs.KeyedInvariants.{rise_states}
use Rattle.pfr_states.proofs.indexed.IndexedStates.get.Goals as goal

pub returns-in-Some-clause-state : goal.returns-in-Some-clause-state
returns-in-Some-clause-state c = rw (← c.self.view_is) (ap (λ r. state_in (option_copied r)) (sym c.in-Some.is) ∙ number_answer c.args.number c.self.inside.keyed (option_copied c.of_number.result) c.of_number.ensures.states.by_number c.of_number.ensures.stored)

pub returns-in-None-clause-state : goal.returns-in-None-clause-state
returns-in-None-clause-state c = rw (← c.self.view_is) (ap (λ r. state_in (option_copied r)) (sym c.in-None.is) ∙ number_answer c.args.number c.self.inside.keyed (option_copied c.of_number.result) c.of_number.ensures.states.by_number c.of_number.ensures.stored)

pub returns-in-Some-clause-in_order : goal.returns-in-Some-clause-in_order
returns-in-Some-clause-in_order c = rw (← c.self.view_is) (rise_states c.self.inside.keyed c.of_number.ensures.states.by_number c.of_number.ensures.states.in_order)

pub returns-in-None-clause-in_order : goal.returns-in-None-clause-in_order
returns-in-None-clause-in_order c = rw (← c.self.view_is) (rise_states c.self.inside.keyed c.of_number.ensures.states.by_number c.of_number.ensures.states.in_order)
