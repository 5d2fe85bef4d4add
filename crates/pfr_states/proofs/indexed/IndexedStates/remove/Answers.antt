use Rattle.std.proofs.Common.{◌∙◌, List, ap, subst, sym}
use Rattle.pfr_states.specs.Awaited.{AreAwaited}
use Rattle.pfr_states.specs.Keyed.{states_of}
use Rattle.pfr_states.proofs.AwaitedLemmas.{awaited_less}
use Rattle.pfr_states.proofs.KeyedChanges.{states_without}
use Rattle.pfr_states.proofs.KeyedLemmas.{Held}
use Rattle.pfr_states.proofs.indexed.IndexedStates.remove.Goals as goal

pub invariant_of-self : goal.invariant_of-self
invariant_of-self c = subst (λ (xs : List Held). AreAwaited c.self.inside.deadlines.waits xs) (sym c.remove.ensures.states) (awaited_less c.args.number.0 c.self.inside.keyed c.self.inside.deadlines.waits c.self.invariant)

pub returns : goal.returns
returns c = rw (← c.self.view_is) (ap (λ (xs : List Held). states_of xs) c.remove.ensures.states ∙ states_without c.args.number c.self.inside.keyed c.remove.ensures.by_number)
