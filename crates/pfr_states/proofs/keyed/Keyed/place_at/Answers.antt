use Rattle.std.proofs.lemmas.Bool.{and_parts}
use Rattle.pfr_net.specs.Interfaces.{meets}
use Rattle.pfr_states.specs.States.{is_found, is_same_key, key_on}
use Rattle.pfr_states.proofs.keyed.Keyed.place_at.Goals as goal

pub returns-clause-place : goal.returns-clause-place
returns-clause-place c =
    c.place_under.ensures.place (is_found c.args.side c.args.key.now c.args.scope) (λ s found. (and_parts (is_same_key (key_on c.args.side s) c.args.key.now) (meets s.rules.binding c.args.scope) found).0)
    (rw (← c.self.view_is) (λ place answer is. is.1))
