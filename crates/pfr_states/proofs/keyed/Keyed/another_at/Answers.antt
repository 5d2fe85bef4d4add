use Rattle.std.proofs.Common.{not}
use Rattle.std.proofs.lemmas.Bool.{and_parts}
use Rattle.pfr_net.specs.Interfaces.{meets}
use Rattle.pfr_states.specs.Indexed.{is_another}
use Rattle.pfr_states.specs.States.{is_found, is_number, is_same_key, key_on}
use Rattle.pfr_states.proofs.keyed.Keyed.another_at.Goals as goal

pub returns-clause-place : goal.returns-clause-place
returns-clause-place c =
    c.place_under.ensures.place (is_another c.args.number c.args.side c.args.key.now c.args.scope)
    (λ s other. (and_parts (is_same_key (key_on c.args.side s) c.args.key.now) (meets s.rules.binding c.args.scope) (and_parts (not (is_number c.args.number s)) (is_found c.args.side c.args.key.now c.args.scope s) other).1).0)
    (rw (← c.self.view_is) (λ place answer is. is.1))
