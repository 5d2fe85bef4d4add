use Rattle.std.proofs.Common.{◌≡◌, ◌∙◌, List, sym, ap}
use Rattle.pfr_index.specs.Index.{Entry}
use Rattle.pfr_states.specs.Keyed.{times_on}
use Rattle.pfr_states.proofs.KeyedInvariants.{rise_states}
use Rattle.pfr_states.proofs.KeyedLemmas.{Held}
use Rattle.pfr_states.proofs.LeastLemmas.{least_number}
use Rattle.pfr_states.proofs.keyed.Keyed.least_at.Goals as goal

pub returns-clause-number : goal.returns-clause-number
returns-clause-number c =
    let are = c.self.invariant.states in
    let times = c.index_on-index.result.now.times in
    let by_key : (e : Entry) → times e ≡ times_on c.args.side c.self.inside.places e = λ e. c.index_on-index.ensures e ∙ ap (λ (all : List Held). times_on c.args.side all e) (sym c.self.view_is) in
    rw (← c.self.view_is) (least_number c.args.side c.args.key.now _ c.args.scope c.args.clock c.self.inside.places times c.hash_of.ensures by_key are.own_places (rise_states c.self.inside.places are.by_number are.in_order)
    _ (λ before place after is. is.1) _ c.fold_under-least.ensures)
