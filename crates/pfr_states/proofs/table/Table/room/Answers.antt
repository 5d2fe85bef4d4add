use Rattle.std.proofs.Common.{◌≡◌, ◌≤◌, ◌<◌, ◌∙◌, Option, ap, is_some, length, arith}
use Rattle.std.proofs.lemmas.Bool.{lt-ltb}
use Rattle.pfr_track.specs.declared.state.State.{State}
use Rattle.pfr_states.specs.States.{StateTable, lives}
use Rattle.pfr_states.proofs.FilterLemmas.{room_full, room_left}
use Rattle.pfr_states.proofs.PurgeLemmas.{some_is_due}
use Rattle.pfr_states.proofs.table.Table.room.Goals as goal

pub returns-then-len-self : goal.returns-then-len-self
returns-then-len-self c =
    let counted = c.len.ensures.count in
    let size : length c.self.inside.states ≡ length c.args.self.now.states = ap (λ (t : StateTable). length t.states) c.self.view_is in
    let left : length c.self.inside.states < c.self.inside.limit = omega arith in
    rw (← c.self.view_is) (lt-ltb c.len.result c.self.inside.limit c.if-len-self.true ∙ room_left (lives c.args.clock) c.self.inside.states c.self.inside.limit left)

pub returns-else-len-self : goal.returns-else-len-self
returns-else-len-self c =
    let counted = c.len.ensures.count in
    let size : length c.self.inside.states ≡ length c.args.self.now.states = ap (λ (t : StateTable). length t.states) c.self.view_is in
    let full : c.self.inside.limit ≤ length c.self.inside.states = omega arith in
    rw (← c.self.view_is) (c.is_some.ensures ∙ ap (λ (r : Option State). is_some r) c.due.ensures.state ∙ some_is_due c.args.clock c.self.inside.states ∙ room_full (lives c.args.clock) c.self.inside.states c.self.inside.limit c.self.invariant.few full)
