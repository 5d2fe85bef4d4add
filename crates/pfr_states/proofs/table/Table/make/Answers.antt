use Rattle.std.proofs.Common.{◌≡◌, ◌≤◌, ◌<◌, ◌∙◌, ap, sym, length, arith}
use Rattle.pfr_states.specs.States.{StateTable}
use Rattle.pfr_states.proofs.PutLemmas.{table_with}
use Rattle.pfr_states.proofs.RefusalLemmas.{made_taken, made_over, made_fits}
use Rattle.pfr_states.proofs.table.Table.make.Goals as goal

pub returns-then-shares_key-clause-refused : goal.returns-then-shares_key-clause-refused
returns-then-shares_key-clause-refused c = λ _. rw (← c.self.view_is) (made_taken c.args.state.now c.self.inside.limit c.self.inside.states (sym c.shares_key.ensures ∙ c.if-shares_key.true))

pub returns-then-len-self-clause-refused : goal.returns-then-len-self-clause-refused
returns-then-len-self-clause-refused c =
    let counted = c.len.ensures.count in
    let size : length c.self.inside.states ≡ length c.args.self.now.states = ap (λ (t : StateTable). length t.states) c.self.view_is in
    let full : c.self.inside.limit ≤ length c.self.inside.states = omega arith in
    λ _. rw (← c.self.view_is) (made_over c.args.state.now c.self.inside.limit c.self.inside.states (sym c.shares_key.ensures ∙ c.if-shares_key.false) full)

pub invariant_of-self-2 : goal.invariant_of-self-2
invariant_of-self-2 c =
    let counted = c.len.ensures.count in
    let size : length c.self.inside.states ≡ length c.args.self.now.states = ap (λ (t : StateTable). length t.states) c.self.view_is in
    let room : length c.self.inside.states < c.self.inside.limit = omega arith in
    rw c.in_ok-put.ensures.done (table_with c.args.state.now c.self.inside.states c.self.inside.limit (sym c.shares_key.ensures ∙ c.if-shares_key.false) room c.self.invariant)

pub returns-clause-allowed : goal.returns-clause-allowed
returns-clause-allowed c =
    let counted = c.len.ensures.count in
    let size : length c.self.inside.states ≡ length c.args.self.now.states = ap (λ (t : StateTable). length t.states) c.self.view_is in
    let room : length c.self.inside.states < c.self.inside.limit = omega arith in
    rw (← c.self.view_is) (made_fits c.args.state.now c.self.inside.limit c.self.inside.states (sym c.shares_key.ensures ∙ c.if-shares_key.false) room)
