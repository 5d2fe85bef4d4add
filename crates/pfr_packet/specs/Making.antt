-- Packets that make a state.
use Rattle.std.specs.Prelude.{Bool, true, false, Option, Some, None}
use Rattle.pfr_headers.specs.declared.packet.Packet.{Packet}
use Rattle.pfr_track.specs.declared.state.State.{State}
use Rattle.pfr_states.specs.declared.change.Side.TheVariants.{Wire, Stack}
use Rattle.pfr_states.specs.declared.change.TableChange.TheVariants.{Made}
use Rattle.pfr_packet.specs.declared.outcome.Outcome.{Outcome}
use Rattle.pfr_packet.specs.declared.verdict.Reason.TheVariants.{StateInsert, StateLimit}
use Rattle.pfr_packet.specs.Keys.{written_by}
use Rattle.pfr_packet.specs.Outcomes.{blocked}
use Rattle.pfr_packet.specs.Plan.{Plan, done, ask_at, ask_room}

-- the outcome of a packet that passes, with the state that it makes
abbrev pub with_made : Packet → State → Outcome → Outcome
with_made packet state outcome =
    record outcome { state = Some state.number; bytes = written_by state.direction packet state.wire state.stack; change = Some (Made state) }

-- both keys are free: is there room?
abbrev pub with_room : Packet → State → Outcome → Bool → Plan
with_room packet state outcome true = done (with_made packet state outcome)
with_room packet state outcome false = done (blocked StateLimit outcome)

-- by the states that have the keys
abbrev pub with_keys : Packet → State → Outcome → Option State → Option State → Plan
with_keys packet state outcome None None = ask_room (with_room packet state outcome)
with_keys packet state outcome None (Some other) = done (blocked StateInsert outcome)
with_keys packet state outcome (Some other) stack = done (blocked StateInsert outcome)

-- the table is asked for both keys, on the interfaces to which the state is bound, and then for room
abbrev pub making : Packet → State → Outcome → Plan
making packet state outcome =
    ask_at Wire state.wire state.rules.binding (λ wire. ask_at Stack state.stack state.rules.binding (λ stack. with_keys packet state outcome wire stack))
