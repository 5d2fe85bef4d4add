-- One slot less is held if one held the entry.
use Rattle.std.proofs.Common.{◌≡◌, ◌∙◌, ◌++◌, arith, drop, length, take}
use Rattle.pfr_index.specs.Index.{Entry}
use Rattle.pfr_index.specs.Slots.{Leaves}
use Rattle.pfr_index.proofs.CountLemmas.{byte_is, written_back}
use Rattle.pfr_index.proofs.LeaveLemmas.{leaves_held, leaves_index, leaves_room, leaves_times}
use Rattle.pfr_index.proofs.index.Index.remove.Goals as goal

abbrev entry : goal.After-self-2-1 → Entry
entry c = record { hash = c.args.hash; place = c.args.place }

leaves : (c : goal.After-self-2-1) → Leaves c.self.inside.slots.items (entry c) c.leave-was_there.result c.leave-was_there.new.slots
leaves c = rw c.as_mut_slice.ensures.value at c.leave-was_there.ensures

back : (c : goal.After-self-2-1) → take c.self.inside.slots.len (c.leave-was_there.new.slots ++ drop (length c.leave-was_there.new.slots) c.self.inside.slots.items) ≡ c.leave-was_there.new.slots
back c = written_back c.self.inside.slots.items c.leave-was_there.new.slots c.self.inside.slots.len (omega (arith, c.leave-was_there.auto.slots, c.as_mut_slice.ensures.len)) (omega (arith, c.self.inside.slots.ok))

pub overflow_sub-self : goal.overflow_sub-self
overflow_sub-self c =
    omega (
      arith,
      c.from.ensures ∙ byte_is c.leave-was_there.result,
      c.self.invariant.held_is,
      leaves_held
          c.self.inside.slots.items
          (record { hash = c.args.hash; place = c.args.place })
          c.leave-was_there.result
          c.leave-was_there.new.slots
          (rw c.as_mut_slice.ensures.value at c.leave-was_there.ensures),
    )

pub invariant_of-self : goal.invariant_of-self
invariant_of-self c =
    rw
    (back c, c.from.ensures ∙ byte_is c.leave-was_there.result)
    (leaves_index c.self.inside.slots.items (entry c) c.leave-was_there.result c.leave-was_there.new.slots (leaves c) c.self.inside.held c.self.inside.free c.self.invariant)

pub returns-clause-room : goal.returns-clause-room
returns-clause-room c =
    rw
    (back c, ← c.self.view_is)
    (leaves_room c.self.inside.slots.items (entry c) c.leave-was_there.result c.leave-was_there.new.slots (leaves c))

pub returns-clause-times : goal.returns-clause-times
returns-clause-times c =
    rw
    (back c, ← c.self.view_is)
    (λ other. leaves_times c.self.inside.slots.items (entry c) c.leave-was_there.result c.leave-was_there.new.slots (leaves c) other)
