-- One slot more is held, and one slot less is free if the new entry's slot was.
use Rattle.std.proofs.Common.{◌≡◌, ◌∙◌, ◌++◌, arith, drop, length, take, true}
use Rattle.std.proofs.lemmas.Bool.{lt-ltb}
use Rattle.pfr_index.specs.declared.slot.Slot.{Slot}
use Rattle.pfr_index.specs.Index.{places}
use Rattle.pfr_index.specs.Slots.{IsPut, is_held}
use Rattle.pfr_index.proofs.CountLemmas.{byte_is, free_put, index_put, room_put, times_put, written_back}
use Rattle.pfr_index.proofs.index.Index.insert.Goals as goal

abbrev slot : goal.After-self-3-1 → Slot
slot c = record { hash = c.args.hash; place = c.args.place }

put : (c : goal.After-self-3-1) → IsPut c.self.inside.slots.items (slot c) c.put-was_free.result c.put-was_free.new.slots
put c = rw c.as_mut_slice.ensures.value at c.put-was_free.ensures

held : (c : goal.After-self-3-1) → is_held (slot c) ≡ true
held c = lt-ltb c.args.place.0 places c.requires.place

back : (c : goal.After-self-3-1) → take c.self.inside.slots.len (c.put-was_free.new.slots ++ drop (length c.put-was_free.new.slots) c.self.inside.slots.items) ≡ c.put-was_free.new.slots
back c = written_back c.self.inside.slots.items c.put-was_free.new.slots c.self.inside.slots.len (omega (arith, c.put-was_free.auto.slots, c.as_mut_slice.ensures.len)) (omega (arith, c.self.inside.slots.ok))

pub overflow_sub-self : goal.overflow_sub-self
overflow_sub-self c =
    omega (
      arith,
      c.from.ensures ∙ byte_is c.put-was_free.result,
      c.self.invariant.free_is,
      free_put
          c.self.inside.slots.items
          (record { hash = c.args.hash; place = c.args.place })
          c.put-was_free.result
          c.put-was_free.new.slots
          (rw c.as_mut_slice.ensures.value at c.put-was_free.ensures)
          (lt-ltb c.args.place.0 places c.requires.place),
    )

pub invariant_of-self : goal.invariant_of-self
invariant_of-self c =
    rw
    (back c, c.from.ensures ∙ byte_is c.put-was_free.result)
    (index_put c.self.inside.slots.items (slot c) c.put-was_free.result c.put-was_free.new.slots (put c) (held c) c.self.inside.held c.self.inside.free c.self.invariant)

pub returns-clause-times : goal.returns-clause-times
returns-clause-times c =
    rw
    (back c, ← c.self.view_is)
    (λ entry. times_put c.self.inside.slots.items (slot c) c.put-was_free.result c.put-was_free.new.slots (put c) (held c) entry)

pub returns-clause-room : goal.returns-clause-room
returns-clause-room c =
    rw
    (back c, ← c.self.view_is)
    (room_put c.self.inside.slots.items (slot c) c.put-was_free.result c.put-was_free.new.slots (put c) (held c) (rw (← c.self.view_is) at c.requires.room))
