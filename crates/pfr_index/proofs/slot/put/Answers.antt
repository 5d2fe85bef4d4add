-- The first slot that isn't held is within, and there is one since there is room.
use Rattle.std.proofs.Common.{arith, sym, ◌∙◌}
use Rattle.pfr_index.specs.Slots as spec
use Rattle.pfr_index.proofs.SearchLemmas.{first_is, none_is}
use Rattle.pfr_index.proofs.PutLemmas.{none_full, put_is}
use Rattle.pfr_index.proofs.slot.put.Goals as goal

pub returns : goal.returns
returns c =
    put_is
    c.args.slots.now
    c.in-Some.index
    c.args.slot
    c.is_free-was_free.result
    c.requires.held
    c.requires.reached
    (rw (← c.home-home.ensures.is) (first_is spec.is_unheld c.args.slots.now c.home-home.result c.in-Some.index c.home-home.ensures.within (sym c.first_unheld.ensures.is ∙ c.in-Some.is)))
    _
    c.is_free-was_free.ensures

pub unreachable-requires : goal.unreachable-requires
unreachable-requires c =
    omega (arith, none_full c.args.slots.now (none_is spec.is_unheld c.args.slots.now c.home-home.result c.home-home.ensures.within (sym c.first_unheld.ensures.is ∙ c.in-None.is)), c.requires.room)
