-- The search ends at a slot that holds the entry, or at one behind which it doesn't stand.
use Rattle.std.proofs.Common.{◌∙◌, get_or, refl, sym}
use Rattle.pfr_index.specs.Slots as spec
use Rattle.pfr_index.proofs.SearchLemmas.{first_is, none_is}
use Rattle.pfr_index.proofs.LeaveLemmas.{leaves_first, none_holds}
use Rattle.pfr_index.proofs.OrderLemmas.{ends_other}
use Rattle.pfr_index.proofs.slot.leave.Goals as goal

pub returns-then-held : goal.returns-then-held
returns-then-held c =
    rw
    c.if-held.true
    (leaves_first
    c.args.slots.now
    (spec.entry_of c.args.entry)
    c.in-Some.index
    c.left.result
    _
    (rw (← c.home-home.ensures.is) (first_is (spec.ends (spec.entry_of c.args.entry)) c.args.slots.now c.home-home.result c.in-Some.index c.home-home.ensures.within (sym c.first_end.ensures.is ∙ c.in-Some.is)))
    (sym c.is_held-held.ensures ∙ c.if-held.true)
    c.left.ensures.free
    c.left.ensures.unheld)

pub returns-else-held : goal.returns-else-held
returns-else-held c =
    rw
    c.if-held.false (
      refl,
      none_holds
          c.args.slots.now
          (spec.entry_of c.args.entry)
          c.in-Some.index
          c.requires
          (rw (← c.home-home.ensures.is) (first_is (spec.ends (spec.entry_of c.args.entry)) c.args.slots.now c.home-home.result c.in-Some.index c.home-home.ensures.within (sym c.first_end.ensures.is ∙ c.in-Some.is)))
          _
          (sym c.is_held-held.ensures ∙ c.if-held.false),
    )

pub returns-in-None : goal.returns-in-None
returns-in-None c = (
  refl,
  λ k other below.
      ends_other
      (spec.entry_of c.args.entry)
      (get_or c.args.slots.now k other)
      (none_is (spec.ends (spec.entry_of c.args.entry)) c.args.slots.now c.home-home.result c.home-home.ensures.within (sym c.first_end.ensures.is ∙ c.in-None.is) k other below),
)
