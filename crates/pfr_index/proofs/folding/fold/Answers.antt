-- The place of a slot under the hash comes behind those before it, and the slots end at a free one or with the last.
use Rattle.std.proofs.Common.{◌∙◌, sym}
use Rattle.pfr_index.proofs.FoldLemmas.{passed_over, passed_step, through_all, through_free}
use Rattle.pfr_index.proofs.folding.fold.Goals.{then-is_under, else-is_under}
use Rattle.pfr_index.proofs.folding.fold.Goals as goal

pub loop-slot-preserved : goal.loop-slot-preserved
loop-slot-preserved g c = (
  c.loop-slot.invariant.0,
  elim c.if-is_under.branch [
    | then-is_under w ↦
        rw w.last-is
        (passed_step (λ before place after. goal.F-post g c.args.step.now before place after) c.args.start c.args.hash c.args.slots.now c.loop-slot.slot-index c.loop-slot.last w.step-last.result _
        c.loop-slot-test.true (sym c.is_under.ensures ∙ w.if-is_under.true) w.step-last.ensures c.loop-slot.invariant.1)
    | else-is_under w ↦
        rw w.last-is
        (passed_over (λ before place after. goal.F-post g c.args.step.now before place after) c.args.start c.args.hash c.args.slots.now c.loop-slot.slot-index c.loop-slot.last _
        c.loop-slot-test.true (sym c.is_under.ensures ∙ w.if-is_under.false) c.loop-slot.invariant.1)
  ],
)

pub returns-then-is_free : goal.returns-then-is_free
returns-then-is_free g c =
    through_free (λ before place after. goal.F-post g c.args.step.now before place after) c.args.start c.args.hash c.args.slots.now c.loop-slot.slot-index c.loop-slot.last _
    c.loop-slot-test.true (sym c.is_free.ensures ∙ c.if-is_free.true) c.loop-slot.invariant.1

pub returns : goal.returns
returns g c =
    through_all (λ before place after. goal.F-post g c.args.step.now before place after) c.args.start c.args.hash c.args.slots.now c.loop-slot.slot-index c.loop-slot.last
    c.loop-slot-test.false c.loop-slot.invariant.1
