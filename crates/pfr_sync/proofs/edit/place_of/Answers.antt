use Rattle.std.proofs.Common.{rules, arith}
use Rattle.pfr_sync.specs.declared.event.Event.{Event}
use Rattle.pfr_sync.proofs.PlaceLemmas.{behind_lower, halves_lower}
use Rattle.pfr_sync.proofs.edit.place_of.Goals as goal

pub loop-low-preserved-then-get-number : goal.loop-low-preserved-then-get-number
loop-low-preserved-then-get-number c =
    halves_lower c.args.entries.now c.args.number.0 c.loop-low.low c.loop-low.high _ c.get.result.now c.requires c.loop-low.invariant (omega arith) c.get.ensures (search rules)

pub returns-clause-entries : goal.returns-clause-entries
returns-clause-entries c = λ (event : Event) is.
    let halves = c.loop-low.invariant in
    behind_lower event c.args.entries.now c.loop-low.low (omega (arith, halves.order, halves.within)) (λ i d before. rw is (halves.lower i d before))
