use Rattle.std.proofs.Common.{◌++◌, List, length}
use Rattle.pfr_listing.specs.Lines.{AreLinesOf}
use Rattle.pfr_listing.specs.declared.line.Listed.{Listed}
use Rattle.pfr_listing.proofs.listing.in_their_order.Given as goal

-- whatever states the rest lists, they follow those so far
abbrev pub invariant-loop-line : goal.invariant-loop-line
invariant-loop-line l = (more : List Listed) → AreLinesOf more l.rest → AreLinesOf (l.states.items ++ more) l.text

abbrev pub decreases-loop-line : goal.decreases-loop-line
decreases-loop-line l = length l.rest
