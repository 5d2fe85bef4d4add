use Rattle.std.proofs.Common.{◌≡◌, ◌++◌, List, length, take}
use Rattle.pfr_record.specs.declared.speculation.Speculation.{Speculation}
use Rattle.pfr_commit.specs.Results.{ArePlaced}
use Rattle.pfr_commit.proofs.results.put_group.Given as goal

abbrev pub invariant-loop-index : goal.invariant-loop-index
invariant-loop-index l = (length l.places.items ≡ length l.fn.places.items)
    × ((before : List Speculation) → ArePlaced before l.first l.fn.places.items → ArePlaced (before ++ take l.index l.group) l.first l.places.items)
