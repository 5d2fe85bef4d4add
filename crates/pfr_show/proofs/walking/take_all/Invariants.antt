use Rattle.std.proofs.Common.{◌≡◌, ◌≤◌, ◌-◌, ◌^◌, length}
use Rattle.pfr_merge.specs.MergeReading.{HasPassedOn, NoneRefused}
use Rattle.pfr_show.proofs.walking.take_all.Given as goal

abbrev pub invariant-turns : goal.invariant-turns
invariant-turns g l =
    NoneRefused l.merge × ((length l.sources ≡ length l.merge) × (length l.merge ≤ 8)) × HasPassedOn l.taken l.merge

abbrev pub decreases-turns : goal.decreases-turns
decreases-turns g l = 2 ^ 43 - l.taken
