use Rattle.std.proofs.Common.{◌≡◌, fold, take}
use Rattle.pfr_ruleset.specs.Places as places
use Rattle.pfr_expand.specs.Bodies as spec
use Rattle.pfr_expand.proofs.body.put_copies.Given as goal

abbrev pub invariant-loop-packet : goal.invariant-loop-packet
invariant-loop-packet l = (l.out ≡ fold (spec.with_copy l.anchor l.inner) l.fn.out (take l.packet-index l.matches)) × (l.out.count ≡ l.fn.out.count) × places.ArePlaced l.out.rules l.out.anchors
