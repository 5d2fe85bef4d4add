use Rattle.std.proofs.Common.{◌≡◌, ◌≤◌, ◌<◌, length, ap, arith}
use Rattle.std.proofs.lemmas.List.{length-set}
use Rattle.pfr_rules.proofs.CandidateLemmas.{passed_on}
use Rattle.pfr_rules.proofs.candidates.next_pinned.Goals as goal

pub loop-shape-preserved : goal.loop-shape-preserved
loop-shape-preserved c = (
  rw length-set c.loop-shape.invariant.0,
  λ packet followed.
      let count : length c.shapes-shape-end.result.now ≡ length c.args.index.now.shapes = ap length c.shapes-shape-end.ensures in
      let one : c.loop-shape.shape ≤ length c.args.index.now.shapes = omega (arith, c.loop-shape-test.true, count) in
      let within : c.loop-shape.shape < length c.loop-shape.places = omega (arith, one, c.requires.few, c.loop-shape.invariant.0) in
      rw c.min-least.ensures (passed_on c.loop-shape.shape c.args.index.now packet c.args.from c.loop-shape.least c.behind-place.result c.loop-shape.places one within c.behind-place.ensures (c.loop-shape.invariant.1 packet followed)),
)
