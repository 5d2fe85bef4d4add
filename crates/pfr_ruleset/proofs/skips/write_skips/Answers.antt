use Rattle.std.proofs.Common.{arith, ◌≡◌, ◌-◌, subst, suc, ℕ}
use Rattle.pfr_ruleset.specs.Skipping.{HaveSkipsFrom}
use Rattle.pfr_ruleset.proofs.IndexLemmas.{skips_written}
use Rattle.pfr_ruleset.proofs.skips.write_skips.Goals as goal

pub loop-place-preserved : goal.loop-place-preserved
loop-place-preserved c =
    let place = c.loop-place.place - 1 in
    let next : c.loop-place.place ≡ suc place = omega (arith, c.loop-place-test.true) in
    let written : HaveSkipsFrom (suc place) c.args.asked.now c.loop-place.skips = subst (λ (place : ℕ). HaveSkipsFrom place c.args.asked.now c.loop-place.skips) next c.loop-place.invariant.written in
    record {
      within = omega (arith, c.loop-place.invariant.within);
      behind = λ _. c.skips_before-behind.ensures;
      written = skips_written c.args.asked.now c.loop-place.skips place c.skips_before-behind.result (omega (arith, next, c.loop-place.invariant.within)) c.skips_before-behind.ensures written;
    }
