use Rattle.std.proofs.Common.{◌≡◌, arith}
use Rattle.std.proofs.lemmas.List.Elements.{All-push, All-rest}
use Rattle.unit_tests.proofs.claims.play_all.Goals as goal

pub loop-pass-preserved : goal.loop-pass-preserved
loop-pass-preserved c =
    let before = c.loop-pass.invariant in
    record {
      waiting = All-rest (λ pass. pass.batch ≡ c.args.claims.now) c.in-Some.pass _ _ c.in-Some.ensures.items before.waiting;
      ended = rw c.in_ok-push.ensures.items (All-push (λ pass. pass.batch ≡ c.args.claims.now) _ c.drain.result before.ended c.drain.ensures.batch);
      whole = omega (arith, c.in_ok-push.ensures.len, c.in-Some.ensures.len);
    }
