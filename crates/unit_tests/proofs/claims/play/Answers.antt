use Rattle.std.proofs.Common.{◌≡◌, ap}
use Rattle.std.proofs.lemmas.List.Elements.{All-push, All-rest}
use Rattle.unit_tests.proofs.claims.play.Goals as goal

pub returns-in_ok-push-in-Ended-clause-own : goal.returns-in_ok-push-in-Ended-clause-own
returns-in_ok-push-in-Ended-clause-own c = (
  All-rest (λ pass. pass.batch ≡ c.args.claims.now) c.in-Some.pass _ _ c.in-Some.ensures.items c.requires.0,
  rw c.in_ok-push-in-Ended.ensures.items (All-push (λ pass. pass.batch ≡ c.args.claims.now) _ c.in-Ended.pass c.requires.1 (ap (λ pass. pass.batch) c.in-Ended.ensures.3)),
)
