use Rattle.pfr_values.proofs.PlaceLemmas.{is_one_place}
use Rattle.pfr_values.proofs.also.Places.of.Goals as goal

pub returns-clause-places : goal.returns-clause-places
returns-clause-places c = rw (c.in_ok-push.ensures.pushed, c.in_ok-push-2.ensures.pushed, c.new-interfaces.ensures, c.new-captures.ensures) (is_one_place c.args.interface c.args.words c.requires)
