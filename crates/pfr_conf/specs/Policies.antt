-- Single words that rules and options of pf.conf(5) have alike.
use Rattle.std.specs.Prelude.{if◌then◌else◌, Option, Some, None, codes}
use Rattle.pfr_net.specs.declared.direction.Direction.{Direction}
use Rattle.pfr_net.specs.declared.direction.Direction.TheVariants.{In, Out}
use Rattle.pfr_net.specs.declared.policy.BlockPolicy.{BlockPolicy}
use Rattle.pfr_net.specs.declared.policy.BlockPolicy.TheVariants as policy
use Rattle.pfr_net.specs.declared.policy.StatePolicy.{StatePolicy}
use Rattle.pfr_net.specs.declared.policy.StatePolicy.TheVariants.{IfBound, Floating}
use Rattle.pfr_terms.specs.Input.{Parser, ◌>>=◌, pure, refuse, taken, at_line_end, eat_word}

unfoldable pub direction : Parser (Option Direction)
direction = do
  is_in ← eat_word (codes "in")
  if is_in then pure (Some In) else (do
    is_out ← eat_word (codes "out")
    if is_out then pure (Some Out) else pure None)

unfoldable pub block_policy : Parser (Option BlockPolicy)
block_policy = do
  is_drop ← eat_word (codes "drop")
  if is_drop then pure (Some policy.Drop) else (do
    is_return ← eat_word (codes "return")
    if is_return then pure (Some policy.Return) else pure None)

unfoldable pub state_policy : Parser (Option StatePolicy)
state_policy = do
  is_bound ← eat_word (codes "if-bound")
  if is_bound then pure (Some IfBound) else (do
    is_floating ← eat_word (codes "floating")
    if is_floating then pure (Some Floating) else pure None)

-- nothing more may stand on the line
unfoldable pub end_of_line : Parser (Unit {0})
end_of_line = λ i. if at_line_end i then taken i else refuse i
