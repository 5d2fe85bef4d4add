-- Filter rules.
use Rattle.std.specs.Prelude.{ℕ, Bool, true, false, not, if◌then◌else◌, Option, Some, None, codes}
use Rattle.pfr_words.specs.declared.sign.Sign.TheVariants as s
use Rattle.pfr_terms.specs.Input.{Parser, ◌>>=◌, pure, leave_out, sees_sign, eat_word}
use Rattle.pfr_terms.specs.Hosts.{criteria}
use Rattle.pfr_conf.specs.declared.filter.Action as A
use Rattle.pfr_conf.specs.declared.filter.Action.TheVariants.{Pass, Block}
use Rattle.pfr_conf.specs.declared.filter.FilterRule.{FilterRule}
use Rattle.pfr_conf.specs.Policies.{direction, block_policy}
use Rattle.pfr_conf.specs.RuleOptions.{rule_options}

unfoldable pub action : Parser (Option A.Action)
action = do
  is_pass ← eat_word (codes "pass")
  if is_pass then pure (Some Pass) else (do
    is_block ← eat_word (codes "block")
    if is_block then (do policy ← block_policy; pure (Some (Block policy))) else pure None)

-- `log` with options is left out
unfoldable pub logged : Parser Bool
logged = do
  is_logged ← eat_word (codes "log")
  if not is_logged then pure false else (λ i. if sees_sign s.OpenParenthesis i then leave_out (codes "log") i else pure true i)

-- what comes behind the action on this line
unfoldable pub filter_rule : ℕ → A.Action → Parser FilterRule
filter_rule line action = do
  way ← direction
  is_logged ← logged
  is_quick ← eat_word (codes "quick")
  asked ← criteria
  options ← rule_options
  pure (record { line = line; action = action; direction = way; is_logged = is_logged; is_quick = is_quick; criteria = asked; options = options })
