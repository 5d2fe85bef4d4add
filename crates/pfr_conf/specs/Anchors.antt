-- Anchors, which may hold filter rules and anchors.
use Rattle.std.specs.Prelude.{ℕ, zero, suc, not, if◌then◌else◌, List, [], ◌∷◌, ◌++◌, Option, Some, None, Ok, codes}
use Rattle.pfr_words.specs.declared.sign.Sign.TheVariants as s
use Rattle.pfr_terms.specs.declared.error.ConfErrorKind.TheVariants.{TooDeep}
use Rattle.pfr_terms.specs.Input.{Parser, ◌>>=◌, pure, refuse, faulty, loop, taken, line_ahead, skip_line_ends, sees_word, eat_word, eat_sign}
use Rattle.pfr_terms.specs.Hosts.{criteria}
use Rattle.pfr_conf.specs.declared.filter.Action as A
use Rattle.pfr_conf.specs.declared.anchor.AnchorRule.{AnchorRule}
use Rattle.pfr_conf.specs.declared.anchor.FilterStatement.{FilterStatement}
use Rattle.pfr_conf.specs.declared.anchor.FilterStatement.TheVariants as f
use Rattle.pfr_conf.specs.Names.{name_ahead}
use Rattle.pfr_conf.specs.Policies.{direction, end_of_line}
use Rattle.pfr_conf.specs.Filters.{action, filter_rule}

-- what comes behind `anchor` on this line, up to the body
unfoldable pub anchor_rule : ℕ → Parser AnchorRule
anchor_rule line = do
  name ← name_ahead
  way ← direction
  is_quick ← eat_word (codes "quick")
  asked ← criteria
  pure (record { line = line; name = name; direction = way; is_quick = is_quick; criteria = asked })

-- past the ends of lines
abbrev pub blank_lines : Parser (Unit {0})
blank_lines = λ i. Ok (tt, skip_line_ends i)

-- one item, with the end of its line
abbrev pub one_line : Parser FilterStatement → List FilterStatement → Parser (Unit {0} × List FilterStatement)
one_line item found = do
  x ← item
  _ ← end_of_line
  pure (tt, found ++ x ∷ [])

abbrev pub body_line : Parser FilterStatement → (List FilterStatement → Parser (List FilterStatement)) → List FilterStatement → Parser (List FilterStatement)
body_line item more found = do
  _ ← blank_lines
  is_end ← eat_sign s.CloseBrace
  if is_end then pure found else (do
    read ← one_line item found
    more read.1)

-- one to a line, up to the closing brace
abbrev pub body_lines : Parser FilterStatement → Parser (List FilterStatement)
body_lines item = loop (body_line item) []

-- an anchor without a body is empty
unfoldable pub body : Parser FilterStatement → Parser (List FilterStatement)
body item = do
  is_open ← eat_sign s.OpenBrace
  if not is_open then pure [] else (do
    _ ← end_of_line
    body_lines item)

-- an anchor whose body is of such items
unfoldable pub anchor_of : Parser FilterStatement → ℕ → Parser FilterStatement
anchor_of item line = do
  _ ← taken
  rule ← anchor_rule line
  inner ← body item
  pure (f.Anchor rule inner)

-- what comes behind the action of a filter rule on this line
abbrev pub rule : ℕ → A.Action → Parser FilterStatement
rule line found = do
  read ← filter_rule line found
  pure (f.Rule read)

abbrev pub rule_or : (ℕ → Parser FilterStatement) → ℕ → Option A.Action → Parser FilterStatement
rule_or anchor line (Some found) = rule line found
rule_or anchor line None = λ i. if sees_word (codes "anchor") i then anchor line i else refuse i

unfoldable pub rule_or_anchor : (ℕ → Parser FilterStatement) → Parser FilterStatement
rule_or_anchor anchor = λ i. (action >>= rule_or anchor (line_ahead i)) i

-- a filter rule or an anchor, with at most `depth` anchors in one another
unfoldable pub statement : ℕ → Parser FilterStatement
statement zero = rule_or_anchor (λ line. faulty TooDeep)
statement (suc depth) = rule_or_anchor (anchor_of (statement depth))
