-- Translation rules by their kinds.
use Rattle.std.specs.Prelude.{ℕ, ◌≤◌, ◌==◌, List, [], ◌++◌, map}
use Rattle.std.specs.List.{count_by}
use Rattle.pfr_ruleset.specs.declared.translations.Translations as T

abbrev pub no_translations : T.Translations
no_translations = record { nats = []; rdrs = []; binats = [] }

-- the numbers of all rules, kind by kind
abbrev pub numbers_of : T.Translations → List ℕ
numbers_of rules = map (λ rule. rule.number) rules.nats ++ (map (λ rule. rule.number) rules.rdrs ++ map (λ rule. rule.number) rules.binats)

-- no two rules have one number
abbrev pub HaveOwnNumbers : T.Translations → Type 0
HaveOwnNumbers rules = (number : ℕ) → count_by (λ other. other == number) (numbers_of rules) ≤ 1
