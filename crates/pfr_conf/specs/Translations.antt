-- Translation rules.
use Rattle.std.specs.Prelude.{ℕ, Bool, true, false, if◌then◌else◌, List, [], ◌∷◌, Option, Some, None, codes}
use Rattle.pfr_words.specs.declared.sign.Sign.TheVariants as s
use Rattle.pfr_words.specs.Names.{entry_of}
use Rattle.pfr_terms.specs.declared.name.Written.{Written}
use Rattle.pfr_terms.specs.declared.name.Written.TheVariants as w
use Rattle.pfr_terms.specs.declared.address.Host.{Host}
use Rattle.pfr_terms.specs.declared.address.Address.TheVariants as a
use Rattle.pfr_terms.specs.declared.address.AddressMatch.{AddressMatch}
use Rattle.pfr_terms.specs.declared.hosts.Part.{Part}
use Rattle.pfr_terms.specs.declared.hosts.Criteria as C
use Rattle.pfr_terms.specs.Ports.{eaten}
use Rattle.pfr_terms.specs.Input.{Parser, ◌>>=◌, pure, refuse, line_ahead, plain_ahead, eat_word, expect_word, expect_sign}
use Rattle.pfr_terms.specs.Hosts.{ports, part_behind, interfaces, protocols, criteria}
use Rattle.pfr_conf.specs.declared.targets.Target as T
use Rattle.pfr_conf.specs.declared.translation.TranslationKind.{TranslationKind}
use Rattle.pfr_conf.specs.declared.translation.TranslationKind.TheVariants.{Nat, Rdr, Binat}
use Rattle.pfr_conf.specs.declared.translation.TranslationRule.{TranslationRule}
use Rattle.pfr_conf.specs.declared.translation.TranslationStatement.{TranslationStatement}
use Rattle.pfr_conf.specs.declared.translation.TranslationStatement.TheVariants.{Rule, Anchor}
use Rattle.pfr_conf.specs.Names.{some_name}
use Rattle.pfr_conf.specs.Filters.{logged}
use Rattle.pfr_conf.specs.Targets.{single_host, target}

-- the words that begin a translation rule
abbrev pub words_of_kinds : List (List ℕ × TranslationKind)
words_of_kinds = (codes "nat", Nat) ∷ (codes "rdr", Rdr) ∷ (codes "binat", Binat) ∷ []

-- the words that begin an anchor of such rules
abbrev pub words_of_anchor_kinds : List (List ℕ × TranslationKind)
words_of_anchor_kinds = (codes "nat-anchor", Nat) ∷ (codes "rdr-anchor", Rdr) ∷ (codes "binat-anchor", Binat) ∷ []

unfoldable pub kind_in : Option (List ℕ) → Option TranslationKind
kind_in None = None
kind_in (Some word) = entry_of words_of_kinds word

unfoldable pub anchor_kind_in : Option (List ℕ) → Option TranslationKind
anchor_kind_in None = None
anchor_kind_in (Some word) = entry_of words_of_anchor_kinds word

unfoldable pub kind : Parser (Option TranslationKind)
kind = λ i. eaten (kind_in (plain_ahead i)) i

unfoldable pub anchor_kind : Parser (Option TranslationKind)
anchor_kind = λ i. eaten (anchor_kind_in (plain_ahead i)) i

-- ---- criteria

abbrev pub only : Written Host → AddressMatch
only (w.Item host) = record { is_negated = false; address = a.Host host }
only (w.Macro found) = record { is_negated = false; address = a.Macro found }

-- the source of a binat rule with a target is one address
unfoldable pub binat_source : Parser Part
binat_source = do
  _ ← expect_word (codes "from")
  host ← single_host false
  found ← ports
  pure (record { addresses = Some (only host ∷ []); ports = found })

unfoldable pub binat_criteria : Parser C.Criteria
binat_criteria = do
  on ← interfaces
  _ ← eat_word (codes "inet")
  proto ← protocols
  source ← binat_source
  destination ← part_behind (codes "to")
  pure (record { interfaces = on; protocols = proto; hosts = record { source = Some source; destination = destination } })

unfoldable pub translated : TranslationKind → Parser C.Criteria
translated Binat = binat_criteria
translated Nat = criteria
translated Rdr = criteria

-- ---- rules

-- `pass`, and `log` behind it
unfoldable pub passes : Parser (Bool × Bool)
passes = do
  is_passed ← eat_word (codes "pass")
  if is_passed then (do is_logged ← logged; pure (true, is_logged)) else pure (false, false)

-- the arrow, and what a rule of this kind translates to
unfoldable pub target_behind_arrow : TranslationKind → Parser T.Target
target_behind_arrow kind = do
  _ ← expect_sign s.Arrow
  target kind

unfoldable pub rule_with_target : ℕ → TranslationKind → Parser TranslationRule
rule_with_target line kind = do
  passed ← passes
  asked ← translated kind
  to ← target_behind_arrow kind
  pure (record { line = line; kind = kind; passes = passed.0; is_logged = passed.1; criteria = asked; target = Some to })

abbrev pub without_target : ℕ → Option TranslationKind → Parser TranslationRule
without_target line None = refuse
without_target line (Some kind) = do
  passed ← passes
  asked ← criteria
  pure (record { line = line; kind = kind; passes = passed.0; is_logged = passed.1; criteria = asked; target = None })

-- what comes behind `no`
unfoldable pub rule_without_target : ℕ → Parser TranslationRule
rule_without_target line = kind >>= without_target line

abbrev pub rule_by : ℕ → Option TranslationKind → Parser TranslationRule
rule_by line None = refuse
rule_by line (Some kind) = rule_with_target line kind

abbrev pub rule_on : ℕ → Parser TranslationRule
rule_on line = do
  is_no ← eat_word (codes "no")
  if is_no then rule_without_target line else (kind >>= rule_by line)

unfoldable pub translation_rule : Parser TranslationRule
translation_rule = λ i. rule_on (line_ahead i) i

abbrev pub anchor_or_rule : Option TranslationKind → Parser TranslationStatement
anchor_or_rule (Some kind) = do
  name ← some_name
  pure (Anchor kind name)
anchor_or_rule None = do
  rule ← translation_rule
  pure (Rule rule)

-- a translation rule, or an anchor of such rules, which is empty
unfoldable pub translation_statement : Parser TranslationStatement
translation_statement = anchor_kind >>= anchor_or_rule
