-- Rules in words, and what is read of them.
use Rattle.std.specs.Prelude.{◌≡◌, ℕ, List, map, Option, None, Ok}
use Rattle.pfr_ruleset.specs.declared.filter_rules.RuleLists.{RuleLists}
use Rattle.pfr_ruleset.specs.declared.flat.FlatRule.{FlatRule}
use Rattle.pfr_ruleset.specs.declared.flat.FlatTranslation.{FlatTranslation}
use Rattle.pfr_ruleset.specs.declared.interface.Interface.{Interface}
use Rattle.pfr_ruleset.specs.declared.ruleset.Ruleset.{Ruleset}
use Rattle.pfr_ruleset.specs.declared.translations.Translations.{Translations}
use Rattle.pfr_ruleset.specs.Rulesets.{label_at}
use Rattle.pfr_conf.specs.Statements.{statements_of}
use Rattle.pfr_expand.specs.Texts.{expanded_by}

-- ---- the same rules, wherever they stand

-- a filter rule but for its line in the text, and for the place of its label among those of the text
abbrev pub apart : FlatRule → FlatRule
apart rule = record rule { label = None; line = 0 }

-- the labels of the filter rules of a ruleset, one for each rule
abbrev pub labels_of : Ruleset → List (Option (List ℕ))
labels_of r = map (λ rule. label_at r.labels rule.label) r.filter.rules

-- a translation rule but for its line in the text
abbrev pub translation_apart : {T : Type 0} → FlatTranslation T → FlatTranslation T
translation_apart rule = record rule { line = 0 }

-- the same filter rules, one by one, in the same anchors
pub record HaveSameFilters (first second : RuleLists) : Type 0 where
  pub rules : map apart first.rules ≡ map apart second.rules
  pub anchors : first.anchors ≡ second.anchors

-- the same translation rules of each kind, one by one, with the same numbers
pub record HaveSameTranslations (first second : Translations) : Type 0 where
  pub nats : map translation_apart first.nats ≡ map translation_apart second.nats
  pub rdrs : map translation_apart first.rdrs ≡ map translation_apart second.rdrs
  pub binats : map translation_apart first.binats ≡ map translation_apart second.binats

-- the same rules, with the same labels
pub record HaveSameRules (first second : Ruleset) : Type 0 where
  pub filter : HaveSameFilters first.filter second.filter
  pub labels : labels_of first ≡ labels_of second
  pub translations : HaveSameTranslations first.translations second.translations

-- ---- what is read

-- what a text means for the interfaces of a run, however long it is
abbrev pub IsMeantBy : List ℕ → List Interface → Ruleset → Type 0
IsMeantBy text interfaces r = expanded_by (statements_of text) interfaces ≡ Ok r

-- the lines on which the filter rules of a ruleset stand, by their numbers
abbrev pub lines_of : Ruleset → List ℕ
lines_of r = map (λ rule. rule.line) r.filter.rules

-- A text means a ruleset with the same rules for the same interfaces. Its filter rules stand on these lines.
abbrev pub Tells : Ruleset → (text lines : List ℕ) → Type 0
Tells r text lines = (again : Ruleset) × (IsMeantBy text r.interfaces again × (HaveSameRules r again × (lines ≡ lines_of again)))
