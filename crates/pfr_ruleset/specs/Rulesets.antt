-- Rulesets.
use Rattle.std.specs.Prelude.{ℕ, ◌+◌, min, List, [], ◌∷◌, length, Option, Some, None}
use Rattle.std.specs.List.{slice_get}
use Rattle.std.specs.Option.{option_map}
use Rattle.pfr_ruleset.specs.declared.interface.Interface.{Interface}
use Rattle.pfr_ruleset.specs.declared.label.Label.{Label}
use Rattle.pfr_ruleset.specs.declared.ruleset.Ruleset as R
use Rattle.pfr_ruleset.specs.Interfaces.{own_table}
use Rattle.pfr_ruleset.specs.Options.{default_options}
use Rattle.pfr_ruleset.specs.Translations.{no_translations}

-- a ruleset that says nothing for these interfaces; their addresses are its first table
abbrev pub empty_ruleset : List Interface → R.Ruleset
empty_ruleset interfaces = record { interfaces = interfaces; options = default_options; tables = own_table interfaces ∷ []; filter = record { rules = []; anchors = [] }; labels = []; translations = no_translations }

-- how many filter rules and how many translation rules there are, up to the greatest number of 32 bits
abbrev pub counts : R.Ruleset → ℕ × ℕ
counts r = (min (length r.filter.rules) 4294967295, min (length r.translations.nats + length r.translations.rdrs + length r.translations.binats) 4294967295)

-- the text of the label at a place among labels
abbrev pub label_at : List Label → Option ℕ → Option (List ℕ)
label_at labels None = None
label_at labels (Some place) = option_map (λ label. label.text) (slice_get labels place)
