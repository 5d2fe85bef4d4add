-- Which statements may stand behind others.
use Rattle.std.specs.Prelude.{◌≡◌, ◌||◌, ◌⊎◌, Bool, true, false, List, [], ◌∷◌}
use Rattle.pfr_conf.specs.declared.statement.Statement.{Statement}
use Rattle.pfr_conf.specs.declared.statement.Statement.TheVariants as s

abbrev pub is_option : Statement → Bool
is_option (s.Option option) = true
is_option other = false

abbrev pub is_translation : Statement → Bool
is_translation (s.Translation rule) = true
is_translation other = false

abbrev pub is_filter : Statement → Bool
is_filter (s.Filter rule) = true
is_filter other = false

abbrev pub has_option : List Statement → Bool
has_option [] = false
has_option (x ∷ xs) = is_option x || has_option xs

abbrev pub has_translation : List Statement → Bool
has_translation [] = false
has_translation (x ∷ xs) = is_translation x || has_translation xs

abbrev pub has_filter : List Statement → Bool
has_filter [] = false
has_filter (x ∷ xs) = is_filter x || has_filter xs

-- options stand before all rules, and translation rules before filter rules
pub record MayFollow (first second : List Statement) : Type 0 where
  pub options : ((has_translation first || has_filter first) ≡ false) ⊎ (has_option second ≡ false)
  pub translations : (has_filter first ≡ false) ⊎ (has_translation second ≡ false)
