-- Names of labels and anchors.
use Rattle.std.specs.Prelude.{ℕ, if◌then◌else◌, List, Option, Some, None}
use Rattle.pfr_terms.specs.declared.name.Name.{Name}
use Rattle.pfr_terms.specs.Input.{Parser, ◌>>=◌, pure, refuse, named, is_free, plain_ahead, quoted_ahead}

abbrev pub some_named : List ℕ → Parser (Option Name)
some_named text = do
  name ← named text
  pure (Some name)

abbrev pub name_by : Option (List ℕ) → Option (List ℕ) → Parser (Option Name)
name_by (Some text) plain = some_named text
name_by None (Some word) = if is_free word then some_named word else pure None
name_by None None = pure None

-- a quoted text, or a plain word without a meaning in pf.conf(5)
unfoldable pub name_ahead : Parser (Option Name)
name_ahead = λ i. name_by (quoted_ahead i) (plain_ahead i) i

abbrev pub name_or_refuse : Option Name → Parser Name
name_or_refuse (Some name) = pure name
name_or_refuse None = refuse

unfoldable pub some_name : Parser Name
some_name = name_ahead >>= name_or_refuse
