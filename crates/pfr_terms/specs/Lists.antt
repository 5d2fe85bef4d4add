-- Lists, as pf.conf(5) writes them: one item, or several in braces with at most one comma between two.
use Rattle.std.specs.Prelude.{if◌then◌else◌, List, [], ◌∷◌, ◌++◌, Option, Some, None}
use Rattle.pfr_words.specs.declared.sign.Sign.TheVariants as s
use Rattle.pfr_terms.specs.declared.name.MacroUse.{MacroUse}
use Rattle.pfr_terms.specs.declared.name.Written.{Written}
use Rattle.pfr_terms.specs.declared.name.Written.TheVariants as w
use Rattle.pfr_terms.specs.Input.{Parser, ◌>>=◌, pure, taken, loop, macro_ahead, eat_sign, open_list, close_list}

abbrev pub written_by : {A : Type 0} → Parser A → Option MacroUse → Parser (Written A)
written_by item (Some found) = do
  _ ← taken
  pure (w.Macro found)
written_by item None = do
  x ← item
  pure (w.Item x)

-- an item, or the use of a macro
unfoldable pub written : {A : Type 0} → Parser A → Parser (Written A)
written item = λ i. written_by item (macro_ahead i) i

-- one item more, and how it goes on behind it
abbrev pub member : {A : Type 0} → Parser A → (List A → Parser (List A)) → List A → Parser (List A)
member item more found = do
  x ← item
  is_end ← close_list
  if is_end then pure (found ++ x ∷ []) else (do
    _ ← eat_sign s.Comma
    more (found ++ x ∷ []))

-- the items up to the closing brace
abbrev pub members : {A : Type 0} → Parser A → Parser (List A)
members item = loop (member item) []

unfoldable pub list : {A : Type 0} → Parser A → Parser (List A)
list item = do
  is_braced ← open_list
  if is_braced then members item else (do
    x ← item
    pure (x ∷ []))
