-- Definitions of macros.
use Rattle.std.specs.Prelude.{ℕ, if◌then◌else◌, List, [], ◌∷◌, ◌++◌, Option, Some, None, Err}
use Rattle.pfr_words.specs.declared.sign.Sign.TheVariants as s
use Rattle.pfr_words.specs.Names.{is_name}
use Rattle.pfr_terms.specs.declared.name.Name.{Name}
use Rattle.pfr_terms.specs.declared.name.MacroUse.{MacroUse}
use Rattle.pfr_terms.specs.Input.{Parser, ◌>>=◌, pure, refuse, taken, named, loop, unknown_word, at_line_end, plain_ahead, quoted_ahead, macro_ahead, eat_sign}
use Rattle.pfr_conf.specs.declared.macros.Piece as P
use Rattle.pfr_conf.specs.declared.macros.Piece.TheVariants as p
use Rattle.pfr_conf.specs.declared.macros.MacroDefinition.{MacroDefinition}

abbrev pub piece_by : Option MacroUse → Option (List ℕ) → Option (List ℕ) → Parser P.Piece
piece_by (Some found) quoted plain = do
  _ ← taken
  pure (p.Macro found)
piece_by None (Some text) plain = do
  name ← named text
  pure (p.Quoted name)
piece_by None None (Some word) = do
  name ← named word
  pure (p.Plain name)
piece_by None None None = refuse

-- a quoted text, a plain word or another macro
unfoldable pub piece : Parser P.Piece
piece = λ i. piece_by (macro_ahead i) (quoted_ahead i) (plain_ahead i) i

-- one more behind those found so far
abbrev pub one_piece : List P.Piece → Parser (Unit {0} × List P.Piece)
one_piece found = do
  x ← piece
  pure (tt, found ++ x ∷ [])

abbrev pub piece_more : (List P.Piece → Parser (List P.Piece)) → List P.Piece → Parser (List P.Piece)
piece_more more found = do
  read ← one_piece found
  λ i. if at_line_end i then pure read.1 i else more read.1 i

-- one or more of them to the line's end
abbrev pub pieces : Parser (List P.Piece)
pieces = loop piece_more []

abbrev pub name_by : Option (List ℕ) → Parser Name
name_by None = refuse
name_by (Some word) = if is_name word then named word else refuse

-- a name without its `=` is the fault
unfoldable pub macro_name : Parser Name
macro_name = λ i. (do
  name ← name_by (plain_ahead i)
  is_defined ← eat_sign s.Equal
  if is_defined then pure name else (λ j. Err (unknown_word name.line))) i

unfoldable pub macro_definition : Parser MacroDefinition
macro_definition = do
  name ← macro_name
  value ← pieces
  pure (record { name = name; pieces = value })
