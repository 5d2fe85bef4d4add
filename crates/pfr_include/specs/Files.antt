-- The files that a ruleset may name.
use Rattle.std.specs.Prelude.{ℕ, ◌+◌, if◌then◌else◌, List, [], ◌∷◌, Option, Some, None}
use Rattle.std.specs.Str.{bytes_eq}
use Rattle.pfr_words.specs.Words.{token_of}
use Rattle.pfr_words.specs.declared.word.Token.{Token}
use Rattle.pfr_words.specs.declared.word.Token.TheVariants as t
use Rattle.pfr_include.specs.declared.file.File.{File}
use Rattle.pfr_include.specs.declared.file.Found.{Found}

-- the first file of a name, behind `before` others
abbrev pub file_from : ℕ → List ℕ → List File → Option Found
file_from before name [] = None
file_from before name (file ∷ files) =
    if bytes_eq file.name name then Some (record { number = before + 1; text = file.text })
    else file_from (before + 1) name files

-- a plain word, or what stands between two quotes
abbrev pub name_in : Option Token → Option (List ℕ)
name_in None = None
name_in (Some (t.Plain name)) = Some name
name_in (Some (t.Quoted name)) = Some name
name_in (Some _) = None

-- the name that a piece of a text gives
unfoldable pub name_of : List ℕ → Option (List ℕ)
name_of [] = None
name_of (b ∷ piece) = name_in (token_of (b ∷ piece))

abbrev pub file_by : List File → Option (List ℕ) → Option Found
file_by files None = None
file_by files (Some name) = file_from 0 name files

-- the file that a piece of a text names
unfoldable pub named_file : List File → List ℕ → Option Found
named_file files piece = file_by files (name_of piece)
