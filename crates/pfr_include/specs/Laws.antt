-- What holds of each text with files in the place of its statements.
use Rattle.std.specs.Prelude.{◌≡◌, ℕ, zero, suc, ◌+◌, ◌<◌, ◌^◌, List, [], ◌∷◌, length}
use Rattle.pfr_words.specs.Words.{newlines}
use Rattle.pfr_include.specs.declared.file.File.{File}
use Rattle.pfr_include.specs.declared.splicing.Included.{Included}
use Rattle.pfr_include.specs.declared.splicing.Origin.{Origin}
use Rattle.pfr_include.specs.Turns.{splices, with_files}

-- lines of the ruleset itself, from this one on
abbrev pub own_lines : (line count : ℕ) → List Origin
own_lines line zero = []
own_lines line (suc count) = record { file = 0; line = line } ∷ own_lines (line + 1) count

-- the ruleset as it is: each line comes from itself
abbrev pub unchanged : List ℕ → Included
unchanged text = record { text = text; lines = own_lines 1 (newlines text + 1); spliced = [] }

-- a text of which nothing is spliced stays as it is
abbrev pub NothingToSpliceChangesNothing : Type 0
NothingToSpliceChangesNothing = (text : List ℕ) (files : List File)
    → length text < 2 ^ 63 → splices files text ≡ [] → with_files text files ≡ unchanged text

-- a text has an origin for each line: one more than its newlines
abbrev pub IsCounted : Included → Type 0
IsCounted made = length made.lines ≡ newlines made.text + 1

abbrev pub EachLineHasAnOrigin : Type 0
EachLineHasAnOrigin = (text : List ℕ) (files : List File) → IsCounted (with_files text files)
