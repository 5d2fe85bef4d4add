-- The text that is made of a ruleset's text and those of other files.
use Rattle.std.specs.Prelude.{ℕ, List, [], ◌∷◌, ◌++◌}
use Rattle.pfr_ruleset.specs.declared.interface.Interface.{Interface}
use Rattle.pfr_include.specs.Turns.{with_files}
use Rattle.pfr_include.specs.declared.file.File.{File}
use Rattle.pfr_include.specs.declared.splicing.Included.{Included}
use Rattle.pfr_rewrite.specs.Adapting.{adapted}
use Rattle.pfr_rewrite.specs.declared.adapting.Adapted.{Adapted}
use Rattle.pfr_rewrite.specs.declared.adapting.Surroundings.{Surroundings}
use Rattle.pfr_prepare.specs.Sources.{around_of}
use Rattle.pfr_prepare.specs.declared.flag.Flag.{Flag}
use Rattle.pfr_prepare.specs.declared.flag.Flag.TheVariants as flag
use Rattle.pfr_prepare.specs.declared.making.Made.{Made}
use Rattle.pfr_prepare.specs.declared.prepared.Prepared.{Prepared}
use Rattle.pfr_prepare.specs.declared.source.Source.{Source}

-- the file of a flag with this text, if it is for statements
abbrev pub flag_file : Flag → List ℕ → List File
flag_file (flag.Include name file) text = record { name = name.now; text = text } ∷ []
flag_file _ text = []

abbrev pub file_in : Source → List File
file_in source = flag_file source.flag source.text

-- the files that flags give for statements
abbrev pub files_of : List Source → List File
files_of [] = []
files_of (source ∷ sources) = file_in source ++ files_of sources

-- a text with the files that flags give in the place of its statements
unfoldable pub text_with_files : List ℕ → List Source → Included
text_with_files text sources = with_files text (files_of sources)

abbrev pub without_findings : Adapted → Made
without_findings made = record { text = made.text; lines = made.lines; pieces = made.pieces }

-- a text in the words of the strict reader
unfoldable pub rewritten : Included → Surroundings → Made
rewritten included around = without_findings (adapted included.text around)

unfoldable pub prepared_of : Included → Surroundings → Prepared
prepared_of included around = record {
  text = (rewritten included around).text;
  lines = (rewritten included around).lines;
  pieces = (rewritten included around).pieces;
  origins = included.lines;
}

-- a text with its files, in the words of the strict reader
unfoldable pub made_text : List Interface → List ℕ → List Source → Prepared
made_text interfaces text sources = prepared_of (text_with_files text sources) (around_of interfaces sources)
