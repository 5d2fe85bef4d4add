-- Lines and words of texts. Lines are joined by newlines; a comment goes up to the end of its line; words are what stands
-- between blanks (hosts(5), services(5), pfctl(8) on the files of tables).
use Rattle.std.specs.Prelude.{ℕ, ◌==◌, ◌||◌, Bool, List, [], ◌∷◌, ◌++◌, flat_map}
use Rattle.std.specs.List.{slice_split, before_first}
use Rattle.pfr_given.specs.declared.parts.Part.{Part}
use Rattle.pfr_given.specs.declared.parts.Part.TheVariants as part

-- a blank, a tab, a newline or a carriage return
abbrev pub is_blank : ℕ → Bool
is_blank b = b == 32 || b == 9 || b == 10 || b == 13

-- a byte ends a part of a text
abbrev pub ends : Part → ℕ → Bool
ends part.Line b = b == 10
ends part.Word b = is_blank b
ends part.Plain b = b == 35
ends part.PlainOfTable b = b == 35 || b == 59

-- the lines of a text, without their ends
unfoldable pub lines : List ℕ → List (List ℕ)
lines text = slice_split (ends part.Line) text

-- what isn't empty
abbrev pub some_word : List ℕ → List (List ℕ)
some_word [] = []
some_word (b ∷ word) = (b ∷ word) ∷ []

-- the words of a text: what stands between blanks and isn't empty
unfoldable pub words : List ℕ → List (List ℕ)
words text = flat_map some_word (slice_split (ends part.Word) text)

-- the words of a line before its comment
abbrev pub plain_words : Part → List ℕ → List (List ℕ)
plain_words comment line = words (before_first (ends comment) line)

-- texts with `, ` between each two
abbrev pub joined_by : List ℕ → List (List ℕ) → List ℕ
joined_by separator [] = []
joined_by separator (text ∷ texts) = text ++ flat_map (λ t. separator ++ t) texts
