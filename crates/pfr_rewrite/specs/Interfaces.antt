-- The interfaces that words name.
use Rattle.std.specs.Prelude.{ℕ, ◌==◌, not, nat_le, if◌then◌else◌, min, List, [], ◌∷◌, ◌++◌, length, codes, Option, Some, None}
use Rattle.std.specs.Str.{bytes_eq}
use Rattle.pfr_given.specs.Entries.{texts_of}
use Rattle.pfr_given.specs.Texts.{joined_by}
use Rattle.pfr_given.specs.declared.entry.Given.{Given}
use Rattle.pfr_given.specs.declared.entry.Subject.TheVariants as subject
use Rattle.pfr_words.specs.declared.word.Token.{Token}
use Rattle.pfr_words.specs.declared.word.Token.TheVariants as token
use Rattle.pfr_marks.specs.Marks.{begins_with, marks}
use Rattle.pfr_marks.specs.declared.mark.Mark.{Mark}
use Rattle.pfr_spelling.specs.Known.{if_within}
use Rattle.pfr_spelling.specs.Macros.{is_plain, token_in, value_of}
use Rattle.pfr_spelling.specs.Targets.{list_from}
use Rattle.pfr_spelling.specs.declared.known.Known.{Known}

-- a word, one in round brackets, or a list
abbrev pub interfaces_len : List Mark → ℕ
interfaces_len marks =
    if begins_with marks (codes "{") then list_from 0 marks
    else if not (begins_with marks (codes "(")) then min (length marks) 1
    else if nat_le 3 (length marks) then 3
    else 0

abbrev pub plain_words : List Mark → List (List ℕ)
plain_words [] = []
plain_words (mark ∷ marks) = if is_plain mark.piece then mark.piece ∷ plain_words marks else plain_words marks

abbrev pub names_for_texts : List ℕ → List (List ℕ) → List (List ℕ)
names_for_texts word texts = if length texts == 0 then word ∷ [] else plain_words (marks (joined_by (codes ", ") texts))

-- an interface, or those of a group that is given
abbrev pub names_for : Given → List ℕ → List (List ℕ)
names_for given word = names_for_texts word (texts_of given subject.Interface (word ++ []))

-- what stands for the name of an interface that isn't known: no name has a `$`
abbrev pub unknown_name : List ℕ
unknown_name = codes "$"

-- the name that no interface has for a `!`: the interfaces that it stands for can't be named
abbrev pub names_of_sign : List ℕ → List (List ℕ)
names_of_sign piece = if bytes_eq piece (codes "!") then unknown_name ∷ [] else []

abbrev pub names_of_word : Given → List ℕ → List (List ℕ)
names_of_word given piece = if is_plain piece then names_for given piece else names_of_sign piece

abbrev pub names_of_words : Given → List Mark → List (List ℕ)
names_of_words given [] = []
names_of_words given (mark ∷ marks) = names_of_word given mark.piece ++ names_of_words given marks

abbrev pub names_by : Given → Option (List ℕ) → List (List ℕ)
names_by given (Some value) = names_of_words given (marks value)
names_by given None = unknown_name ∷ []

-- the words of a macro's value; the name that no interface has if the value isn't known, or has more bytes than may
-- still be read
abbrev pub value_names : Given → Known → List ℕ → List (List ℕ)
value_names given known name = names_by given (if_within (value_of known.macros name) known.left)

abbrev pub names_in_token : Given → Known → Option Token → List ℕ → List (List ℕ)
names_in_token given known (Some (token.Plain word)) piece = names_for given word
names_in_token given known (Some (token.MacroUse name suffix)) piece = value_names given known name
names_in_token given known _ piece = names_of_sign piece

abbrev pub names_of : Given → Known → List ℕ → List (List ℕ)
names_of given known piece = names_in_token given known (token_in piece) piece

abbrev pub names_in : Given → Known → List Mark → List (List ℕ)
names_in given known [] = []
names_in given known (mark ∷ marks) = names_of given known mark.piece ++ names_in given known marks
