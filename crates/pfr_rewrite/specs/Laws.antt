-- What holds of all changes of a text, and of the text that they make.
use Rattle.std.specs.Prelude.{◌≡◌, ◌≤◌, ⊤, ℕ, zero, suc, ◌+◌, if◌then◌else◌, Bool, List, [], ◌∷◌, ◌++◌, length, drop, Option, Some, None}
use Rattle.pfr_given.specs.declared.entry.Given.{Given}
use Rattle.pfr_words.specs.Words.{newlines}
use Rattle.pfr_marks.specs.Marks.{marks}
use Rattle.pfr_marks.specs.declared.mark.Mark.{Mark}
use Rattle.pfr_phrases.specs.Applying.{between, lines_of, rewritten, written}
use Rattle.pfr_phrases.specs.Changes.{IsAtWord}
use Rattle.pfr_phrases.specs.declared.change.Change.{Change}
use Rattle.pfr_phrases.specs.declared.change.Text.{Text}
use Rattle.pfr_rewrite.specs.Whole.{changes}

-- ---- a change is said of a word

abbrev pub AreAtWords : List Change → List Mark → Type 0
AreAtWords [] marks = ⊤
AreAtWords (change ∷ changes) marks = IsAtWord change.finding marks × AreAtWords changes marks

-- each change of a text is said of a word of the text, at its place
abbrev pub EachFindingIsAtAWord : Type 0
EachFindingIsAtAWord = (text : List ℕ) (own : List (List ℕ)) (given : Given) → AreAtWords (changes text own given) (marks text)

-- ---- changes lie one behind the other

-- changes of the bytes between two offsets: each begins where the one before it ends, or behind it, and ends behind its beginning
abbrev pub LieBetween : (from end : ℕ) → List Change → Type 0
LieBetween from end [] = from ≤ end
LieBetween from end (change ∷ changes) = (from ≤ change.from) × (change.from ≤ change.to.offset) × LieBetween change.to.offset end changes

-- the changes of a text lie within it, in their order, and no two have a byte in common
abbrev pub ChangesLieOneBehindTheOther : Type 0
ChangesLieOneBehindTheOther = (text : List ℕ) (own : List (List ℕ)) (given : Given) → LieBetween 0 (length text) (changes text own given)

-- ---- what stands between changes stays

abbrev pub bytes_of : Option Text → List ℕ
bytes_of None = []
bytes_of (Some text) = text.bytes

-- `count` ends of lines
abbrev pub line_ends : (count : ℕ) → List ℕ
line_ends zero = []
line_ends (suc count) = 10 ∷ line_ends count

abbrev pub blank_if : Bool → List ℕ
blank_if blank = if blank then 32 ∷ [] else []

-- what a change writes in the place of its bytes
abbrev pub writes : Change → List ℕ
writes change =
    blank_if change.parted ++ bytes_of change.text ++ written change.becomes change.finding.word
    ++ line_ends (lines_of change.becomes) ++ blank_if change.blank

-- the text from an offset on: its bytes up to the first change, what that writes, and the text from its end on
abbrev pub replaced_from : ℕ → List ℕ → List Change → List ℕ
replaced_from from text [] = drop from text
replaced_from from text (change ∷ changes) = between from change.from text ++ writes change ++ replaced_from change.to.offset text changes

-- the bytes between changes stand in the new text as they stood, in their order, with what each change writes between them
abbrev pub WhatStandsBetweenStays : Type 0
WhatStandsBetweenStays = (text : List ℕ) (changes : List Change) → (rewritten text changes).text ≡ replaced_from 0 text changes

-- ---- each line has its line

-- the list of lines beside the new text has one entry for each line of it: one more than it has ends of lines
abbrev pub EachLineHasItsLine : Type 0
EachLineHasItsLine = (text : List ℕ) (own : List (List ℕ)) (given : Given)
    → let made = rewritten text (changes text own given) in length made.lines ≡ newlines made.text + 1
