-- What is written for words.
use Rattle.std.specs.Prelude.{ℕ, ◌&&◌, Bool, List, map, filter, take, drop, length}
use Rattle.std.specs.Str.{bytes_eq}
use denote.Enum.Bare.{sameb}
use Rattle.pfr_given.specs.contracts.entry.Subject.{the_type}
use Rattle.pfr_given.specs.declared.entry.Entry.{Entry}
use Rattle.pfr_given.specs.declared.entry.Given.{Given}
use Rattle.pfr_given.specs.declared.entry.Subject.{Subject}

abbrev pub entry : Subject → (word text : List ℕ) → Entry
entry subject word text = record { subject = subject; word = word; text = text }

unfoldable pub is_same : Subject → Subject → Bool
is_same = sameb the_type

-- a text is these two, one behind the other
abbrev pub is_both : (text front back : List ℕ) → Bool
is_both text front back = bytes_eq (take (length front) text) front && bytes_eq (drop (length front) text) back

-- an entry is for this word, as this subject
abbrev pub is_for : Subject → List ℕ → Entry → Bool
is_for subject word e = is_same subject e.subject && bytes_eq e.word word

-- the texts that stand for a word as this subject, in order
unfoldable pub texts_of : Given → Subject → List ℕ → List (List ℕ)
texts_of given subject word = map (λ e. e.text) (filter (is_for subject word) given.entries)

-- the same text for each of these words
abbrev pub entries_for : Subject → List (List ℕ) → List ℕ → List Entry
entries_for subject words text = map (λ word. entry subject word text) words
