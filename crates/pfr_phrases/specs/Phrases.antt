-- The words of rules that are rewritten by themselves.
use Rattle.std.specs.Prelude.{ℕ, ◌==◌, if◌then◌else◌, List, [], ◌∷◌, Option, Some, None}
use Rattle.pfr_words.specs.Names.{entry_of}
use Rattle.pfr_marks.specs.declared.mark.Mark.{Mark}
use Rattle.pfr_phrases.specs.declared.phrases.Phrase.{Phrase}
use Rattle.pfr_phrases.specs.Lengths.{taken_len}
use Rattle.pfr_phrases.specs.Tables.{phrases_of_files, phrases_of_labels, phrases_of_pools, phrases_of_rules}

abbrev pub phrase_of : Option Phrase → List Mark → Option (ℕ × Phrase)
phrase_of None behind = None
phrase_of (Some phrase) behind = let len = taken_len phrase.0 behind in if len == 0 then None else Some (len, phrase)

-- the phrase of a table that begins at the front of marks, and how many marks it has
unfoldable pub phrase_at : List (List ℕ × Phrase) → List Mark → Option (ℕ × Phrase)
phrase_at table [] = None
phrase_at table (first ∷ behind) = phrase_of (entry_of table first.piece) behind

unfoldable pub rule_phrase_at : List Mark → Option (ℕ × Phrase)
rule_phrase_at marks = phrase_at phrases_of_rules marks

unfoldable pub pool_phrase_at : List Mark → Option (ℕ × Phrase)
pool_phrase_at marks = phrase_at phrases_of_pools marks

unfoldable pub file_phrase_at : List Mark → Option (ℕ × Phrase)
file_phrase_at marks = phrase_at phrases_of_files marks

unfoldable pub label_phrase_at : List Mark → Option (ℕ × Phrase)
label_phrase_at marks = phrase_at phrases_of_labels marks
