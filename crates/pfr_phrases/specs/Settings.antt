-- Settings that are written otherwise.
use Rattle.std.specs.Prelude.{ℕ, if◌then◌else◌, List, [], ◌∷◌, codes, Option, Some, None}
use Rattle.pfr_words.specs.Names.{entry_of}
use Rattle.pfr_marks.specs.declared.mark.Mark.{Mark}
use Rattle.pfr_marks.specs.Marks.{is}
use Rattle.pfr_phrases.specs.declared.phrases.Phrase.{Phrase}
use Rattle.pfr_phrases.specs.Tables.{timeouts_of_optimizations}

abbrev pub two_of : Option Phrase → Option (ℕ × Phrase)
two_of None = None
two_of (Some phrase) = Some (2, phrase)

unfoldable pub optimization_at : List Mark → Option Phrase
optimization_at [] = None
optimization_at (second ∷ marks) = entry_of timeouts_of_optimizations second.piece

-- the setting at the front of marks that is written otherwise, and how many marks it has
unfoldable pub setting_at : List Mark → Option (ℕ × Phrase)
setting_at [] = None
setting_at (first ∷ marks) = if is (codes "optimization") first then two_of (optimization_at marks) else None
